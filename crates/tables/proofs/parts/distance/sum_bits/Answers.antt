-- `tables::parts::distance::sum_bits` meets its contract, over the width: a group of dimensions a turn, then what is left. Assumes nothing.
use Prim.Native.Nat.{ℕ, ◌+◌, ◌-◌, ◌*◌, ◌/◌, ◌%◌, ◌≤◌}
use mathlib.Core.Path.{◌≡◌, refl, ap, ◌∙◌}
use native.Mathlib.Omega.{arith}
use lib.ListN.{length}
use Rattle.words.specs.Floats.{plus_zero}
use Rattle.words.proofs.FloatLaws.{added_none}
use Rattle.digits.specs.Digits.{levels, packed_size}
use Rattle.scalar.specs.Table.{sum_of}
use Rattle.scalar.proofs.ScalarLaws.{rest_long, added_part, code_left, table_left}
use Rattle.tables.proofs.parts.distance.sum_bits.Goals as goal
use Rattle.tables.proofs.parts.distance.sum_bits.Goals.{After-from}

-- where the next n dimensions begin
left : (g : _) (c : After-from g) (k n : ℕ) → k * 8 + n ≤ c.args.dims → let w = g.row.BITS in
    let a = k * (4 * (8 * c.from.result)) in let t = c.args.table.now in let s = c.args.code.now in
    ((a ≤ length t) × (4 * (n * levels w) ≤ length t - a)) × ((k * w ≤ length s) × (packed_size w n ≤ length s - k * w)) × (a ≡ k * (4 * (8 * levels w)))
left g c k n l =
    let a = k * (4 * (8 * c.from.result)) in
    let e : a ≡ k * (4 * (8 * levels g.row.BITS)) = ap (λ (z : ℕ). k * (4 * (8 * z))) (c.from.ensures ∙ c.levels.ensures.0) in
    let p = c.requires in (
      table_left g.row.BITS k n c.args.dims a c.args.table.now c.args.code.now p.0 l e p.2 p.3,
      code_left g.row.BITS k n c.args.dims a c.args.table.now c.args.code.now p.0 l e p.2 p.3,
      e,
    )

pub loop-k-init : goal.loop-k-init
loop-k-init g c = added_none plus_zero _

pub slice_bounds-add_terms-count : goal.slice_bounds-add_terms-count
slice_bounds-add_terms-count g c = (left g (goal.at.slice_bounds-add_terms-count g c).After-from c.loop-k.k 8 (omega arith)).0.0

pub slice_bounds-add_terms-start : goal.slice_bounds-add_terms-start
slice_bounds-add_terms-start g c = (left g (goal.at.slice_bounds-add_terms-start g c).After-from c.loop-k.k 8 (omega arith)).0.0

pub slice_bounds-add_terms-count-in-loop-k : goal.slice_bounds-add_terms-count-in-loop-k
slice_bounds-add_terms-count-in-loop-k g c = (left g (goal.at.slice_bounds-add_terms-count-in-loop-k g c).After-from c.loop-k.k 8 (omega arith)).1.0

pub slice_bounds-add_terms-start-in-loop-k : goal.slice_bounds-add_terms-start-in-loop-k
slice_bounds-add_terms-start-in-loop-k g c = (left g (goal.at.slice_bounds-add_terms-start-in-loop-k g c).After-from c.loop-k.k 8 (omega arith)).1.0

pub add_terms-s-requires : goal.add_terms-s-requires
add_terms-s-requires g c =
    let t = left g (goal.at.add_terms-s-requires g c).After-from c.loop-k.k 8 (omega arith) in
    (c.requires.0, omega arith, rest_long _ _ c.args.table.now t.0.1, rest_long _ _ c.args.code.now t.1.1)

pub loop-k-preserved : goal.loop-k-preserved
loop-k-preserved g c =
    let l = c.loop-k in let a = c.args in
    let t = left g (goal.at.loop-k-preserved g c).After-from l.k 8 (omega arith) in
    let e : l.k * 8 + 8 ≡ (l.k + 1) * 8 = omega arith in
    c.add_terms-s.ensures ∙ added_part g.row.BITS l.k 8 _ l.s a.table.now a.code.now c.requires.0 t.2 l.invariant ∙ rw e refl

pub slice_bounds-add_terms-count-2 : goal.slice_bounds-add_terms-count-2
slice_bounds-add_terms-count-2 g c =
    (left g (goal.at.slice_bounds-add_terms-count-2 g c).After-from (c.args.dims / 8) (c.args.dims % 8) (omega arith)).0.0

pub slice_bounds-add_terms-start-2 : goal.slice_bounds-add_terms-start-2
slice_bounds-add_terms-start-2 g c =
    (left g (goal.at.slice_bounds-add_terms-start-2 g c).After-from (c.args.dims / 8) (c.args.dims % 8) (omega arith)).0.0

pub slice_bounds-add_terms-count-3 : goal.slice_bounds-add_terms-count-3
slice_bounds-add_terms-count-3 g c =
    (left g (goal.at.slice_bounds-add_terms-count-3 g c).After-from (c.args.dims / 8) (c.args.dims % 8) (omega arith)).1.0

pub slice_bounds-add_terms-start-3 : goal.slice_bounds-add_terms-start-3
slice_bounds-add_terms-start-3 g c =
    (left g (goal.at.slice_bounds-add_terms-start-3 g c).After-from (c.args.dims / 8) (c.args.dims % 8) (omega arith)).1.0

pub add_terms-requires : goal.add_terms-requires
add_terms-requires g c =
    let t = left g (goal.at.add_terms-requires g c).After-from (c.args.dims / 8) (c.args.dims % 8) (omega arith) in
    (c.requires.0, omega arith, rest_long _ _ c.args.table.now t.0.1, rest_long _ _ c.args.code.now t.1.1)

pub returns : goal.returns
unfolding sum_of
returns g c =
    let l = c.loop-k in let a = c.args in let d = a.dims in
    let t = left g (goal.at.returns g c).After-from (d / 8) (d % 8) (omega arith) in
    let k : l.k ≡ d / 8 = omega arith in
    let e : d / 8 * 8 + d % 8 ≡ d = omega arith in
    c.add_terms.ensures ∙ added_part g.row.BITS (d / 8) (d % 8) _ l.s a.table.now a.code.now c.requires.0 t.2 (rw k at l.invariant) ∙ rw e refl
