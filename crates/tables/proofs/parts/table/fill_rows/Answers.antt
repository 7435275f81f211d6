-- `tables::parts::table::fill_rows` meets its contract, over the width. Assumes nothing.
use Prim.Native.Nat.{◌*◌, ◌+◌, ◌≤◌}
use mathlib.Core.Path.{◌≡◌, refl, sym, ◌∙◌}
use native.Mathlib.Nat.{mul-le-mul_right}
use native.Mathlib.Omega.{arith}
use lib.Seq.{length-sets}
use Rattle.words.specs.Lists.{joined}
use Rattle.words.proofs.ByteLaws.{sets_all}
use Rattle.words.proofs.ListLaws.{joined-none, length-joined}
use Rattle.digits.specs.Digits.{levels}
use Rattle.scalar.specs.Table.{entry_at, table_bytes}
use Rattle.scalar.proofs.ScalarLaws.{length-row, levels_le, piece_more}
use Rattle.tables.proofs.parts.table.fill_rows.Invariants.{row}
use Rattle.tables.proofs.parts.table.fill_rows.Goals as goal
use Rattle.tables.proofs.parts.table.fill_rows.Goals.{In-loop-i}

pub loop-i-init : goal.loop-i-init
loop-i-init g c = rw joined-none refl

-- row i is within the table
within : (g : _) (c : In-loop-i g) → let n = levels g.row.BITS in let d = c.args.v.dims in
    (c.loop-i.i * n + n ≤ d * n) × (n ≤ 256)
within g c =
    let w = g.row.BITS in
    let t : c.loop-i.i + 1 ≤ c.args.v.dims = omega arith in
    (omega (arith, mul-le-mul_right (levels w) t), levels_le w c.requires.0)

pub put_row-requires : goal.put_row-requires
put_row-requires g c =
    let t = within g (goal.at.put_row-requires g c).In-loop-i in let r = c.requires.1 in
    rw (c.from.ensures, c.levels-n.ensures.0) (t.1, rw c.loop-i.invariant (simp length-sets (omega arith)))

pub overflow_mul-i : goal.overflow_mul-i
overflow_mul-i g c =
    let t = within g (goal.at.overflow_mul-i g c).In-loop-i in rw (c.from.ensures, c.levels-n.ensures.0) (omega arith)

pub overflow_mul-i-in-loop-i : goal.overflow_mul-i-in-loop-i
overflow_mul-i-in-loop-i g c =
    let t = within g (goal.at.overflow_mul-i-in-loop-i g c).In-loop-i in rw (c.from.ensures, c.levels-n.ensures.0) (omega arith)

pub loop-i-preserved : goal.loop-i-preserved
unfolding entry_at
loop-i-preserved g c =
    let a = c.args in let l = c.loop-i in let w = g.row.BITS in
    c.put_row.ensures
    ∙ rw (c.del_of.ensures, c.at-x.ensures, c.from.ensures, c.levels-n.ensures.0, c.top.ensures, l.invariant)
    (piece_more (levels w * 4) (row a.m w a.v) (λ i. length-row (levels w) _) a.out.now 0 l.i (4 * (l.i * levels w)) (omega arith))

pub shape_of-out : goal.shape_of-out
shape_of-out g c = rw c.loop-i.invariant (simp length-sets)

pub returns : goal.returns
unfolding table_bytes
returns g c =
    let l = c.loop-i in let a = c.args in let w = g.row.BITS in let d = a.v.dims in
    let r = row a.m w a.v in
    let e : l.i ≡ d = omega arith in
    let n = length-joined (levels w * 4) d r (λ i q. length-row (levels w) _) in
    rw (l.invariant, e) (sets_all a.out.now (joined d r) (c.requires.1 ∙ sym (n ∙ omega arith)))
