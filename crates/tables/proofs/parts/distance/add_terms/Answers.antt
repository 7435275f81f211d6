-- `tables::parts::distance::add_terms` meets its contract, over the width. Assumes nothing.
use Prim.Native.Nat.{◌+◌, ◌*◌, ◌≤◌}
use mathlib.Core.Path.{◌≡◌, sym, ◌∙◌}
use native.Mathlib.Omega.{arith}
use lib.Arith.{digits_lt}
use Rattle.digits.specs.Digits.{levels}
use Rattle.digits.proofs.DigitLaws.{within}
use Rattle.words.proofs.FloatLaws.{added_none, added_more}
use Rattle.scalar.specs.Table.{term_at}
use Rattle.scalar.proofs.ScalarLaws.{rows_fit}
use Rattle.tables.proofs.parts.distance.add_terms.Goals as goal
use Rattle.tables.proofs.parts.distance.add_terms.Goals.{After-digit_of-digit}

pub loop-i-init : goal.loop-i-init
loop-i-init g c = added_none _ _

pub digit_of-digit-requires : goal.digit_of-digit-requires
digit_of-digit-requires g c =
    let p = c.requires in (p.0, omega (arith, within g.row.BITS c.loop-i.i c.args.n p.0 c.loop-i-test.true), omega arith)

-- the entry is within the table, and the widest row fits
in_row : (g : _) (c : After-digit_of-digit g) → let n = c.args.n in let r = levels g.row.BITS in
    (c.loop-i.i * r + c.digit_of-digit.result + 1 ≤ n * r) × (n * r + r ≤ 0x100_0000) × (c.from-row.result ≡ r)
in_row g c =
    let n = c.args.n in let r = levels g.row.BITS in
    let l = digits_lt {q = c.loop-i.i} {m = n} {r = c.digit_of-digit.result} {c = r} c.loop-i-test.true c.digit_of-digit.ensures.1 in
    (omega (arith, l), rows_fit g.row.BITS n c.requires.0 c.requires.1, c.from-row.ensures ∙ c.levels.ensures.0)

pub overflow_mul-i : goal.overflow_mul-i
overflow_mul-i g c = let t = in_row g c in rw t.2 (omega arith)

pub overflow_add-i : goal.overflow_add-i
overflow_add-i g c = let t = in_row g (goal.at.overflow_add-i g c).After-digit_of-digit in rw t.2 (omega arith)

pub f32_at-sum-requires : goal.f32_at-sum-requires
f32_at-sum-requires g c = let t = in_row g (goal.at.f32_at-sum-requires g c).After-digit_of-digit in let l = c.requires.2 in rw t.2 (omega arith)

pub loop-i-preserved : goal.loop-i-preserved
unfolding term_at
loop-i-preserved g c =
    let l = c.loop-i in let a = c.args in let w = g.row.BITS in
    let t = in_row g (goal.at.loop-i-preserved g c).After-digit_of-digit in
    rw (c.f32_at-sum.ensures, t.2, c.from.ensures, c.digit_of-digit.ensures.0, l.invariant) (sym (added_more a.s l.i (term_at w a.table.now a.code.now)))

pub returns : goal.returns
returns g c = let l = c.loop-i in let e : l.i ≡ c.args.n = omega arith in rw (sym e) l.invariant
