-- `scalar::parts::vectors::above_max` meets its contract. Assumes nothing.
use Prim.Native.Nat.{◌≤◌}
use mathlib.Core.Bool.{Bool, true, false, cond}
use mathlib.Core.Path.{◌≡◌, refl, sym, ◌∙◌}
use native.Mathlib.Omega.{arith}
use lib.Ieee.{lt}
use mir.Val.{bool_byte}
use Rattle.words.specs.Bytes.{f32_at}
use Rattle.words.proofs.FloatLaws.{none-missing}
use Rattle.words.proofs.ListLaws.{any_none, any_more}
use Rattle.scalar.specs.Calls.{above_max}
use Rattle.scalar.proofs.parts.vectors.above_max.Goals as goal

one : (b : Bool) → (bool_byte b ≡ cond b 1 0) × (bool_byte b ≤ 1)
one true = (refl, omega arith)
one false = (refl, omega arith)

pub loop-i-init : goal.loop-i-init
loop-i-init c = (omega arith, sym (any_none _))

pub number_at-requires : goal.number_at-requires
number_at-requires c = (omega arith, none-missing _ _ c.requires.4 c.loop-i.i c.loop-i-test.true)

pub number_at-requires-in-loop-i : goal.number_at-requires-in-loop-i
number_at-requires-in-loop-i c = (omega arith, none-missing _ _ c.requires.3 c.loop-i.i c.loop-i-test.true)

pub loop-i-preserved : goal.loop-i-preserved
loop-i-preserved c =
    let l = c.loop-i in let i = l.i in let h = c.args.hi.now in let o = c.args.lo.now in
    let e = rw (c.number_at.ensures, c.number_at-in-loop-i.ensures) at c.from-bad.ensures in
    let b = one (lt (f32_at h i) (f32_at o i)) in
    (omega arith, any_more (λ i. lt (f32_at h i) (f32_at o i)) i l.bad c.from-bad.result l.invariant.1 (e ∙ b.0))

pub returns : goal.returns
unfolding above_max
returns c = let l = c.loop-i in let e : l.i ≡ c.args.n = omega arith in rw (sym e) l.invariant.1
