-- `planes::parts::digits` meets its contract. Assumes nothing.
use mathlib.Core.Path.{refl, sym, ap, ◌∙◌}
use mathlib.Core.Logic.{⊎_elim}
use Prim.Native.Nat.{ℕ, ◌<◌}
use native.Mathlib.Omega.{arith}
use borrow.Author.Count.{below_none}
use lib.ListN.{length, get_or, length-set, get_or-eq_default}
use Rattle.words.specs.Digits.{bit}
use Rattle.words.proofs.DigitLaws.{lt_or_ge}
use Rattle.words.proofs.ListLaws.{filled_more, rest_more}
use Rattle.planes.proofs.WordLaws.{bit-none}
use Rattle.planes.proofs.parts.digits.Goals as goal

pub loop-i-init : goal.loop-i-init
loop-i-init c = (refl, below_none _, λ k l. refl)

pub loop-i-preserved : goal.loop-i-preserved
unfolding bit
loop-i-preserved c =
    let a = c.args in
    let l = c.loop-i in
    let byte : get_or a.q.now l.i 0 < 256 = omega (arith, c.type_inv.q l.i) in (
      simp length-set l.invariant.0,
      filled_more (λ k. bit (get_or a.q.now k 0) a.p) l.d l.i _ (omega arith) l.invariant.1 (grind arith),
      rest_more a.d.now l.d l.i _ l.invariant.2,
    )

pub returns : goal.returns
returns c = λ k.
    let a = c.args in
    let v = c.loop-i.invariant in
    ⊎_elim
    (λ l. v.1 k (omega arith))
    (λ l. v.2 k (omega arith) ∙ c.requires.2 k ∙ sym (bit-none a.p) ∙ ap (λ (x : ℕ). bit x a.p)
    (sym (get_or-eq_default a.q.now 0 {n = k} l)))
    (lt_or_ge k (length a.q.now))
