-- `digits::Width::try_from` meets its contract. Assumes nothing.
use native.Mathlib.Omega.{arith}
use Rattle.std.proofs.Common.{◌≢◌, refl}
use mathlib.Core.Path.{sym, ◌∙◌, ap}
use borrow.Author.Tests.{ne_eqb}
use Rattle.digits.specs.Digits.{bits_of, is_width}
use Rattle.digits.proofs.WidthTryFromU32.try_from.Goals as goal

pub returns-in-1 : goal.returns-in-1
unfolding is_width
returns-in-1 c = let k = c.in-1.is in (rw k refl, ap bits_of c.one.ensures ∙ sym k)

pub returns-in-2 : goal.returns-in-2
unfolding is_width
returns-in-2 c = let k = c.in-2.is in (rw k refl, ap bits_of c.two.ensures ∙ sym k)

pub returns-in-4 : goal.returns-in-4
unfolding is_width
returns-in-4 c = let k = c.in-4.is in (rw k refl, ap bits_of c.four.ensures ∙ sym k)

pub returns-in-8 : goal.returns-in-8
unfolding is_width
returns-in-8 c = let k = c.in-8.is in (rw k refl, ap bits_of c.eight.ensures ∙ sym k)

pub returns-in_default : goal.returns-in_default
unfolding is_width
returns-in_default c =
    let b = c.args.bits in
    let one : b ≢ 1 = omega arith in
    let two : b ≢ 2 = omega arith in
    let four : b ≢ 4 = omega arith in
    let eight : b ≢ 8 = omega arith in
    ((simp (ne_eqb b 1 one, ne_eqb b 2 two, ne_eqb b 4 four, ne_eqb b 8 eight), refl), tt)
