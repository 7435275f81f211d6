-- What the constructor of a width from a number of bits finds.
use Rattle.std.specs.Prelude.{ℕ, ◌≡◌, IfOk, not}
use Rattle.std.specs.declared.result.Result.{Result}
use Rattle.words.specs.declared.refusal.Refusal.{Refusal}
use Rattle.words.specs.declared.refusal.Refusal.TheVariants.{BadWidth}
use Rattle.words.specs.Refusals.{RefusedIf}
use Rattle.digits.specs.declared.Width.{Width}
use Rattle.digits.specs.Digits.{bits_of, is_width}

-- what is found of n bits: a width of that many, or BAD_WIDTH exactly where n is no width's
abbrev pub WidthOf : ℕ → Result Width Refusal → Type 0
WidthOf n r = RefusedIf (not (is_width n)) BadWidth r × IfOk r (λ w. bits_of w ≡ n)
