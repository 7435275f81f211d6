-- Operations on floats, floats that are numbers, and buffers of them.
use Rattle.std.specs.Prelude.{ℕ, zero, suc, Bool, true, false, List, Float}
use Rattle.std.specs.Float.{nan, inf, fin, binary32}
use Rattle.std.specs.Float.Ieee.{is_nan, add, sub, mul, div, of_bits}
use Rattle.words.specs.Bytes.{f32_at}
use Rattle.words.specs.Lists.{any_below}

infixl 20 ◌⊕◌
infixl 20 ◌⊖◌
infixl 30 ◌⊗◌
infixl 30 ◌⊘◌
-- sum, difference, product and quotient, each rounded once
abbrev pub ◌⊕◌ : Float → Float → Float
x ⊕ y = add binary32 x y

abbrev pub ◌⊖◌ : Float → Float → Float
x ⊖ y = sub binary32 x y

abbrev pub ◌⊗◌ : Float → Float → Float
x ⊗ y = mul binary32 x y

abbrev pub ◌⊘◌ : Float → Float → Float
x ⊘ y = div binary32 x y

-- +0.0
abbrev pub plus_zero : Float
plus_zero = of_bits binary32 0

-- f 0, f 1, .., f (n - 1) added to s, one after the other
unfoldable pub added_to : Float → ℕ → (ℕ → Float) → Float
added_to s zero f = s
added_to s (suc n) f = added_to s n f ⊕ f n

-- a NaN or an infinity
abbrev pub not_finite : Float → Bool
not_finite nan = true
not_finite (inf s) = true
not_finite (fin s m e) = false

-- MISSING of a buffer of n floats: one of them is a NaN or an infinity
unfoldable pub missing : ℕ → List ℕ → Bool
unfolding any_below
missing n s = any_below n (λ i. not_finite (f32_at s i))

-- one of the first n floats is a NaN
unfoldable pub any_nan : ℕ → List ℕ → Bool
any_nan n s = any_below n (λ i. is_nan (f32_at s i))
