-- Laws of floats by their bit patterns: NaNs, infinities, and buffers that have none; and of their sums. Assumes nothing.
use Prim.Native.Nat.{ℕ, zero, suc, ◌+◌, ◌-◌, ◌*◌, ◌/◌, ◌%◌, ◌^◌, ◌<◌, ◌≤◌}
use mathlib.Core.Bool.{Bool, true, false, not, cond}
use mathlib.Core.List.{List}
use mathlib.Core.Path.{◌≡◌, refl, sym, ap, ◌∙◌, subst}
use native.Mathlib.Omega.{arith}
use native.Mathlib.Numerals.{add-one}
use native.Mathlib.Nat.{add-zero, add-suc, lt_of_not-le, not-le_of_lt, lt_of_lt_of_le, mul-div_cancel, zero-add}
use lib.Dec.{T, eqb, leb}
use lib.Pow.{pow_mono}
use lib.Ieee.{Float, nan, inf, fin, up, down, size, is_nan, nan_bits, odd, of_fields, of_bits, to_bits, binary32}
use lib.Ieee.Bits.{nan_bits_is, nan_bits_above}
use lib.Ieee.Digits.{size-lt, size-le}
use lib.Ieee.Exact.{HasValue}
use lib.Ieee.Fits.{down_pos}
use borrow.Author.Tests.{le-leb, lt-leb, lt-ltb, le-ltb, eqb-true, eqb-false}
use Rattle.words.specs.Bytes.{num_at, f32_at}
use Rattle.words.specs.Floats.{◌⊕◌, added_to, not_finite, missing, any_nan}
use Rattle.words.specs.Lists.{any_below}
use Rattle.words.proofs.ListLaws.{none-at, any_ext}

-- ---- NaNs

pub is_nan_lem : (x : Float) → is_nan x ≡ true → x ≡ nan
unfolding is_nan
is_nan_lem nan e = refl
is_nan_lem (inf s) e = absurd (subst T (sym e) tt)
is_nan_lem (fin s m e) h = absurd (subst T (sym h) tt)

-- a pattern above an infinity's, its sign dropped, is a NaN
pub nan_pattern : (n : ℕ) → 0x7F80_0000 < n % 0x8000_0000 → of_bits binary32 n ≡ nan
nan_pattern n h = is_nan_lem (of_bits binary32 n) (sym (nan_bits_is binary32 n) ∙ nan_bits_above binary32 n ∙ lt-ltb _ _ h)

pub number_pattern : (n : ℕ) → is_nan (of_bits binary32 n) ≡ false → T (not (nan_bits binary32 n))
number_pattern n e = subst (λ (b : Bool). T (not b)) (sym (nan_bits_is binary32 n ∙ e)) tt

-- any other is none
pub no_nan-pattern : (n : ℕ) → n % 0x8000_0000 ≤ 0x7F80_0000 → T (not (nan_bits binary32 n))
no_nan-pattern n h = subst (λ (b : Bool). T (not b)) (sym (nan_bits_above binary32 n ∙ le-ltb _ _ h)) tt

-- the NaN of the source
pub nan_constant : of_bits binary32 0x7FC0_0000 ≡ nan
unfolding of_bits
nan_constant = refl

-- the one pattern that a NaN is written as
pub nan_written : (x : Float) → is_nan x ≡ true → to_bits binary32 x ≡ 0x7FC0_0000
unfolding to_bits
nan_written x e = rw (is_nan_lem x e) refl

-- ---- floats that are not finite

fields : (s : Bool) (x t : ℕ) → not_finite (of_fields binary32 s x t) ≡ eqb x 255
unfolding of_fields odd
fields s zero zero = refl
fields s zero (suc t) = refl
fields s (suc x) t = go (eqb (suc x) 255) (eqb t 0)
  where
    go : (b c : Bool) → not_finite (cond b (cond c (inf s) nan) (odd 24 s (0x80_0000 + t) x 149)) ≡ b
    go true true = refl
    go true false = refl
    go false c = leading (0x80_0000 + t) (omega arith)
      where
        leading : (q : ℕ) → 0 < q → not_finite (odd 24 s q x 149) ≡ false
        leading zero h = absurd (omega arith)
        leading (suc q) h = refl

same_test : (n : ℕ) → eqb (n % 0x8000_0000 / 0x80_0000) 255 ≡ leb 0x7F80_0000 (n % 0x8000_0000)
same_test n = go (eqb (n % 0x8000_0000 / 0x80_0000) 255) refl
  where
    go : (b : Bool) → eqb (n % 0x8000_0000 / 0x80_0000) 255 ≡ b → b ≡ leb 0x7F80_0000 (n % 0x8000_0000)
    go true h = let e : n % 0x8000_0000 / 0x80_0000 ≡ 255 = eqb-true _ _ h in sym (le-leb 0x7F80_0000 (n % 0x8000_0000) (omega arith))
    go false h = let e : n % 0x8000_0000 / 0x80_0000 ≡ 255 → ⊥ = eqb-false _ _ h in sym (lt-leb 0x7F80_0000 (n % 0x8000_0000) (omega arith))

-- a pattern at an infinity's or above, its sign dropped
pub not_finite-pattern : (n : ℕ) → not_finite (of_bits binary32 n) ≡ leb 0x7F80_0000 (n % 0x8000_0000)
unfolding of_bits
not_finite-pattern n = fields (leb 0x8000_0000 n) (n % 0x8000_0000 / 0x80_0000) (n % 0x80_0000) ∙ same_test n

pub finite_number : (x : Float) → not_finite x ≡ false → is_nan x ≡ false
unfolding is_nan
finite_number nan e = e
finite_number (inf s) e = refl
finite_number (fin s m e) h = refl

-- a float of a buffer of which none is missing
pub none-missing : (n : ℕ) (s : List ℕ) → missing n s ≡ false → (i : ℕ) → i < n → is_nan (f32_at s i) ≡ false
unfolding missing
none-missing n s h i l = finite_number (f32_at s i) (none-at (λ i. not_finite (f32_at s i)) n h i l)

-- ---- buffers, by the bits of their floats

pub missing-from : (n : ℕ) (s : List ℕ) → any_below n (λ i. leb 0x7F80_0000 (num_at 4 s (4 * i) % 0x8000_0000)) ≡ missing n s
unfolding missing f32_at
missing-from n s = any_ext _ _ n (λ i l. sym (not_finite-pattern (num_at 4 s (4 * i))))

pub nan-from : (n : ℕ) (s : List ℕ) → any_below n (λ i. leb 0x7F80_0001 (num_at 4 s (4 * i) % 0x8000_0000)) ≡ any_nan n s
unfolding any_nan f32_at
nan-from n s = any_ext _ _ n (λ i l. sym (nan_bits_above binary32 (num_at 4 s (4 * i))) ∙ nan_bits_is binary32 (num_at 4 s (4 * i)))

-- ---- the pattern of a value

-- a number from 2 ^ j up to below 2 ^ (j + 1) has j + 1 digits
pub size_is : (n j : ℕ) → 2 ^ j ≤ n → n < 2 ^ suc j → size n ≡ suc j
size_is n j lo hi =
    let a : size n ≤ suc j = size-le n (suc j) hi in
    let b : j < size n = lt_of_not-le (λ (g : size n ≤ j). not-le_of_lt (lt_of_lt_of_le (size-lt n) (pow_mono g)) lo) in
    omega arith

-- the pattern of a value of a smallest values
pub bits_of : (v : Float) (a : ℕ) → HasValue v false a (2 ^ 149) → to_bits binary32 v ≡ (size a - 24) * 0x80_0000 + a / 2 ^ (size a - 24)
unfolding to_bits
bits_of nan a h = absurd h
bits_of (inf s) a h = absurd h
bits_of (fin s m e) a h =
    let n : m * up e * 2 ^ 149 / down e ≡ a = ap (λ (x : ℕ). x / down e) h.1 ∙ mul-div_cancel a (down_pos e) in
    rw (n, h.0, zero-add) refl

-- ---- sums, one after the other

pub added_none : (s : Float) (f : ℕ → Float) → s ≡ added_to s 0 f
unfolding added_to
added_none s f = refl

pub added_more : (s : Float) (n : ℕ) (f : ℕ → Float) → added_to s (n + 1) f ≡ added_to s n f ⊕ f n
unfolding added_to
added_more s n f = ap (λ (k : ℕ). added_to s k f) (add-one n)

-- what is added to a sum goes on with it
pub added_on : (s : Float) (k n : ℕ) (f : ℕ → Float) → added_to (added_to s k f) n (λ j. f (k + j)) ≡ added_to s (k + n) f
unfolding added_to
added_on s k zero f = ap (λ (z : ℕ). added_to s z f) (sym (add-zero k))
added_on s k (suc n) f = ap (λ (x : Float). x ⊕ f (k + n)) (added_on s k n f) ∙ ap (λ (z : ℕ). added_to s z f) (sym (add-suc k n))
