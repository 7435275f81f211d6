-- The cases of `square_root`: a NaN, the infinity and the zeros by their patterns, and the patterns with a sign that are no zero.
-- Assumes nothing.
use mathlib.Core.Path.{◌≡◌, refl, sym, ap, ◌∙◌, subst}
use mathlib.Core.Bool.{Bool, true, false, cond, true≢false}
use mathlib.Core.Logic.{◌⊎◌, inl, inr}
use Prim.Native.Nat.{ℕ, zero, suc, ◌+◌, ◌*◌, ◌/◌, ◌%◌, ◌^◌, ◌≤◌, ◌<◌}
use native.Mathlib.Nat.{mul-pos, zero-mul}
use native.Mathlib.Omega.{arith}
use lib.Dec.{T, leb, ltb, eqb}
use lib.Pow.{pow_pos}
use lib.Ieee.{Float, nan, inf, fin, binary32, up, odd, of_fields, of_bits, to_bits, fits, is_nan}
use lib.Ieee.Fits.{down_pos}
use lib.Ieee.Bits.{of_bits-to_bits, to_bits-lt}
use lib.Ieee.Exact.{HasValue, odd_sign}
use borrow.Author.Tests.{leb-true, leb-false, ltb-true, ltb-false, le-leb}
use Rattle.std.specs.Prelude.{Some, None}
use Rattle.words.proofs.FloatLaws.{is_nan_lem, nan_pattern}
use Rattle.root.specs.Root.{root_of}

-- ---- no number

pub root_of-nan : (x : Float) → is_nan x ≡ true → None ≡ root_of x
unfolding root_of
root_of-nan x h = rw (is_nan_lem x h) refl

-- ---- the patterns of the infinity and of the zeros

-- what holds of the float of the pattern c holds of x, where c is x's pattern
at-pattern : (x : Float) → T (fits binary32 x) → (c : ℕ) → to_bits binary32 x ≡ c
    → Some (of_bits binary32 c) ≡ root_of (of_bits binary32 c) → Some x ≡ root_of x
at-pattern x f c e = subst (λ (v : Float). Some v ≡ root_of v) (sym (ap (of_bits binary32) e) ∙ of_bits-to_bits binary32 x f)

pub root_infinite : (x : Float) → T (fits binary32 x) → to_bits binary32 x ≡ 0x7F80_0000 → Some x ≡ root_of x
unfolding root_of of_bits
root_infinite x f h = at-pattern x f 0x7F80_0000 h refl

pub root_zero : (x : Float) → T (fits binary32 x) → to_bits binary32 x % 0x8000_0000 ≡ 0 → Some x ≡ root_of x
unfolding root_of of_bits
root_zero x f h = by_sign (leb 0x8000_0000 (to_bits binary32 x)) refl
  where
    by_sign : (s : Bool) → leb 0x8000_0000 (to_bits binary32 x) ≡ s → Some x ≡ root_of x
    by_sign true e =
        at-pattern x f 0x8000_0000 (omega (arith, leb-true 0x8000_0000 (to_bits binary32 x) e, to_bits-lt binary32 x f)) refl
    by_sign false e = at-pattern x f 0 (let u = leb-false 0x8000_0000 (to_bits binary32 x) e in omega arith) refl

-- ---- the patterns with a sign

below-zero : (v : Float) (n d : ℕ) → HasValue v true n d → 0 < n → None ≡ root_of v
unfolding root_of
below-zero nan n d v h = absurd v
below-zero (inf s) n d v h = absurd v
below-zero (fin true zero e) n d v h = absurd (omega (arith, zero-mul (up e), zero-mul d, v.1, mul-pos h (down_pos e)))
below-zero (fin true (suc m) e) n d v h = refl
below-zero (fin false m e) n d v h = absurd (true≢false (sym v.0))

odd-below : (d q k l : ℕ) → 0 < q → None ≡ root_of (odd d true q k l)
odd-below d q k l h = below-zero (odd d true q k l) (q * 2 ^ k) (2 ^ l) (odd_sign d true q k l) (mul-pos h (pow_pos k))

-- the exponent's field is x, and the others are t
fields-below : (x t : ℕ) → 0 < x * 0x80_0000 + t → None ≡ root_of (of_fields binary32 true x t)
unfolding of_fields root_of
fields-below zero t h = odd-below 24 t 0 149 (omega arith)
fields-below (suc x) t h = go (eqb (suc x) 255) (eqb t 0)
  where
    go : (a c : Bool) → None ≡ root_of (cond a (cond c (inf true) nan) (odd 24 true (0x80_0000 + t) x 149))
    go true true = refl
    go true false = refl
    go false c = odd-below 24 (0x80_0000 + t) x 149 (omega arith)

pattern-below : (b : ℕ) → 0x8000_0000 < b → b < 0x1_0000_0000 → None ≡ root_of (of_bits binary32 b)
unfolding of_bits
pattern-below b h l =
    rw (le-leb 0x8000_0000 b (omega arith)) (fields-below (b % 0x8000_0000 / 0x80_0000) (b % 0x80_0000) (omega arith))

pub root_below : (x : Float) → T (fits binary32 x) → 0x8000_0000 < to_bits binary32 x → None ≡ root_of x
root_below x f h =
    subst (λ (v : Float). None ≡ root_of v) (of_bits-to_bits binary32 x f)
    (pattern-below (to_bits binary32 x) h (to_bits-lt binary32 x f))

-- ---- what is left but the positive numbers

pub root_same : (x : Float) → T (fits binary32 x) → is_nan x ≡ false → to_bits binary32 x ≤ 0x8000_0000
    → (to_bits binary32 x ≡ 0) ⊎ ((to_bits binary32 x ≡ 0 → ⊥) × (0x7F80_0000 ≤ to_bits binary32 x)) → Some x ≡ root_of x
unfolding is_nan
root_same x f n h (inl z) = root_zero x f (omega (arith, z))
root_same x f n h (inr w) = go (ltb 0x7F80_0000 (to_bits binary32 x % 0x8000_0000)) refl
  where
    high : 0x7F80_0000 ≤ to_bits binary32 x
    high = w.1

    go : (t : Bool) → ltb 0x7F80_0000 (to_bits binary32 x % 0x8000_0000) ≡ t → Some x ≡ root_of x
    go true t =
        let e : x ≡ nan = sym (of_bits-to_bits binary32 x f) ∙ nan_pattern (to_bits binary32 x) (ltb-true _ _ t) in
        absurd (true≢false (subst (λ (v : Float). is_nan v ≡ false) e n))
    go false t = by_top (leb 0x8000_0000 (to_bits binary32 x)) refl
      where
        low : to_bits binary32 x % 0x8000_0000 ≤ 0x7F80_0000
        low = ltb-false _ _ t

        by_top : (s : Bool) → leb 0x8000_0000 (to_bits binary32 x) ≡ s → Some x ≡ root_of x
        by_top true s = root_zero x f (let g = leb-true _ _ s in omega (arith, g, h))
        by_top false s = root_infinite x f (let g = leb-false _ _ s in omega (arith, g, high, low))
