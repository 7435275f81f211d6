-- The codes of a whole byte, read as one number x with a code in each byte of it and brought together in steps. Assumes nothing.
use Prim.Native.Nat.{ℕ, ◌+◌, ◌*◌, ◌/◌, ◌%◌, ◌<◌, ◌≤◌}
use mathlib.Core.List.{List}
use mathlib.Core.Path.{◌≡◌, ap₂, ◌∙◌}
use native.Mathlib.Omega.{arith}
use native.Mathlib.Nat.{add_assoc, zero-add, add-zero, div-eq_of_lt, add-mul-div_right, add-mul-mod_self_right, mod-eq_of_lt}
use lib.ListN.{get_or}
use Rattle.words.specs.Bytes.{num_at}
use Rattle.words.specs.Digits.{join}
use Rattle.words.specs.Sums.{sum_to}
use Rattle.words.proofs.DigitLaws.{join-lt}

-- bytes are digits of 8 bits
pub four_bytes : (s : List ℕ) (at : ℕ) → num_at 4 s at ≡ join 8 4 (λ j. get_or s (at + j) 0)
unfolding num_at join sum_to
four_bytes s at = simp (add_assoc, add-zero) (omega arith)

pub eight_bytes : (s : List ℕ) (at : ℕ) → num_at 8 s at ≡ join 8 8 (λ j. get_or s (at + j) 0)
unfolding num_at join sum_to
eight_bytes s at = simp (add_assoc, add-zero) (omega arith)

lowest : (x r t : ℕ) → x ≡ r + t * 256 → r < 256 → x % 256 ≡ r
lowest x r t e l = rw (e, add-mul-mod_self_right) (mod-eq_of_lt l)

-- a quotient drops what is under its divisor
kept : (x m l k : ℕ) → 0 < m → l < m → x ≡ l + k * m → x / m ≡ k
kept x m l k z u e = rw (e, add-mul-div_right l k z, div-eq_of_lt u) (zero-add k)

pub two_codes : (x : ℕ) (f : ℕ → ℕ) → ((j : ℕ) → f j < 16) → x ≡ join 8 2 f → (x ≤ 0x0F0F) × ((x + x / 0x10) % 256 ≡ join 4 2 f)
unfolding join sum_to
two_codes x f h e =
    let h₀ = h 0 in let h₁ = h 1 in
    let q : x / 0x10 ≡ 0x10 * f 1 = kept x 0x10 (f 0) (0x10 * f 1) (omega arith) h₀ (omega arith) in
    (omega arith, lowest _ _ (f 1) (omega arith) (omega arith))

pub four_codes : (x p : ℕ) (f : ℕ → ℕ) → ((j : ℕ) → f j < 4) → x ≡ join 8 4 f → p ≡ x + x / 0x40
    → (x ≤ 0x0303_0303) × ((p + p / 0x1000) % 256 ≡ join 2 4 f)
unfolding join sum_to
four_codes x p f h e e₁ =
    let h₀ = h 0 in let h₁ = h 1 in let h₂ = h 2 in let h₃ = h 3 in
    let k₁ = 0x4 * f 1 + 0x400 * f 2 + 0x4_0000 * f 3 in
    let k₂ = 0x10 * f 2 + 0x1040 * f 3 in
    let q₁ : x / 0x40 ≡ k₁ = kept x 0x40 (f 0) k₁ (omega arith) (omega arith) (omega arith) in
    let q₂ : p / 0x1000 ≡ k₂ = kept p 0x1000 (f 0 + 0x104 * f 1 + 0x400 * f 2) k₂ (omega arith) (omega arith) (omega arith) in
    (omega arith, lowest _ _ (f 1 + 0x104 * f 2 + 0x1_0410 * f 3) (omega arith) (omega arith))

-- what the last quotient of eight codes drops and keeps, and what stands above the lowest byte in the end
abbrev dropped : (ℕ → ℕ) → ℕ
dropped f = f 0 + 0x102 * f 1 + 0x1_0204 * f 2 + 0x102_0408 * f 3 + 0x204_0800 * f 4 + 0x408_0000 * f 5 + 0x800_0000 * f 6

abbrev left : (ℕ → ℕ) → ℕ
left f = 0x10 * f 4 + 0x1020 * f 5 + 0x10_2040 * f 6 + 0x1020_4080 * f 7

abbrev above : (ℕ → ℕ) → ℕ
above f = f 1 + 0x102 * f 2 + 0x1_0204 * f 3 + 0x102_0408 * f 4 + 0x1_0204_0810 * f 5 + 0x102_0408_1020 * f 6 + 0x1_0204_0810_2040 * f 7

module _ (f : ℕ → ℕ) where
  all_eight : dropped f + left f * 0x1000_0000 + left f ≡ join 1 8 f + above f * 256
  unfolding join sum_to
  all_eight = omega arith

  module _ (h : (j : ℕ) → f j < 2) where
    dropped-lt : dropped f < 0x1000_0000
    dropped-lt = omega (arith, h 0, h 1, h 2, h 3, h 4, h 5, h 6)

    eight_most : join 8 8 f ≤ 0x0101_0101_0101_0101
    unfolding join sum_to
    eight_most = omega (arith, h 0, h 1, h 2, h 3, h 4, h 5, h 6, h 7)

    pub eight_codes : (x p q : ℕ) → x ≡ join 8 8 f → p ≡ x + x / 0x80 → q ≡ p + p / 0x4000
        → (x ≤ 0x0101_0101_0101_0101) × ((q + q / 0x1000_0000) % 256 ≡ join 1 8 f)
    unfolding join sum_to
    eight_codes x p q e e₁ e₂ =
        let k₁ = 0x2 * f 1 + 0x200 * f 2 + 0x2_0000 * f 3 + 0x200_0000 * f 4 + 0x2_0000_0000 * f 5 + 0x200_0000_0000 * f 6 + 0x2_0000_0000_0000 * f 7 in
        let k₂ = 0x4 * f 2 + 0x408 * f 3 + 0x4_0800 * f 4 + 0x408_0000 * f 5 + 0x4_0800_0000 * f 6 + 0x408_0000_0000 * f 7 in
        let q₁ : x / 0x80 ≡ k₁ = kept x 0x80 (f 0) k₁ (omega arith) (omega (arith, h 0)) (omega arith) in
        let q₂ : p / 0x4000 ≡ k₂ =
        kept p 0x4000 (f 0 + 0x102 * f 1 + 0x200 * f 2) k₂ (omega arith) (omega (arith, h 0, h 1, h 2)) (omega arith) in
        let e₃ : q ≡ dropped f + left f * 0x1000_0000 = omega arith in
        let q₃ = kept q 0x1000_0000 (dropped f) (left f) (omega arith) dropped-lt e₃ in
        (rw e eight_most, lowest _ _ (above f) (ap₂ (λ (a b : ℕ). a + b) e₃ q₃ ∙ all_eight) (join-lt 1 8 f h))
