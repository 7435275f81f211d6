-- The greatest sum: codes of one number, all bits set. Assumes nothing.
use mathlib.Core.Path.{◌≡◌, refl, ap, ap₂, ◌∙◌}
use Prim.Native.Nat.{ℕ, zero, suc, ◌*◌, ◌/◌, ◌%◌, ◌<◌, ◌≤◌}
use native.Mathlib.Omega.{arith}
use native.Mathlib.Nat.{mul-one}
use lib.ListN.{length, get_or, replicate, length-replicate, get_or-replicate}
use Rattle.words.specs.Digits.{bit}
use Rattle.words.proofs.SumLaws.{sum_ext, sum_const}
use Rattle.code.specs.Code.{words_bit}
use Rattle.sums.specs.Sums.{plain_sum}

ones_of : (j : ℕ) → j < 8 → bit 255 j ≡ 1
unfolding bit
ones_of zero h = refl
ones_of (suc zero) h = refl
ones_of (suc (suc zero)) h = refl
ones_of (suc (suc (suc zero))) h = refl
ones_of (suc (suc (suc (suc zero)))) h = refl
ones_of (suc (suc (suc (suc (suc zero))))) h = refl
ones_of (suc (suc (suc (suc (suc (suc zero)))))) h = refl
ones_of (suc (suc (suc (suc (suc (suc (suc zero))))))) h = refl
ones_of (suc (suc (suc (suc (suc (suc (suc (suc j)))))))) h = absurd (omega arith)

-- n codes of one number, all bits set, in a code of m bytes
pub full_sum : (n m c : ℕ) → n ≤ 8 * m → plain_sum (replicate n c) (words_bit (replicate m 255)) ≡ c * n
unfolding plain_sum words_bit
full_sum n m c h =
    sum_ext (length (replicate n c)) (λ d. get_or (replicate n c) d 0 * bit (get_or (replicate m 255) (d / 8) 0) (d % 8)) (λ _. c) term
    ∙ sum_const c (length (replicate n c)) ∙ ap (λ (k : ℕ). c * k) (length-replicate {A = ℕ} n c)
  where
    term : (d : ℕ) → d < length (replicate n c) → get_or (replicate n c) d 0 * bit (get_or (replicate m 255) (d / 8) 0) (d % 8) ≡ c
    term d l =
        let l' : d < n = omega (arith, length-replicate {A = ℕ} n c) in
        ap₂ (λ (x y : ℕ). x * bit y (d % 8)) (get_or-replicate {A = ℕ} n d c 0 l') (get_or-replicate {A = ℕ} m (d / 8) 255 0 (omega arith))
        ∙ ap (λ (y : ℕ). c * y) (ones_of (d % 8) (omega arith)) ∙ mul-one c
