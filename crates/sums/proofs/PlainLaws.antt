-- The plain sum: it goes by the bits alone, and its bound. Assumes nothing.
use mathlib.Core.Path.{◌≡◌, sym, ap, ◌∙◌}
use Prim.Native.Nat.{ℕ, ◌+◌, ◌*◌, ◌<◌, ◌≤◌}
use mathlib.Core.List.{List, [], ◌∷◌}
use native.Mathlib.Omega.{arith}
use native.Mathlib.Nat.{mul-le-mul}
use Rattle.std.specs.List.{sum}
use Rattle.std.proofs.lemmas.List.Sums.{sum_by-cons}
use lib.ListN.{length, get_or, drop}
use Rattle.words.specs.Limits.{top_code, most_sum}
use Rattle.words.specs.Sums.{sum_to}
use Rattle.words.proofs.SumLaws.{sum-none, sum_front, sum_ext, sum_le}
use Rattle.code.specs.Code.{code_bit, words_bit}
use Rattle.code.proofs.CodeLaws.{code-words_bit}
use Rattle.sums.specs.Sums.{plain_sum, query_sum, QueryCodes}

pub plain_ext : (qs : List ℕ) (b b' : ℕ → ℕ) → ((d : ℕ) → d < length qs → b d ≡ b' d) → plain_sum qs b ≡ plain_sum qs b'
unfolding plain_sum
plain_ext qs b b' h =
    sum_ext (length qs) (λ d. get_or qs d 0 * b d) (λ d. get_or qs d 0 * b' d) (λ d l. ap (λ (x : ℕ). get_or qs d 0 * x) (h d l))

-- the sum that is worked out from the word bytes
pub words_sum : (qs code words : List ℕ) → words ≡ drop 16 code → plain_sum qs (words_bit words) ≡ plain_sum qs (code_bit code)
words_sum qs code words e = rw e (plain_ext qs (words_bit (drop 16 code)) (code_bit code) (λ d l. sym (code-words_bit code d)))

pub plain_le : (qs : List ℕ) (b : ℕ → ℕ) → QueryCodes qs → ((d : ℕ) → b d < 2) → plain_sum qs b ≤ most_sum
unfolding plain_sum
plain_le qs b q two =
    let s : sum_to (length qs) (λ d. get_or qs d 0 * b d) ≤ top_code * length qs = sum_le top_code (length qs) (λ d. get_or qs d 0 * b d) term in
    omega (arith, q.few)
  where
    term : (d : ℕ) → get_or qs d 0 * b d ≤ top_code
    term d =
        let one : b d ≤ 1 = omega (arith, two d) in
        mul-le-mul (q.small d) one

-- the sum of all codes, as std adds a list
sum_is : (qs : List ℕ) → sum qs ≡ query_sum qs
unfolding query_sum
sum_is [] = sym (sum-none (λ d. get_or {A = ℕ} [] d 0))
sum_is (x ∷ xs) = sum_by-cons (λ y. y) x xs ∙ ap (λ (n : ℕ). x + n) (sum_is xs) ∙ sym (sum_front (length xs) (λ d. get_or (x ∷ xs) d 0))

query_le : (qs : List ℕ) → QueryCodes qs → query_sum qs ≤ most_sum
unfolding query_sum
query_le qs q = omega (arith, sum_le top_code (length qs) (λ d. get_or qs d 0) q.small, q.few)

pub total_is : (qs : List ℕ) → QueryCodes qs → {r : ℕ} → r ≡ sum qs → (r ≡ query_sum qs) × (r ≤ most_sum)
total_is qs q e = (e ∙ sum_is qs, omega (arith, sum_is qs, query_le qs q))
