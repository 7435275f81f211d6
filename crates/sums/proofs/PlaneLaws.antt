-- Module 6 by bit planes: the four counts, weighted 1, 2, 4, 8, are the plain sum. Assumes nothing.
use mathlib.Core.Path.{◌≡◌, ap, ◌∙◌}
use Prim.Native.Nat.{ℕ, zero, suc, ◌+◌, ◌*◌, ◌/◌, ◌%◌, ◌<◌, ◌≤◌}
use mathlib.Core.List.{List}
use native.Mathlib.Omega.{arith}
use native.Mathlib.Nat.{zero-mul, mul-zero, mul-one}
use native.Mathlib.Nat.{not-suc-le-zero, le_of_suc-le-suc}
use lib.ListN.{length, get_or, get_or-eq_default}
use lib.Bits.{bit_and, and_comm}
use lib.Count.{ones}
use Rattle.words.specs.Bytes.{num_at}
use Rattle.words.specs.Digits.{bit}
use Rattle.words.specs.Limits.{top_code}
use Rattle.words.specs.Sums.{sum_to}
use Rattle.words.proofs.SumLaws.{sum_ext, sum-four, sum_blocks, sum_pad}
use Rattle.words.proofs.DigitLaws.{bit-lt, bit-four, bits_lt, bit-join, ones_and}
use Rattle.code.specs.Code.{code_words, words_bit}
use Rattle.code.proofs.CodeLaws.{words_bit_lem}
use Rattle.sums.specs.Sums.{plain_sum, plane_word, plane_ones, plane_count, QueryCodes}

pub words_bit-lt : (words : List ℕ) (d : ℕ) → words_bit words d < 2
unfolding words_bit
words_bit-lt words d = bit-lt (get_or words (d / 8) 0) (d % 8)

-- one plane of one word
ones_plane : (qs : List ℕ) (p w a : ℕ) → ones (bit_and a (plane_word qs p w)) ≡ sum_to 64 (λ i. bit (get_or qs (64 * w + i) 0) p * bit a i)
unfolding plane_word
ones_plane qs p w a =
    ap ones (and_comm a (plane_word qs p w)) ∙ ones_and 64 (plane_word qs p w) a (bits_lt 64 f two)
    ∙ sum_ext 64 (λ i. bit (plane_word qs p w) i * bit a i) (λ i. f i * bit a i) (λ i l. ap (λ (x : ℕ). x * bit a i) (bit-join 64 i f two l))
  where
    f : ℕ → ℕ
    f i = bit (get_or qs (64 * w + i) 0) p

    two : (i : ℕ) → f i < 2
    two i = bit-lt (get_or qs (64 * w + i) 0) p

-- the four planes of one word: the plain sum over the word's 64 dimensions
word_sum : (qs : List ℕ) → QueryCodes qs → (w a : ℕ)
    → ones (bit_and a (plane_word qs 0 w)) + 2 * ones (bit_and a (plane_word qs 1 w)) + 4 * ones (bit_and a (plane_word qs 2 w))
    + 8 * ones (bit_and a (plane_word qs 3 w))
    ≡ sum_to 64 (λ i. get_or qs (64 * w + i) 0 * bit a i)
word_sum qs q w a =
    rw (ones_plane qs 0 w a, ones_plane qs 1 w a, ones_plane qs 2 w a, ones_plane qs 3 w a)
    (sum-four 64 (plane 0) (plane 1) (plane 2) (plane 3)
    ∙ sum_ext 64 (λ i. plane 0 i + 2 * plane 1 i + 4 * plane 2 i + 8 * plane 3 i) (λ i. get_or qs (64 * w + i) 0 * bit a i)
    (λ i l. weigh (get_or qs (64 * w + i) 0) (bit a i) (q.small (64 * w + i)) (bit-lt a i)))
  where
    plane : ℕ → ℕ → ℕ
    plane p i = bit (get_or qs (64 * w + i) 0) p * bit a i

    weigh : (c b : ℕ) → c ≤ top_code → b < 2 → bit c 0 * b + 2 * (bit c 1 * b) + 4 * (bit c 2 * b) + 8 * (bit c 3 * b) ≡ c * b
    weigh c zero hc hb = simp mul-zero
    weigh c (suc zero) hc hb = simp mul-one (bit-four c (omega arith))
    weigh c (suc (suc b)) hc hb = absurd (not-suc-le-zero (le_of_suc-le-suc (le_of_suc-le-suc hb)))

pub planes_plain : (qs words : List ℕ) → QueryCodes qs → ((k : ℕ) → get_or words k 0 < 256) → plane_count qs words ≡ plain_sum qs (words_bit words)
unfolding plain_sum plane_count plane_ones
planes_plain qs words q bytes =
    sum-four n (at 0) (at 1) (at 2) (at 3)
    ∙ sum_ext n (λ w. at 0 w + 2 * at 1 w + 4 * at 2 w + 8 * at 3 w) (λ w. sum_to 64 (λ i. term (64 * w + i)))
    (λ w _. word_sum qs q w (num_at 8 words (8 * w))
    ∙ sum_ext 64 (λ i. get_or qs (64 * w + i) 0 * bit (num_at 8 words (8 * w)) i) (λ i. term (64 * w + i))
    (λ i li. ap (λ (x : ℕ). get_or qs (64 * w + i) 0 * x) (words_bit_lem words bytes w i li)))
    ∙ sum_blocks 64 n term
    ∙ sum_pad (length qs) (64 * n) term (omega arith)
    (λ d ld. ap (λ (x : ℕ). x * words_bit words d) (get_or-eq_default qs 0 ld) ∙ zero-mul (words_bit words d))
  where
    n : ℕ
    n = code_words (length qs)

    term : ℕ → ℕ
    term d = get_or qs d 0 * words_bit words d

    at : ℕ → ℕ → ℕ
    at p w = ones (bit_and (num_at 8 words (8 * w)) (plane_word qs p w))
