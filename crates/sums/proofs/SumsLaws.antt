-- Demand 2's law of the sums, as one statement: for query codes of at most 15 and at most 4,369 dims, the plane count and the table count of a
-- single code, and the fast count and the table count of every lane of a block, are the plain sum, which is at most 65,535. Assumes nothing.
use mathlib.Core.Path.{◌≡◌, refl, sym, ap, ap₂, ◌∙◌}
use Prim.Native.Nat.{ℕ, zero, suc, ◌+◌, ◌*◌, ◌/◌, ◌%◌, ◌^◌, ◌<◌, ◌≤◌}
use mathlib.Core.List.{List}
use native.Mathlib.Omega.{arith}
use native.Mathlib.Nat.{mod-lt, div-one, zero-add, not-suc-le-zero, le_of_suc-le-suc}
use lib.Pow.{shr-shr}
use lib.Dec.{lit<}
use lib.ListN.{length, get_or, drop}
use lib.Seq.{get_or-drop}
use Rattle.words.specs.Digits.{bit}
use Rattle.words.specs.Lists.{record_of}
use Rattle.words.proofs.DigitLaws.{bit-low}
use Rattle.code.specs.Code.{code_size, code_bit, words_bit}
use Rattle.code.proofs.CodeLaws.{code-bit-lt, code-words_bit}
use Rattle.block.specs.Block.{block_groups, lane_nibble, lane_bit, packed_block}
use Rattle.block.proofs.LaneLaws.{nibble_lt, lane_bit-lt}
use Rattle.block.proofs.RoundLaws.{bit_of_block}
use Rattle.sums.specs.Sums.{plain_sum, plane_count, nibble_bit, words_nibble, table_of, table_count, fast_count, QueryCodes}
use Rattle.sums.proofs.PlainLaws.{plain_ext, plain_le}
use Rattle.sums.proofs.PlaneLaws.{planes_plain}
use Rattle.sums.proofs.GroupLaws.{fast_plain, lane_bits}
use Rattle.sums.proofs.TableLaws.{count_plain, table_of_lem}

-- ---- the nibbles of a single code

words_nibble-lt : (words : List ℕ) (g : ℕ) → words_nibble words g < 16
unfolding words_nibble
words_nibble-lt words g = mod-lt (get_or words (g / 2) 0 / 16 ^ (g % 2)) (lit< tt)

-- bit b of half h of a byte
low_bit : (x b : ℕ) → b < 4 → bit (x % 16) b ≡ bit x b
low_bit x b l =
    let e : x % 16 + 16 * (x / 16) ≡ x = omega arith in
    sym (bit-low 4 b (x % 16) (x / 16) l) ∙ ap (λ (y : ℕ). bit y b) e

half-bit : (x h b : ℕ) → h < 2 → b < 4 → bit (x / 16 ^ h % 16) b ≡ bit x (4 * h + b)
unfolding bit
half-bit x zero b lh lb = ap (λ (y : ℕ). bit (y % 16) b) (div-one x) ∙ low_bit x b lb ∙ ap (bit x) (sym (zero-add b))
half-bit x (suc zero) b lh lb = low_bit (x / 16) b lb ∙ ap (λ (y : ℕ). y % 2) (shr-shr x 4 b)
half-bit x (suc (suc h)) b lh lb = absurd (not-suc-le-zero (le_of_suc-le-suc (le_of_suc-le-suc lh)))

words_bits : (words : List ℕ) (d : ℕ) → nibble_bit (words_nibble words) d ≡ words_bit words d
unfolding nibble_bit words_nibble words_bit
words_bits words d =
    let byte : d / 4 / 2 ≡ d / 8 = omega arith in
    let digit : 4 * (d / 4 % 2) + d % 4 ≡ d % 8 = omega arith in
    half-bit (get_or words (d / 4 / 2) 0) (d / 4 % 2) (d % 4) (omega arith) (omega arith) ∙ ap₂ (λ (x y : ℕ). bit (get_or words x 0) y) byte digit

-- ---- the law

pub record Counted (qs code block : List ℕ) : Type 0 where
  pub planes : plane_count qs (drop 16 code) ≡ plain_sum qs (code_bit code)
  pub table : table_count (table_of qs) (words_nibble (drop 16 code)) (block_groups (length qs)) ≡ plain_sum qs (code_bit code)
  pub small : plain_sum qs (code_bit code) ≤ 65535
  pub lanes : (k : ℕ) → fast_count qs (lane_nibble block k) ≡ plain_sum qs (lane_bit block k)
  pub lane_table : (k : ℕ) → table_count (table_of qs) (lane_nibble block k) (block_groups (length qs)) ≡ plain_sum qs (lane_bit block k)
  pub lane_small : (k : ℕ) → plain_sum qs (lane_bit block k) ≤ 65535

pub counted : (qs code block : List ℕ) → QueryCodes qs → ((i : ℕ) → get_or code i 0 < 256) → Counted qs code block
counted qs code block q bytes = record {
  planes = planes_plain qs words q (λ i. omega (arith, get_or-drop 16 code i 0, bytes (16 + i))) ∙ of_code (words_bit words) (λ d. refl);
  table = count_plain qs (table_of qs) (words_nibble words) (table_of_lem qs) (words_nibble-lt words) ∙ of_code (nibble_bit (words_nibble words)) (words_bits words);
  small = plain_le qs (code_bit code) q (code-bit-lt code);
  lanes = λ k. fast_plain qs (lane_nibble block k) q ∙ of_lane k;
  lane_table = λ k. count_plain qs (table_of qs) (lane_nibble block k) (table_of_lem qs) (nibble_lt block k) ∙ of_lane k;
  lane_small = λ k. plain_le qs (lane_bit block k) q (lane_bit-lt block k);
}
  where
    words : List ℕ
    words = drop 16 code

    of_code : (b : ℕ → ℕ) → ((d : ℕ) → b d ≡ words_bit words d) → plain_sum qs b ≡ plain_sum qs (code_bit code)
    of_code b e = plain_ext qs b (code_bit code) (λ d _. e d ∙ sym (code-words_bit code d))

    of_lane : (k : ℕ) → plain_sum qs (nibble_bit (lane_nibble block k)) ≡ plain_sum qs (lane_bit block k)
    of_lane k = plain_ext qs (nibble_bit (lane_nibble block k)) (lane_bit block k) (λ d _. lane_bits block k d)

-- ---- packing keeps the sums: lane k of 32 packed codes has the sum of code k

pub packed-sum : (qs codes : List ℕ) (k : ℕ) → k < 32
    → plain_sum qs (lane_bit (packed_block (length qs) codes) k) ≡ plain_sum qs (code_bit (record_of (code_size (length qs)) codes k))
unfolding packed_block
packed-sum qs codes k l =
    plain_ext qs _ (code_bit (record_of (code_size (length qs)) codes k))
    (λ d h. bit_of_block (length qs) (λ k i. get_or (record_of (code_size (length qs)) codes k) i 0) (λ k. code_bit (record_of (code_size (length qs)) codes k))
    (λ k d. code-bit-lt (record_of (code_size (length qs)) codes k) d) k d l h)
