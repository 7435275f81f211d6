-- Module 6 by groups of four dimensions: what the nibbles of a record pick in each, added up, is the plain sum over its bits.
-- Assumes nothing.
use mathlib.Core.Path.{◌≡◌, refl, sym, ap, ap₂, ◌∙◌}
use Prim.Native.Nat.{ℕ, zero, suc, ◌+◌, ◌*◌, ◌/◌, ◌%◌, ◌^◌, ◌<◌, ◌≤◌, min}
use mathlib.Core.List.{List}
use native.Mathlib.Omega.{arith}
use native.Mathlib.Nat.{zero-add, zero-mul, mul-zero, mul-one, one-mul, zero-min}
use native.Mathlib.Nat.{min-eq_right, not-suc-le-zero, le_of_suc-le-suc, add-zero, lt_of_lt_of_le}
use lib.Dec.{lit<}
use lib.Pow.{pow_mono}
use lib.ListN.{length, get_or, get_or-eq_default}
use Rattle.words.specs.Digits.{bit}
use Rattle.words.specs.Limits.{top_code}
use Rattle.words.specs.Sums.{sum_to}
use Rattle.words.proofs.DigitLaws.{bit-lt}
use Rattle.words.proofs.SumLaws.{sum_ext, sum_blocks, sum_pad}
use Rattle.block.specs.Block.{block_groups, lane_nibble, lane_bit}
use Rattle.sums.specs.Sums.{plain_sum, nibble_bit, group_sum, fast_group, fast_count, QueryCodes}
use Rattle.sums.specs.Parts.{groups_sum}

-- ---- one group

-- the lesser of a digit of weight w and a query code is the code where the digit is set, and else 0
pub picks : (x w q : ℕ) → x < 2 → top_code < w → q ≤ top_code → min (x * w) q ≡ q * x
picks zero w q hx hw hq = ap (λ (n : ℕ). min n q) (zero-mul w) ∙ zero-min q ∙ sym (mul-zero q)
picks (suc zero) w q hx hw hq = ap (λ (n : ℕ). min n q) (one-mul w) ∙ min-eq_right (omega arith) ∙ sym (mul-one q)
picks (suc (suc x)) w q hx hw hq = absurd (not-suc-le-zero (le_of_suc-le-suc (le_of_suc-le-suc hx)))

-- an entry written out
pub group_four : (qs : List ℕ) (g m : ℕ)
    → group_sum qs g m
    ≡ get_or qs (4 * g) 0 * bit m 0 + get_or qs (4 * g + 1) 0 * bit m 1 + get_or qs (4 * g + 2) 0 * bit m 2 + get_or qs (4 * g + 3) 0 * bit m 3
unfolding group_sum sum_to
group_four qs g m = simp (add-zero, zero-add)

-- the fast form of an entry
fast_group_lem : (qs : List ℕ) → QueryCodes qs → (g m : ℕ) → fast_group qs g m ≡ group_sum qs g m
unfolding fast_group group_sum
fast_group_lem qs q g m =
    sum_ext 4 (λ b. min (bit m b * 2 ^ (4 + b)) (get_or qs (4 * g + b) 0)) (λ b. get_or qs (4 * g + b) 0 * bit m b)
    (λ b l. picks (bit m b) (2 ^ (4 + b)) (get_or qs (4 * g + b) 0) (bit-lt m b) (above b) (q.small (4 * g + b)))
  where
    above : (b : ℕ) → top_code < 2 ^ (4 + b)
    above b = lt_of_lt_of_le (lit< tt) (pow_mono {i = 4} {j = 4 + b} (omega arith))

-- ---- the groups of a record

module _ (qs : List ℕ) (m : ℕ → ℕ) where
  -- all the groups
  pub groups_plain : (n : ℕ) → length qs ≤ 4 * n → groups_sum qs m 0 n ≡ plain_sum qs (nibble_bit m)
  unfolding plain_sum nibble_bit groups_sum group_sum
  groups_plain n l =
      sum_ext n (λ g. group_sum qs (0 + g) (m (0 + g))) (λ g. sum_to 4 (λ b. term (4 * g + b)))
      (λ g _. ap (λ (x : ℕ). group_sum qs x (m x)) (zero-add g)
      ∙ sum_ext 4 (λ b. get_or qs (4 * g + b) 0 * bit (m g) b) (λ b. term (4 * g + b))
      (λ b lb. ap₂ (λ (x y : ℕ). get_or qs (4 * g + b) 0 * bit (m x) y) (high g b lb) (low g b lb)))
      ∙ sum_blocks 4 n term
      ∙ sum_pad (length qs) (4 * n) term l (λ d ld. ap (λ (x : ℕ). x * nibble_bit m d) (get_or-eq_default qs 0 ld) ∙ zero-mul (nibble_bit m d))
    where
      term : ℕ → ℕ
      term d = get_or qs d 0 * nibble_bit m d

      high : (g b : ℕ) → b < 4 → g ≡ (4 * g + b) / 4
      high g b h = omega arith

      low : (g b : ℕ) → b < 4 → b ≡ (4 * g + b) % 4
      low g b h = omega arith

  -- the fast form
  pub fast_plain : QueryCodes qs → fast_count qs m ≡ plain_sum qs (nibble_bit m)
  unfolding fast_count groups_sum
  fast_plain q =
      sum_ext (block_groups (length qs)) (λ g. fast_group qs g (m g)) (λ g. group_sum qs (0 + g) (m (0 + g)))
      (λ g l. fast_group_lem qs q g (m g) ∙ ap (λ (x : ℕ). group_sum qs x (m x)) (sym (zero-add g)))
      ∙ groups_plain (block_groups (length qs)) (omega arith)

-- ---- the lanes of a block

pub lane_bits : (block : List ℕ) (k d : ℕ) → nibble_bit (lane_nibble block k) d ≡ lane_bit block k d
unfolding nibble_bit lane_bit
lane_bits block k d = refl
