-- What the workers of module 6 ask and promise: a table of sums, and the sums of lanes. No public promise cites this file.
use Rattle.std.specs.Prelude.{ℕ, ◌+◌, ◌*◌, ◌/◌, ◌%◌, ◌≤◌, ◌<◌, ◌≡◌, List, length, get_or}
use Rattle.words.specs.Limits.{most_sum}
use Rattle.words.specs.Sums.{sum_to}
use Rattle.block.specs.Block.{block_groups, lane_bit}
use Rattle.sums.specs.Sums.{plain_sum, groups_nibble, group_sum, table_count}

-- the table of 16 sums a group, in a buffer that may be longer
pub record Table (qs t : List ℕ) : Type 0 where
  pub room : 16 * block_groups (length qs) ≤ length t
  pub each : (i : ℕ) → i < 16 * block_groups (length qs) → get_or t i 0 ≡ group_sum qs (i / 16) (i % 16)

-- what the nibbles m pick in the n groups from g on
unfoldable pub groups_sum : List ℕ → (ℕ → ℕ) → ℕ → ℕ → ℕ
groups_sum qs m g n = sum_to n (λ i. group_sum qs (g + i) (m (g + i)))

-- n numbers, f 0, .., f (n - 1)
pub record Each (n : ℕ) (f : ℕ → ℕ) (s : List ℕ) : Type 0 where
  pub long : length s ≡ n
  pub each : (k : ℕ) → k < n → get_or s k 0 ≡ f k

-- what the 32 lanes pick in the first n groups of a table
abbrev pub Scanned : List ℕ → List ℕ → ℕ → List ℕ → Type 0
Scanned t groups n s = Each 32 (λ k. table_count t (groups_nibble groups k) n) s

-- the sums of the 32 lanes of a block
pub record LaneSums (qs block s : List ℕ) : Type 0 where
  pub sums : Each 32 (λ k. plain_sum qs (lane_bit block k)) s
  pub most : (k : ℕ) → k < 32 → get_or s k 0 ≤ most_sum
