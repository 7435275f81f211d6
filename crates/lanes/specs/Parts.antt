-- What the workers of the lanes ask and promise. No public promise cites this file.
use Rattle.std.specs.Prelude.{ℕ, ◌+◌, ◌*◌, ◌/◌, ◌≤◌, ◌<◌, ◌≡◌, List, length, get_or}
use Rattle.block.specs.Block.{block_groups, block_size, lane_nibble}
use Rattle.sums.specs.Sums.{QueryCodes}
use Rattle.sums.specs.Parts.{groups_sum, Each}

-- the groups of a stretch, which are added as numbers of 16 bits
abbrev pub stretch_groups : ℕ
stretch_groups = 1024

-- the wide table: each query code 16 times, and 0 past the last, in a buffer that may be longer
pub record Wide (qs t : List ℕ) : Type 0 where
  pub room : 64 * block_groups (length qs) ≤ length t
  pub each : (i : ℕ) → i < 64 * block_groups (length qs) → get_or t i 0 ≡ get_or qs (i / 16) 0

-- what the lanes at, at + 1, .., at + 15 of a block pick in the n groups from g on
abbrev pub Sixteen : List ℕ → List ℕ → ℕ → ℕ → ℕ → List ℕ → Type 0
Sixteen qs block at g n s = Each 16 (λ j. groups_sum qs (lane_nibble block (j + at)) g n) s

-- what the 32 lanes pick in the n groups from g on
abbrev pub Lanes : List ℕ → List ℕ → ℕ → ℕ → List ℕ → Type 0
Lanes qs block g n s = Each 32 (λ k. groups_sum qs (lane_nibble block k) g n) s

-- what the workers of a block ask: query codes, their wide table, and a block of their dims
pub record BlockReady (qs t block : List ℕ) : Type 0 where
  pub query : QueryCodes qs
  pub wide : Wide qs t
  pub sized : length block ≡ block_size (length qs)
