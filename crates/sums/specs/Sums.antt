-- The paper's module 6, the sums: the plain sum, and the three ways to count it.
use Rattle.std.specs.Prelude.{ℕ, ◌+◌, ◌*◌, ◌/◌, ◌%◌, ◌^◌, ◌≤◌, min, List, length, get_or}
use Rattle.std.specs.Int.Bits.{bit_and}
use Rattle.std.specs.Int.Count.{ones}
use Rattle.words.specs.Bytes.{num_at}
use Rattle.words.specs.Digits.{bit, join}
use Rattle.words.specs.Limits.{most_dims, top_code}
use Rattle.words.specs.Lists.{tabulate}
use Rattle.words.specs.Sums.{sum_to}
use Rattle.code.specs.Code.{code_words}
use Rattle.block.specs.Block.{block_groups}

-- query codes within the limits: at most 4,369 of them, each at most 15
pub record QueryCodes (qs : List ℕ) : Type 0 where
  pub few : length qs ≤ most_dims
  pub small : (d : ℕ) → get_or qs d 0 ≤ top_code

-- the plain sum: the query codes qs at the dimensions whose bit b is set
unfoldable pub plain_sum : List ℕ → (ℕ → ℕ) → ℕ
plain_sum qs b = sum_to (length qs) (λ d. get_or qs d 0 * b d)

-- Q, the sum of all query codes
unfoldable pub query_sum : List ℕ → ℕ
query_sum qs = sum_to (length qs) (λ d. get_or qs d 0)

-- ---- four bit planes

-- word w of plane p: digit i is digit p of the query code of dimension 64w + i, and 0 past the last dimension
unfoldable pub plane_word : List ℕ → ℕ → ℕ → ℕ
plane_word qs p w = join 1 64 (λ i. bit (get_or qs (64 * w + i) 0) p)

-- how many ones the words of a single code share with plane p
unfoldable pub plane_ones : List ℕ → List ℕ → ℕ → ℕ
plane_ones qs words p = sum_to (code_words (length qs)) (λ w. ones (bit_and (num_at 8 words (8 * w)) (plane_word qs p w)))

-- the counts of ones, weighted 1, 2, 4, 8
unfoldable pub plane_count : List ℕ → List ℕ → ℕ
plane_count qs words = plane_ones qs words 0 + 2 * plane_ones qs words 1 + 4 * plane_ones qs words 2 + 8 * plane_ones qs words 3

-- ---- a table of 16 sums for each group of four dimensions. A record has a nibble m g in group g: bit b of it is dimension 4g + b

-- the bits of a record with the nibbles m
unfoldable pub nibble_bit : (ℕ → ℕ) → ℕ → ℕ
nibble_bit m d = bit (m (d / 4)) (d % 4)

-- the nibble of group g of a single code, from its word bytes
unfoldable pub words_nibble : List ℕ → ℕ → ℕ
words_nibble words g = get_or words (g / 2) 0 / 16 ^ (g % 2) % 16

-- the nibble of group g of lane k, from a block's bytes after its factors
unfoldable pub groups_nibble : List ℕ → ℕ → ℕ → ℕ
groups_nibble groups k g = get_or groups (16 * g + k % 16) 0 / 16 ^ (k / 16) % 16

-- entry m of group g: the sum of the group's four query codes at the set digits of m
unfoldable pub group_sum : List ℕ → ℕ → ℕ → ℕ
group_sum qs g m = sum_to 4 (λ b. get_or qs (4 * g + b) 0 * bit m b)

-- the table: entry m of group g stands at 16g + m
unfoldable pub table_of : List ℕ → List ℕ
table_of qs = tabulate (16 * block_groups (length qs)) (λ i. group_sum qs (i / 16) (i % 16))

-- the entries that the nibbles m pick in n groups of a table, added
unfoldable pub table_count : List ℕ → (ℕ → ℕ) → ℕ → ℕ
table_count t m n = sum_to n (λ g. get_or t (16 * g + m g) 0)

-- ---- the fast form: digit b of a nibble, at the weight 16, 32, 64 or 128, is above every query code, so the lesser of the two is
-- the code where the digit is set, and else 0

unfoldable pub fast_group : List ℕ → ℕ → ℕ → ℕ
fast_group qs g m = sum_to 4 (λ b. min (bit m b * 2 ^ (4 + b)) (get_or qs (4 * g + b) 0))

unfoldable pub fast_count : List ℕ → (ℕ → ℕ) → ℕ
fast_count qs m = sum_to (block_groups (length qs)) (λ g. fast_group qs g (m g))
