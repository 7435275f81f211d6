-- What the calls of module 6 answer: the paper's refusals, the smallest number first, then the sums.
use Rattle.std.specs.Prelude.{ℕ, Bool, ◌||◌, cond, List}
use Rattle.words.specs.Bytes.{bytes_of, words_of}
use Rattle.words.specs.Limits.{most_dims, top_code}
use Rattle.words.specs.Lists.{any_above}
use Rattle.words.specs.Refusals.{answer, bad_dims, bad_length}
use Rattle.code.specs.Code.{code_size, code_bit}
use Rattle.block.specs.Block.{block_size, lane_bit}
use Rattle.sums.specs.Sums.{plain_sum, query_sum}

-- BAD_DIMS, BAD_LENGTH, BAD_VALUE (a query code above 15): `other` is that a buffer besides the query isn't of its length
unfoldable pub sum_number : ℕ → List ℕ → Bool → ℕ
sum_number dims query other =
    cond (bad_dims most_dims dims) 1
    (cond (bad_length query dims || other) 3
    (cond (any_above top_code query) 5 0))

unfoldable pub query_sum_answer : ℕ → List ℕ → List ℕ → ℕ × List ℕ
query_sum_answer dims query out = answer (sum_number dims query (bad_length out 4)) out (bytes_of 4 (query_sum query))

unfoldable pub code_sum_answer : ℕ → List ℕ → List ℕ → List ℕ → ℕ × List ℕ
code_sum_answer dims query code out =
    answer (sum_number dims query (bad_length code (code_size dims) || bad_length out 4)) out (bytes_of 4 (plain_sum query (code_bit code)))

-- 32 sums, lane 0 first
unfoldable pub block_sums_answer : ℕ → List ℕ → List ℕ → List ℕ → ℕ × List ℕ
block_sums_answer dims query block out =
    answer (sum_number dims query (bad_length block (block_size dims) || bad_length out 128)) out (words_of 32 (λ k. plain_sum query (lane_bit block k)))
