-- Module 5: what its calls answer. A table of refusal numbers gives the smallest that holds.
use Rattle.std.specs.Prelude.{ℕ, ◌*◌, ◌||◌, cond, List, ltb}
use Rattle.words.specs.Limits.{most_dims}
use Rattle.words.specs.Refusals.{answer, bad_dims, bad_length}
use Rattle.words.specs.Refusals as table
use Rattle.code.specs.Code.{code_size}
use Rattle.block.specs.Block.{block_size, packed_block, lane_code}

-- ---- the size of a block: BAD_DIMS, BAD_LENGTH

abbrev pub size_answer : ℕ → List ℕ → ℕ × List ℕ
size_answer dims out = table.size_answer dims (block_size dims) out

-- ---- pack: BAD_DIMS, BAD_LENGTH

unfoldable pub pack_number : ℕ → List ℕ → List ℕ → ℕ
pack_number dims codes block =
    cond (bad_dims most_dims dims) 1
    (cond (bad_length codes (32 * code_size dims) || bad_length block (block_size dims)) 3 0)

unfoldable pub pack_answer : ℕ → List ℕ → List ℕ → ℕ × List ℕ
pack_answer dims codes block = answer (pack_number dims codes block) block (packed_block dims codes)

-- ---- a lane as a single code: BAD_DIMS, BAD_LENGTH, OUT_OF_RANGE

unfoldable pub lane_number : ℕ → List ℕ → ℕ → List ℕ → ℕ
lane_number dims block lane code =
    cond (bad_dims most_dims dims) 1
    (cond (bad_length block (block_size dims) || bad_length code (code_size dims)) 3
    (cond (ltb 31 lane) 6 0))

unfoldable pub lane_answer : ℕ → List ℕ → ℕ → List ℕ → ℕ × List ℕ
lane_answer dims block lane code = answer (lane_number dims block lane code) code (lane_code dims block lane)
