-- Module 4: what its calls answer. A table of refusal numbers gives the smallest that holds.
use Rattle.std.specs.Prelude.{ℕ, ◌*◌, ◌||◌, cond, List, leb, get_or}
use Rattle.words.specs.Bytes.{bytes_of}
use Rattle.words.specs.Floats.{missing}
use Rattle.words.specs.Limits.{most_dims}
use Rattle.words.specs.Refusals.{answer, bad_dims, bad_length}
use Rattle.words.specs.Refusals as table
use Rattle.code.specs.Code.{code_size, code_bit, code_of, sign_clear}

-- ---- the size of a single code: BAD_DIMS, BAD_LENGTH

abbrev pub size_answer : ℕ → List ℕ → ℕ × List ℕ
size_answer dims out = table.size_answer dims (code_size dims) out

-- ---- encode

-- BAD_DIMS, BAD_LENGTH, MISSING
unfoldable pub encode_number : ℕ → List ℕ → List ℕ → List ℕ → ℕ
encode_number dims factors vector code =
    cond (bad_dims most_dims dims) 1
    (cond (bad_length factors 16 || bad_length vector (4 * dims) || bad_length code (code_size dims)) 3
    (cond (missing dims vector) 4 0))

-- the factors are copied bit for bit
unfoldable pub encode_answer : ℕ → List ℕ → List ℕ → List ℕ → ℕ × List ℕ
encode_answer dims factors vector code =
    answer (encode_number dims factors vector code) code (code_of dims (λ i. get_or factors i 0) (sign_clear vector))

-- ---- the bit of a dimension

-- BAD_DIMS, BAD_LENGTH, OUT_OF_RANGE
unfoldable pub bit_number : ℕ → List ℕ → ℕ → List ℕ → ℕ
bit_number dims code index out =
    cond (bad_dims most_dims dims) 1
    (cond (bad_length code (code_size dims) || bad_length out 4) 3
    (cond (leb dims index) 6 0))

unfoldable pub bit_answer : ℕ → List ℕ → ℕ → List ℕ → ℕ × List ℕ
bit_answer dims code index out = answer (bit_number dims code index out) out (bytes_of 4 (code_bit code index))
