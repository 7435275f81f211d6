-- What the calls of module 1 answer: the smallest refusal that holds, or 0, and the bytes of the writable buffer after it.
use Rattle.std.specs.Prelude.{ℕ, not, ◌||◌, cond, List, leb}
use Rattle.words.specs.Bytes.{bytes_of}
use Rattle.words.specs.Lists.{any_above}
use Rattle.words.specs.Limits.{most_scalar_dims}
use Rattle.words.specs.Refusals.{answer, bad_dims, bad_length}
use Rattle.digits.specs.Digits.{is_width, top, packed_size, digit_at, packed}

-- ---- the size of packed codes: BAD_DIMS, BAD_WIDTH, BAD_LENGTH

unfoldable pub size_number : ℕ → ℕ → List ℕ → ℕ
size_number dims bits out = cond (bad_dims most_scalar_dims dims) 1 (cond (not (is_width bits)) 2 (cond (bad_length out 4) 3 0))

unfoldable pub size_answer : ℕ → ℕ → List ℕ → ℕ × List ℕ
size_answer dims bits out = answer (size_number dims bits out) out (bytes_of 4 (packed_size bits dims))

-- ---- pack

-- BAD_DIMS, BAD_WIDTH, BAD_LENGTH, BAD_VALUE (a code above the top)
unfoldable pub pack_number : ℕ → ℕ → List ℕ → List ℕ → ℕ
pack_number dims bits codes out =
    cond (bad_dims most_scalar_dims dims) 1
    (cond (not (is_width bits)) 2
    (cond (bad_length codes dims || bad_length out (packed_size bits dims)) 3
    (cond (any_above (top bits) codes) 5 0)))

unfoldable pub pack_answer : ℕ → ℕ → List ℕ → List ℕ → ℕ × List ℕ
pack_answer dims bits codes out = answer (pack_number dims bits codes out) out (packed bits codes)

-- ---- the digit of a dimension

-- BAD_DIMS, BAD_WIDTH, BAD_LENGTH, OUT_OF_RANGE
unfoldable pub read_number : ℕ → ℕ → List ℕ → ℕ → List ℕ → ℕ
read_number dims bits s i out =
    cond (bad_dims most_scalar_dims dims) 1
    (cond (not (is_width bits)) 2
    (cond (bad_length s (packed_size bits dims) || bad_length out 4) 3
    (cond (leb dims i) 6 0)))

unfoldable pub read_answer : ℕ → ℕ → List ℕ → ℕ → List ℕ → ℕ × List ℕ
read_answer dims bits s i out = answer (read_number dims bits s i out) out (bytes_of 4 (digit_at bits s i))
