-- What the calls of module 2 answer: the smallest refusal that holds, or 0, and the bytes of the writable buffer after it.
use Rattle.std.specs.Prelude.{ℕ, ◌*◌, Bool, false, not, ◌||◌, cond, List}
use Rattle.std.specs.Float.Ieee.{lt, is_nan}
use Rattle.words.specs.Bytes.{f32_at, float_bytes}
use Rattle.words.specs.Floats.{missing}
use Rattle.words.specs.Lists.{any_below}
use Rattle.words.specs.Limits.{most_scalar_dims}
use Rattle.words.specs.Metrics.{metric_of}
use Rattle.words.specs.Refusals.{answer, bad_dims, bad_length, bad_form}
use Rattle.digits.specs.Digits.{is_width, packed_size}
use Rattle.scalar.specs.Code.{scalar_code}
use Rattle.scalar.specs.Table.{table_bytes, table_size, sum_of, distance_of}

-- vector length, min length and max length equal dims
unfoldable pub bad_vectors : ℕ → List ℕ → List ℕ → List ℕ → Bool
bad_vectors dims vector lo hi = bad_length vector (4 * dims) || bad_length lo (4 * dims) || bad_length hi (4 * dims)

-- a NaN or infinity in a vector, min or max
unfoldable pub any_missing : ℕ → List ℕ → List ℕ → List ℕ → Bool
any_missing dims vector lo hi = missing dims vector || missing dims lo || missing dims hi

-- min above max
unfoldable pub above_max : ℕ → List ℕ → List ℕ → Bool
unfolding any_below
above_max dims lo hi = any_below dims (λ i. lt (f32_at hi i) (f32_at lo i))

-- BAD_LENGTH, MISSING, BAD_VALUE of a call over vectors: `other` is that the buffer that is written isn't of its length, `form` that
-- the metric is none
abbrev pub vectors_number : ℕ → List ℕ → List ℕ → List ℕ → Bool → Bool → ℕ
vectors_number dims vector lo hi other form =
    cond (bad_vectors dims vector lo hi || other) 3
    (cond (any_missing dims vector lo hi) 4
    (cond (above_max dims lo hi || form) 5 0))

-- ---- encode: BAD_DIMS, BAD_WIDTH, and those of the vectors

unfoldable pub encode_number : ℕ → ℕ → List ℕ → List ℕ → List ℕ → List ℕ → ℕ
encode_number dims bits vector lo hi out =
    cond (bad_dims most_scalar_dims dims) 1
    (cond (not (is_width bits)) 2
    (vectors_number dims vector lo hi (bad_length out (packed_size bits dims)) false))

unfoldable pub encode_answer : ℕ → ℕ → List ℕ → List ℕ → List ℕ → List ℕ → ℕ × List ℕ
encode_answer dims bits vector lo hi out =
    answer (encode_number dims bits vector lo hi out) out (scalar_code bits dims vector lo hi)

-- ---- the table of a query: the same, and BAD_VALUE of the metric

unfoldable pub table_number : ℕ → ℕ → ℕ → List ℕ → List ℕ → List ℕ → List ℕ → ℕ
table_number metric dims bits vector lo hi out =
    cond (bad_dims most_scalar_dims dims) 1
    (cond (not (is_width bits)) 2
    (vectors_number dims vector lo hi (bad_length out (table_size bits dims)) (bad_form metric)))

unfoldable pub table_answer : ℕ → ℕ → ℕ → List ℕ → List ℕ → List ℕ → List ℕ → ℕ × List ℕ
table_answer metric dims bits vector lo hi out =
    answer (table_number metric dims bits vector lo hi out) out (table_bytes (metric_of metric) bits dims vector lo hi)

-- ---- the distance of a code by a table

-- BAD_DIMS, BAD_WIDTH, BAD_LENGTH, BAD_VALUE of the metric, and NO_ESTIMATE: the table may hold any bits, so the sum may be a NaN
abbrev pub distance_number : ℕ → ℕ → ℕ → List ℕ → List ℕ → List ℕ → ℕ
distance_number metric dims bits table code out =
    cond (bad_dims most_scalar_dims dims) 1
    (cond (not (is_width bits)) 2
    (cond (bad_length table (table_size bits dims) || bad_length code (packed_size bits dims) || bad_length out 4) 3
    (cond (bad_form metric) 5
    (cond (is_nan (sum_of bits dims table code)) 8 0))))

unfoldable pub distance_answer : ℕ → ℕ → ℕ → List ℕ → List ℕ → List ℕ → ℕ × List ℕ
distance_answer metric dims bits table code out =
    answer (distance_number metric dims bits table code out) out
    (float_bytes (distance_of (metric_of metric) (sum_of bits dims table code)))
