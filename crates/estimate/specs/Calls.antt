-- Module 7: what its calls answer, by the paper's table of refusals, the smallest first.
use Rattle.std.specs.Prelude.{ℕ, Bool, ◌||◌, cond, List}
use Rattle.std.specs.Float.Ieee.{is_nan, lt}
use Rattle.words.specs.Bytes.{float_bytes}
use Rattle.words.specs.Floats.{plus_zero, not_finite}
use Rattle.words.specs.Limits.{most_dims, top_code}
use Rattle.words.specs.Lists.{any_above}
use Rattle.words.specs.Metrics.{metric_of}
use Rattle.words.specs.Refusals.{answer, or_else, bad_dims, bad_length, bad_form}
use Rattle.code.specs.Code.{code_size}
use Rattle.block.specs.Block.{block_size}
use Rattle.estimate.specs.declared.Asked.{Asked}
use Rattle.estimate.specs.declared.Query.{Query}
use Rattle.estimate.specs.Record.{code_estimate, lane_words}

-- MISSING: a NaN or an infinity in dis_v_2, b, k
unfoldable pub missing_query : Query → Bool
missing_query v = not_finite v.dis_v_2 || not_finite v.b || not_finite v.k

-- BAD_VALUE: dis_v_2 below 0, or a query code above 15
unfoldable pub bad_query : Query → List ℕ → Bool
bad_query v qs = lt v.dis_v_2 plus_zero || any_above top_code qs

-- BAD_DIMS, BAD_LENGTH, MISSING, BAD_VALUE of a call with a query: `other` is that a buffer besides the query isn't of its length,
-- `form` that a metric or a layout is none
unfoldable pub query_number : ℕ → Bool → Query → List ℕ → Bool → ℕ
query_number dims other v qs form =
    cond (bad_dims most_dims dims) 1
    (cond (bad_length qs dims || other) 3
    (cond (missing_query v) 4
    (cond (form || bad_query v qs) 5 0)))

-- the same of a call on one record of size bytes, which writes room bytes
unfoldable pub record_number : ℕ → ℕ → ℕ → ℕ → Query → List ℕ → List ℕ → List ℕ → ℕ
record_number metric dims size room v qs rec out = query_number dims (bad_length rec size || bad_length out room) v qs (bad_form metric)

-- ---- a single code: NO_ESTIMATE where the number asked for is a NaN

unfoldable pub code_number : Asked → ℕ → ℕ → Query → List ℕ → List ℕ → List ℕ → ℕ
code_number w metric dims v qs code out =
    or_else (record_number metric dims (code_size dims) 4 v qs code out)
    (cond (is_nan (code_estimate w (metric_of metric) v qs code)) 8 0)

unfoldable pub code_answer : Asked → ℕ → ℕ → Query → List ℕ → List ℕ → List ℕ → ℕ × List ℕ
code_answer w metric dims v qs code out =
    answer (code_number w metric dims v qs code out) out (float_bytes (code_estimate w (metric_of metric) v qs code))

-- ---- the 32 lanes of a block, lane 0 first: a NaN lane is written and not refused

unfoldable pub block_answer : Asked → ℕ → ℕ → Query → List ℕ → List ℕ → List ℕ → ℕ × List ℕ
block_answer w metric dims v qs block out =
    answer (record_number metric dims (block_size dims) 128 v qs block out) out
    (lane_words w (metric_of metric) v qs block)
