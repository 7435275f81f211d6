-- Module 8: what the range walk answers.
use Rattle.std.specs.Prelude.{ℕ, ◌+◌, ◌-◌, ◌*◌, ◌/◌, ◌%◌, Bool, not, ◌&&◌, ◌||◌, cond, List, ◌++◌, length, drop, replicate, ltb, eqb, Float}
use Rattle.std.specs.Float.Ieee.{is_nan}
use Rattle.words.specs.Bytes.{bytes_of, words_of, floats_of}
use Rattle.words.specs.Limits.{most_records}
use Rattle.words.specs.Lists.{any_below, record_of}
use Rattle.words.specs.Metrics.{metric_of}
use Rattle.words.specs.Refusals.{after, or_else, bad_lists, bad_form}
use Rattle.words.specs.declared.metric.Metric.{Metric}
use Rattle.code.specs.Code.{code_size}
use Rattle.block.specs.Block.{block_size}
use Rattle.estimate.specs.declared.Asked.TheVariants.{LowerBound}
use Rattle.estimate.specs.declared.Query.{Query}
use Rattle.estimate.specs.Record.{code_estimate, lane_estimate}
use Rattle.estimate.specs.Calls.{query_number}
use Rattle.walk.specs.declared.layout.Layout.{Layout}
use Rattle.walk.specs.declared.layout.Layout.TheVariants.{Single, Blocks}

-- the layout of 1 or 2: the call refuses every other number first
unfoldable pub layout_of : ℕ → Layout
layout_of n = cond (eqb n 1) Single Blocks

-- ---- records

-- ceil(n / 32) blocks
abbrev pub blocks_of : ℕ → ℕ
blocks_of n = (n + 31) / 32

-- how many bytes n records take
unfoldable pub records_size : Layout → ℕ → ℕ → ℕ
records_size Single dims n = n * code_size dims
records_size Blocks dims n = blocks_of n * block_size dims

-- the lower bound of id i: of single code i, or of lane i % 32 of block i / 32
unfoldable pub bound_of : Layout → Metric → Query → List ℕ → List ℕ → ℕ → Float
bound_of Single m v qs rs i = code_estimate LowerBound m v qs (record_of (code_size (length qs)) rs i)
bound_of Blocks m v qs rs i = lane_estimate LowerBound m v qs (record_of (block_size (length qs)) rs (i / 32)) (i % 32)

-- how many ids the range start..end has: a difference of natural numbers stops at 0, so none where start >= end
abbrev pub range_len : ℕ → ℕ → ℕ
range_len start end = end - start

-- ---- refusals

-- BAD_LENGTH, each buffer by its length. A layout that is none states no length for the records
unfoldable pub bad_records : ℕ → ℕ → ℕ → ℕ → Bool
bad_records layout dims n records = not (bad_form layout) && not (eqb records (records_size (layout_of layout) dims n))

-- the lists, and a count of four bytes
unfoldable pub bad_outs : ℕ → ℕ → ℕ → ℕ → Bool
bad_outs ids bounds marks count = bad_lists ids bounds marks || not (eqb count 4)

-- too many records, or a buffer that isn't of its length
unfoldable pub bad_lengths : ℕ → ℕ → ℕ → ℕ → Bool → Bool
bad_lengths layout dims n records outs = ltb most_records n || bad_records layout dims n records || outs

-- the range is not empty and its end is above the record count
unfoldable pub out_of_range : ℕ → ℕ → ℕ → Bool
out_of_range n start end = ltb start end && ltb n end

-- OUT_OF_RANGE, NO_ROOM
unfoldable pub range_number : ℕ → ℕ → ℕ → ℕ → ℕ
range_number n start end places = cond (out_of_range n start end) 6 (cond (ltb places (range_len start end)) 7 0)

-- BAD_DIMS to BAD_VALUE as of every call with a query, those of the range, and NO_ESTIMATE where a wanted bound is a NaN
unfoldable pub walk_number : ℕ → ℕ → ℕ → Query → List ℕ → List ℕ → ℕ → ℕ → ℕ → List ℕ → List ℕ → List ℕ → List ℕ → ℕ
walk_number metric layout dims v qs rs n start end ids bounds marks count =
    or_else
    (query_number dims (bad_lengths layout dims n (length rs) (bad_outs (length ids) (length bounds) (length marks) (length count))) v qs
    (bad_form metric || bad_form layout))
    (or_else (range_number n start end (length marks))
    (cond (any_below (range_len start end) (λ j. is_nan (bound_of (layout_of layout) (metric_of metric) v qs rs (start + j)))) 8 0))

-- ---- the answer

-- the ids of a range from start up, four bytes each
abbrev pub id_words : ℕ → ℕ → List ℕ
id_words start end = words_of (range_len start end) (λ j. start + j)

-- the four bytes each of the lower bounds of c ids from start on
unfoldable pub bound_words : Layout → Metric → Query → List ℕ → List ℕ → ℕ → ℕ → List ℕ
bound_words l m v qs rs start c = floats_of c (λ j. bound_of l m v qs rs (start + j))

-- the number, and the four buffers: ids from start up, their lower bounds, marks 0, and the count; the places past the count stay
unfoldable pub walk_answer : ℕ → ℕ → ℕ → Query → List ℕ → List ℕ → ℕ → ℕ → ℕ → List ℕ → List ℕ → List ℕ → List ℕ
    → ℕ × List ℕ × List ℕ × List ℕ × List ℕ
walk_answer metric layout dims v qs rs n start end ids bounds marks count =
    let r = walk_number metric layout dims v qs rs n start end ids bounds marks count in
    let c = range_len start end in (
      r,
      after r ids (id_words start end ++ drop (4 * c) ids),
      after r bounds (bound_words (layout_of layout) (metric_of metric) v qs rs start c ++ drop (4 * c) bounds),
      after r marks (replicate c 0 ++ drop c marks),
      after r count (bytes_of 4 c),
    )
