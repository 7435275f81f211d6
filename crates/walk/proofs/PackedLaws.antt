-- Module 8's law over the layouts: a walk over blocks packed from codes is the walk over those codes. Assumes nothing.
use mathlib.Core.Path.{◌≡◌, refl, sym, ap, ◌∙◌}
use mathlib.Core.Bool.{Bool, true, false}
use Prim.Native.Nat.{ℕ, zero, suc, ◌+◌, ◌-◌, ◌*◌, ◌/◌, ◌%◌, ◌≤◌, ◌<◌}
use mathlib.Core.List.{List, ◌++◌}
use native.Mathlib.Omega.{arith}
use native.Mathlib.Nat.{mul-le-mul, mul_comm, mul_assoc, mul-add}
use lib.ListN.{length, take, drop, length-drop}
use lib.Seq.{drop-drop, drop-append-le, take-append-le}
use lib.Ieee.{is_nan, to_bits, binary32}
use Rattle.words.specs.Lists.{any_below, record_of}
use Rattle.words.specs.Metrics.{metric_of}
use Rattle.words.specs.Refusals.{bad_form}
use Rattle.words.specs.declared.metric.Metric.{Metric}
use Rattle.words.proofs.ListLaws.{joined_at, length-joined, length-tabulate, any_ext}
use borrow.Author.Tests.{eq-eqb}
use Rattle.words.proofs.WordsLaws.{words_ext}
use Rattle.code.specs.Code.{code_size}
use Rattle.block.specs.Block.{block_size, block_of, packed_block}
use Rattle.block.proofs.RoundLaws.{lane_of_packed}
use Rattle.estimate.specs.declared.Asked.TheVariants.{LowerBound}
use Rattle.estimate.specs.declared.Query.{Query}
use Rattle.estimate.specs.Record.{code_estimate, lane_estimate}
use Rattle.estimate.proofs.CallLaws.{accepted}
use Rattle.estimate.proofs.LaneLaws.{cleared_same, lane_is_code}
use Rattle.walk.specs.declared.layout.Layout.TheVariants.{Single, Blocks}
use Rattle.walk.specs.Walk.{layout_of, records_size, blocks_of, bad_records, bad_lengths, range_number, bound_of, bound_words, walk_answer}
use Rattle.walk.specs.Packed.{packed_blocks}
use Rattle.walk.proofs.WalkLaws.{record_end, part_of_front}
use Rattle.walk.proofs.AnswerLaws.{first_number, inside, some_nan, first_number_lem, range_number_lem, nan_number, zero_number, walk_refused, walk_written}

-- ---- records

length-packed : (dims : ℕ) (codes : List ℕ) → length (packed_block dims codes) ≡ block_size dims
unfolding packed_block block_of
length-packed dims codes = length-tabulate (block_size dims) _

block_of_lem : (dims : ℕ) (codes : List ℕ) (count b : ℕ) → b < count
    → record_of (block_size dims) (packed_blocks dims codes count) b ≡ packed_block dims (record_of (32 * code_size dims) codes b)
unfolding record_of packed_blocks
block_of_lem dims codes count b h =
    joined_at (block_size dims) count b (λ b. packed_block dims (record_of (32 * code_size dims) codes b)) (λ i l. length-packed dims _) h

length_blocks : (dims : ℕ) (codes : List ℕ) (count : ℕ) → length (packed_blocks dims codes count) ≡ count * block_size dims
unfolding packed_blocks
length_blocks dims codes count = length-joined (block_size dims) count _ (λ i l. length-packed dims _)

-- record k of the b-th 32 records
code_of : (dims : ℕ) (codes : List ℕ) (b k : ℕ) → k < 32
    → record_of (code_size dims) (record_of (32 * code_size dims) codes b) k ≡ record_of (code_size dims) codes (32 * b + k)
unfolding record_of
code_of dims codes b k h =
    let s = code_size dims in
    let some : s * (k + 1) ≤ s * 32 = mul-le-mul (omega arith) (omega arith) in
    let room : s * k + s ≤ 32 * s = omega (arith, some, mul-add s k 1) in
    let at : 32 * s * b + s * k ≡ s * (32 * b + k) = omega (arith, mul-add s (32 * b) k, mul_assoc 32 s b, mul_comm s b) in
    sym (part_of_front (32 * s) (s * k) s (drop (32 * s * b) codes) room)
    ∙ ap (take s) (drop-drop (s * k) (32 * s * b) codes ∙ ap (λ (x : ℕ). drop x codes) at)

-- what comes after the n codes doesn't matter
code_front : (size n i : ℕ) (codes fill : List ℕ) → length codes ≡ n * size → i < n → record_of size (codes ++ fill) i ≡ record_of size codes i
unfolding record_of
code_front size n i codes fill e h =
    let end = record_end i n size (length codes) h e in
    ap (take size) (drop-append-le (size * i) codes fill (omega arith))
    ∙ take-append-le size (drop (size * i) codes) fill (omega (arith, length-drop (size * i) codes))

-- ---- bounds

module _ (m : Metric) (v : Query) (qs codes fill : List ℕ) (n : ℕ) (e : length codes ≡ n * code_size (length qs)) where
  same_bound : (i : ℕ) → i < n → bound_of Blocks m v qs (packed_blocks (length qs) (codes ++ fill) (blocks_of n)) i ≡ bound_of Single m v qs codes i
  unfolding bound_of
  same_bound i h =
      let d = length qs in
      let thirty_two = record_of (32 * code_size d) (codes ++ fill) (i / 32) in
      let back : 32 * (i / 32) + i % 32 ≡ i = omega arith in
      let lane : i % 32 < 32 = omega arith in
      ap (λ (x : List ℕ). lane_estimate LowerBound m v qs x (i % 32)) (block_of_lem d (codes ++ fill) (blocks_of n) (i / 32) (omega arith))
      ∙ lane_is_code LowerBound m v qs (packed_block d thirty_two) (i % 32) lane
      ∙ ap (code_estimate LowerBound m v qs) (lane_of_packed d thirty_two (i % 32) lane)
      ∙ cleared_same LowerBound m v qs (record_of (code_size d) thirty_two (i % 32))
      ∙ ap (code_estimate LowerBound m v qs)
      (code_of d (codes ++ fill) (i / 32) (i % 32) lane ∙ ap (record_of (code_size d) (codes ++ fill)) back ∙ code_front (code_size d) n i codes fill e h)

  -- so for c wanted ids
  module _ (start c : ℕ) (within : 0 < c → start + c ≤ n) where
    same_words : bound_words Blocks m v qs (packed_blocks (length qs) (codes ++ fill) (blocks_of n)) start c ≡ bound_words Single m v qs codes start c
    unfolding bound_words
    same_words =
        words_ext c _ _ (λ j l. let w = within (omega arith) in ap (to_bits binary32) (same_bound (start + j) (omega arith)))

    same_nans : any_below c (λ j. is_nan (bound_of Blocks m v qs (packed_blocks (length qs) (codes ++ fill) (blocks_of n)) (start + j)))
        ≡ any_below c (λ j. is_nan (bound_of Single m v qs codes (start + j)))
    same_nans = any_ext _ _ c (λ j l. let w = within (omega arith) in ap is_nan (same_bound (start + j) (omega arith)))

-- ---- the walk

-- a number is 0 or not
zero_or : {A : Type 0} (r : ℕ) → (r ≡ 0 → A) → ((r ≡ 0 → ⊥) → A) → A
zero_or zero f g = f refl
zero_or (suc r) f g = g (λ z. omega arith)

module _ (metric dims : ℕ) (v : Query) (qs codes fill : List ℕ) (n start end : ℕ) (ids bounds marks count : List ℕ) where
  abbrev blocks : List ℕ
  blocks = packed_blocks dims (codes ++ fill) (blocks_of n)

  module _ (e : length codes ≡ n * code_size dims) where
    -- both lengths are right, so the first tests are the same
    same_first : first_number metric 2 dims v qs blocks n start end ids bounds marks count
        ≡ first_number metric 1 dims v qs codes n start end ids bounds marks count
    unfolding first_number bad_lengths bad_records bad_form layout_of records_size
    same_first = rw (eq-eqb _ _ (length_blocks dims (codes ++ fill) (blocks_of n)), eq-eqb _ _ e) refl

    module _ (ok : first_number metric 1 dims v qs codes n start end ids bounds marks count ≡ 0) where
      query_is : length qs ≡ dims
      unfolding first_number
      query_is = (accepted dims _ v qs _ ok).size

      ok_blocks : first_number metric 2 dims v qs blocks n start end ids bounds marks count ≡ 0
      ok_blocks = same_first ∙ ok

      module _ (range : range_number n start end (length marks) ≡ 0) where
        within : 0 < end - start → start + (end - start) ≤ n
        within = (inside n start end (length marks) range).0

        same_some : some_nan metric 2 dims v qs blocks n start end ids bounds marks count ≡ some_nan metric 1 dims v qs codes n start end ids bounds marks count
        unfolding some_nan layout_of
        same_some =
            let q = sym query_is in
            rw q (same_nans (metric_of metric) v qs codes fill n (rw q at e) start (end - start) within)

        same_bounds : bound_words Blocks (metric_of metric) v qs blocks start (end - start) ≡ bound_words Single (metric_of metric) v qs codes start (end - start)
        same_bounds =
            let q = sym query_is in
            rw q (same_words (metric_of metric) v qs codes fill n (rw q at e) start (end - start) within)

        go : (b : Bool) → some_nan metric 1 dims v qs codes n start end ids bounds marks count ≡ b
            → walk_answer metric 2 dims v qs blocks n start end ids bounds marks count ≡ walk_answer metric 1 dims v qs codes n start end ids bounds marks count
        unfolding layout_of
        go true h =
            sym (walk_refused _ _ _ _ _ _ _ _ _ _ _ _ _ 8 (nan_number _ _ _ _ _ _ _ _ _ _ _ _ _ ok_blocks range (same_some ∙ h)) (λ (z : 8 ≡ 0). omega arith))
            ∙ walk_refused _ _ _ _ _ _ _ _ _ _ _ _ _ 8 (nan_number _ _ _ _ _ _ _ _ _ _ _ _ _ ok range h) (λ (z : 8 ≡ 0). omega arith)
        go false h =
            sym (walk_written _ _ _ _ _ _ _ _ _ _ _ _ _ _ _ _ _ _ _ refl (zero_number _ _ _ _ _ _ _ _ _ _ _ _ _ ok_blocks range (same_some ∙ h))
            (sym same_bounds) refl refl refl refl)
            ∙ walk_written _ _ _ _ _ _ _ _ _ _ _ _ _ _ _ _ _ _ _ refl (zero_number _ _ _ _ _ _ _ _ _ _ _ _ _ ok range h) refl refl refl refl refl

      past_first : walk_answer metric 2 dims v qs blocks n start end ids bounds marks count
          ≡ walk_answer metric 1 dims v qs codes n start end ids bounds marks count
      past_first =
          zero_or (range_number n start end (length marks)) (λ z. go z _ refl)
          (λ h. sym (walk_refused _ _ _ _ _ _ _ _ _ _ _ _ _ _ (range_number_lem _ _ _ _ _ _ _ _ _ _ _ _ _ ok_blocks _ refl h) h)
          ∙ walk_refused _ _ _ _ _ _ _ _ _ _ _ _ _ _ (range_number_lem _ _ _ _ _ _ _ _ _ _ _ _ _ ok _ refl h) h)

  -- module 8: the walk over n codes packed 32 at a time, the last block filled up with any codes, is the walk over those codes
  pub packed_walk : length codes ≡ n * code_size dims
      → walk_answer metric 2 dims v qs (packed_blocks dims (codes ++ fill) (blocks_of n)) n start end ids bounds marks count
      ≡ walk_answer metric 1 dims v qs codes n start end ids bounds marks count
  packed_walk e =
      zero_or (first_number metric 1 dims v qs codes n start end ids bounds marks count) (past_first e)
      (λ h. sym (walk_refused _ _ _ _ _ _ _ _ _ _ _ _ _ _ (first_number_lem _ _ _ _ _ _ _ _ _ _ _ _ _ _ (sym (same_first e)) h) h)
      ∙ walk_refused _ _ _ _ _ _ _ _ _ _ _ _ _ _ (first_number_lem _ _ _ _ _ _ _ _ _ _ _ _ _ _ refl h) h)
