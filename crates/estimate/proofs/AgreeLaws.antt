-- Module 7's law over the calls: a lane of a block and its single code. Assumes nothing.
use mathlib.Core.Path.{◌≡◌, refl, sym, ap, ◌∙◌}
use mathlib.Core.Bool.{Bool, true, false, cond, ◌||◌}
use Prim.Native.Nat.{ℕ, ◌*◌, ◌<◌}
use mathlib.Core.List.{List}
use native.Mathlib.Omega.{arith}
use lib.ListN.{length, take, drop}
use lib.Seq.{take_all}
use lib.Ieee.{Float, is_nan, to_bits, binary32}
use Rattle.words.specs.Bytes.{bytes_of, float_bytes, f32_at, words_of}
use Rattle.words.specs.Metrics.{metric_of}
use Rattle.words.specs.Refusals.{after, answer, bad_length, bad_form}
use Rattle.words.proofs.ByteLaws.{length-bytes_of}
use Rattle.words.proofs.ListLaws.{joined_at}
use Rattle.words.proofs.RefusalLaws.{sized, none_bad}
use Rattle.words.proofs.WordsLaws.{floats_back, length-words_of}
use Rattle.code.specs.Code.{code_size}
use Rattle.code.proofs.CodeLaws.{length-code}
use Rattle.block.specs.Block.{block_size, lane_factor, lane_bit, lane_code}
use Rattle.estimate.specs.declared.Asked.{Asked}
use Rattle.estimate.specs.declared.Query.{Query}
use Rattle.estimate.specs.Record.{code_estimate, lane_estimate, lane_words, estimate_of}
use Rattle.estimate.specs.Calls.{query_number, record_number, code_answer, block_answer}
use Rattle.estimate.proofs.EstimateLaws.{estimate-fits}
use Rattle.estimate.proofs.LaneLaws.{lane_is_code}
use Rattle.estimate.proofs.CallLaws.{accepted, code-none, code-value}

-- an accepted answer
number_of : (n : ℕ) (old new now : List ℕ) → answer n old new ≡ (0, now) → n ≡ 0
unfolding answer
number_of n old new now e = ap (λ (p : ℕ × List ℕ). p.0) e

buffer_of : (n : ℕ) (old new now : List ℕ) → answer n old new ≡ (0, now) → now ≡ new
unfolding answer after
buffer_of n old new now e =
    let z : n ≡ 0 = ap (λ (p : ℕ × List ℕ). p.0) e in
    sym (ap (λ (p : ℕ × List ℕ). p.1) e) ∙ rw z refl

module _ (w : Asked) (metric dims : ℕ) (v : Query) (qs block out lanes one : List ℕ) (k : ℕ) where
  abbrev lane : ℕ → Float
  lane = lane_estimate w (metric_of metric) v qs block

  -- a block call that is accepted, a buffer for one float, and a lane
  module _ (e : block_answer w metric dims v qs block out ≡ (0, lanes)) (room : length one ≡ 4) (h : k < 32) where
    ok : record_number metric dims (block_size dims) 128 v qs block out ≡ 0
    unfolding block_answer
    ok = number_of _ out _ lanes e

    written : lanes ≡ words_of 32 (λ j. to_bits binary32 (lane j))
    unfolding block_answer lane_words
    written = buffer_of _ out _ lanes e

    -- the single code is accepted too, but for a NaN
    number : record_number metric dims (code_size dims) 4 v qs (lane_code dims block k) one ≡ 0
    unfolding record_number lane_code
    number =
        let a = accepted dims (bad_length block (block_size dims) || bad_length out 128) v qs (bad_form metric) ok in
        let c = lane_code dims block k in
        let s = none_bad _ _ (sized c (code_size dims) (length-code dims (lane_factor block k) (lane_bit block k))) (sized one 4 room) in
        ap (λ (b : Bool). query_number dims b v qs (bad_form metric)) (s ∙ sym a.others) ∙ ok

    same : code_estimate w (metric_of metric) v qs (lane_code dims block k) ≡ lane k
    unfolding record_number
    same =
        let a = accepted dims (bad_length block (block_size dims) || bad_length out 128) v qs (bad_form metric) ok in
        ap (λ (d : ℕ). code_estimate w (metric_of metric) v qs (lane_code d block k)) (sym a.size) ∙ sym (lane_is_code w (metric_of metric) v qs block k h)

    back : f32_at lanes k ≡ lane k
    unfolding lane_estimate estimate_of
    back =
        let size = ap length written ∙ length-words_of 32 (λ j. to_bits binary32 (lane j)) in
        floats_back lanes 32 k lane (take_all 128 lanes (omega arith) ∙ written) (estimate-fits w (metric_of metric) v _ _ _) h

    bytes : take 4 (drop (4 * k) lanes) ≡ float_bytes (lane k)
    unfolding words_of float_bytes
    bytes =
        ap (λ (l : List ℕ). take 4 (drop (4 * k) l)) written
        ∙ joined_at 4 32 k (λ i. bytes_of 4 (to_bits binary32 (lane i))) (λ i l. length-bytes_of 4 _) h

    go : (b : Bool) → is_nan (f32_at lanes k) ≡ b
        → code_answer w metric dims v qs (lane_code dims block k) one ≡ cond b (8, one) (0, take 4 (drop (4 * k) lanes))
    go true n = sym (code-none w metric dims v qs _ one number (ap is_nan (same ∙ sym back) ∙ n))
    go false n = sym (code-value w metric dims v qs _ one number (ap is_nan (same ∙ sym back) ∙ n) _ (bytes ∙ ap float_bytes (sym same)))

  -- module 7: a lane of a block gives the estimate of its single code, the same bits, or a NaN where the single call refuses with 8
  pub lane_or_none : block_answer w metric dims v qs block out ≡ (0, lanes) → length one ≡ 4 → k < 32
      → code_answer w metric dims v qs (lane_code dims block k) one ≡ cond (is_nan (f32_at lanes k)) (8, one) (0, take 4 (drop (4 * k) lanes))
  lane_or_none e room h = go e room h (is_nan (f32_at lanes k)) refl
