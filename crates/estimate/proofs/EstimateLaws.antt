-- Laws of specs/Estimate and specs/Record: a sum as a float, what is written of a code and of 32 lanes, tests for NaN. Assumes nothing.
use mathlib.Core.Path.{◌≡◌, refl, sym, subst, ◌∙◌}
use mathlib.Core.Bool.{Bool, true, false, not, true≢false}
use mathlib.Core.Logic.{inr}
use Prim.Native.Nat.{ℕ, zero, suc, ◌+◌, ◌*◌, ◌^◌, ◌≤◌, ◌<◌}
use native.Mathlib.Nat.{mul-pos}
use native.Mathlib.Omega.{arith}
use mathlib.Core.List.{List}
use lib.Dec.{T, ltb}
use lib.ListN.{length, get_or, take, drop}
use lib.Seq.{sets, length-sets, take_all}
use lib.IntN.{pos}
use lib.Ieee.{Float, nan, inf, fin, binary32, in_float, fits, is_nan, to_bits, lt, of_bits}
use lib.Ieee.Bits.{of_bits-to_bits}
use lib.Ieee.Exact.{HasValue}
use lib.Ieee.Fits.{add-fits, sub-fits, up_pos, down_pos}
use borrow.Author.Tests.{le-leb, le-false, lt-true, ltb-true, ltb-false}
use Rattle.std.specs.Float.{float_is_finite}
use Rattle.words.specs.Bytes.{f32_at, bytes_of, float_bytes, floats_of}
use Rattle.words.specs.Floats.{not_finite, any_nan, plus_zero}
use Rattle.words.specs.Limits.{most_sum}
use Rattle.words.specs.declared.metric.Metric.{Metric}
use Rattle.words.specs.declared.metric.Metric.TheVariants.{L2, Dot}
use Rattle.std.specs.Prelude.{Option, Some, None}
use Rattle.root.specs.Parts.{units_of}
use Rattle.root.specs.Root.{root_of}
use Rattle.root.proofs.CaseLaws.{root_below, root_same}
use Rattle.root.proofs.PatternLaws.{bits_value}
use Rattle.words.proofs.ListLaws.{none-at}
use Rattle.words.proofs.WordsLaws.{words_more}
use Rattle.code.specs.declared.parts.reader.Factors.{Factors}
use Rattle.code.specs.Code.{words_bit}
use Rattle.code.specs.Reader.{factors_at}
use Rattle.sums.proofs.PlainLaws.{words_sum}
use Rattle.sums.specs.Parts.{LaneSums}
use Rattle.sums.specs.Sums.{plain_sum, query_sum}
use Rattle.estimate.specs.declared.Asked.{Asked}
use Rattle.estimate.specs.declared.Asked.TheVariants.{Rough, LowerBound}
use Rattle.estimate.specs.declared.Query.{Query}
use Rattle.estimate.specs.Estimate.{rough, lower_bound, estimate}
use Rattle.estimate.specs.Record.{estimate_of, code_estimate, lane_estimate, lane_words}

-- a sum is turned to f32 without loss
pub sum_in_float : (n : ℕ) → n ≤ most_sum → T (in_float binary32 (pos n))
unfolding in_float
sum_in_float n h = subst T (sym (le-leb n 16777216 (omega arith))) tt

-- an estimate is an f32
pub estimate-fits : (w : Asked) (m : Metric) (v : Query) (f : Factors) (s q : ℕ) → T (fits binary32 (estimate w m v f s q))
unfolding estimate lower_bound rough
estimate-fits Rough L2 v f s q = add-fits binary32 _ _
estimate-fits Rough Dot v f s q = add-fits binary32 _ _
estimate-fits LowerBound m v f s q = sub-fits binary32 _ _

-- what the code works out of the parts of a single code, with the codes q of the query qs
pub code_same : (w : Asked) (m : Metric) (v : Query) (qs q code words : List ℕ) (x : Float) (f : Factors) (s : ℕ) → q ≡ qs → words ≡ drop 16 code
    → f ≡ factors_at code → s ≡ plain_sum q (words_bit words) → x ≡ estimate w m v f s (query_sum qs) → x ≡ code_estimate w m v qs code
unfolding code_estimate estimate_of
code_same w m v qs q code words x f s eq ew ef es e = e ∙ rw (ef, es, eq, words_sum qs code words ew) refl

-- a turn of a loop that writes floats one after the other
pub floats_more : (out out' : List ℕ) (k : ℕ) (x : Float) (f : ℕ → Float) → 4 * k + 4 ≤ length out → out' ≡ sets out (4 * k) (float_bytes x) → x ≡ f k
    → take (4 * k) out ≡ floats_of k f
    → (take (4 * (k + 1)) out' ≡ floats_of (k + 1) f) × (length out' ≡ length out)
unfolding float_bytes
floats_more out out' k x f h e ex w =
    rw (e, ex) (words_more out k (λ j. to_bits binary32 (f j)) h w, length-sets out (4 * k) (bytes_of 4 (to_bits binary32 (f k))))

-- a factor of a block that has no NaN among them
pub number_factor : (block : List ℕ) → any_nan 128 block ≡ false → (i : ℕ) → i < 128 → is_nan (f32_at block i) ≡ false
unfolding any_nan
number_factor block h = none-at (λ i. is_nan (f32_at block i)) 128 h

-- ---- the loop that writes the estimates of 32 lanes from their sums

module _ (w : Asked) (m : Metric) (v : Query) (qs block : List ℕ) where
  -- k of them are written
  abbrev pub Written : List ℕ → ℕ → Type 0
  Written out k = (length out ≡ 128) × (take (4 * k) out ≡ floats_of k (lane_estimate w m v qs block))

  pub lane_more : (s out out' : List ℕ) (k : ℕ) (x d p i e : Float) → LaneSums qs block s → Written out k → k < 32
      → d ≡ f32_at block k → p ≡ f32_at block (32 + k) → i ≡ f32_at block (64 + k) → e ≡ f32_at block (96 + k)
      → x ≡ estimate w m v (record { dis_u_2 = d; factor_ppc = p; factor_ip = i; factor_err = e }) (get_or s k 0) (query_sum qs)
      → out' ≡ sets out (4 * k) (float_bytes x) → Written out' (k + 1)
  unfolding lane_estimate estimate_of
  lane_more s out out' k x d p i e r h l ed ep ei ee ex eo =
      let next = floats_more out out' k x _ (omega arith) eo (ex ∙ rw (ed, ep, ei, ee, r.sums.each k l) refl) h.1 in
      (next.1 ∙ h.0, next.0)

  pub lanes_written : (out : List ℕ) → Written out 32 → out ≡ lane_words w m v qs block
  unfolding lane_words
  lanes_written out h = sym (take_all 128 out (omega arith)) ∙ h.1

-- a number that is finite, as std tests it
pub finite_test : (x : Float) → not_finite x ≡ not (float_is_finite x)
unfolding float_is_finite
finite_test nan = refl
finite_test (inf s) = refl
finite_test (fin s m e) = refl

-- ---- numbers below 0, by their bits

none_some : (o : Option Float) (v : Float) → None ≡ o → Some v ≡ o → ⊥
none_some o v n s = subst (λ (x : Option Float). elim x as (λ _. Type 0) [ None ↦ Unit {0} | Some _ ↦ ⊥ ]) (n ∙ sym s) tt

not_below : (v : Float) (n d : ℕ) → HasValue v false n d → false ≡ lt v plus_zero
unfolding lt of_bits
not_below nan n d h = absurd h
not_below (inf s) n d h = absurd h
not_below (fin true m e) n d h = absurd (true≢false h.0)
not_below (fin false m e) n d h = le-false _ _ (omega arith)

no_root-below : (v : Float) → None ≡ root_of v → is_nan v ≡ false → true ≡ lt v plus_zero
unfolding root_of lt of_bits is_nan
no_root-below nan r n = absurd (true≢false n)
no_root-below (inf true) r n = refl
no_root-below (inf false) r n = absurd (none_some _ _ r refl)
no_root-below (fin s zero e) r n = absurd (none_some _ _ r refl)
no_root-below (fin true (suc m) e) r n =
    let some : 0 < suc m = omega arith in
    lt-true _ _ (omega (arith, mul-pos (mul-pos some (up_pos e)) (down_pos (pos 0))))
no_root-below (fin false (suc m) e) r n = absurd (none_some _ _ r refl)

same_root-not_below : (v : Float) → Some v ≡ root_of v → false ≡ lt v plus_zero
unfolding root_of lt of_bits
same_root-not_below nan r = absurd (none_some _ _ refl r)
same_root-not_below (inf true) r = absurd (none_some _ _ refl r)
same_root-not_below (inf false) r = refl
same_root-not_below (fin false m e) r = le-false _ _ (omega arith)
same_root-not_below (fin true zero e) r = le-false _ _ (omega arith)
same_root-not_below (fin true (suc m) e) r = absurd (none_some _ _ refl r)

-- a pattern above that of -0.0 is of a number below 0, or of a NaN
pub below_zero_bits : (x : Float) → T (fits binary32 x) → is_nan x ≡ false → ltb 0x8000_0000 (to_bits binary32 x) ≡ lt x plus_zero
below_zero_bits x f n = go (ltb 0x8000_0000 (to_bits binary32 x)) refl
  where
    b : ℕ
    b = to_bits binary32 x

    go : (t : Bool) → ltb 0x8000_0000 b ≡ t → t ≡ lt x plus_zero
    go true t = no_root-below x (root_below x f (ltb-true _ _ t)) n
    go false t = by_top (ltb b 0x7F80_0000) refl
      where
        by_top : (s : Bool) → ltb b 0x7F80_0000 ≡ s → false ≡ lt x plus_zero
        by_top true s =
            not_below x _ _ (subst (λ (v : Float). HasValue v false (units_of b) (2 ^ 149)) (of_bits-to_bits binary32 x f) (bits_value b (ltb-true _ _ s)))
        by_top false s =
            let high : 0x7F80_0000 ≤ b = ltb-false _ _ s in
            same_root-not_below x (root_same x f n (ltb-false _ _ t) (inr ((λ e. omega (arith, high, e)), high)))
