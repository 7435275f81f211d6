-- Laws of specs/Calls: what an accepted call knows, and its answers. Assumes nothing.
use mathlib.Core.Path.{◌≡◌, refl, ◌∙◌}
use mathlib.Core.Bool.{Bool, true, false, ◌||◌}
use Prim.Native.Nat.{ℕ}
use mathlib.Core.List.{List}
use lib.ListN.{length}
use lib.Ieee.{is_nan}
use Rattle.words.specs.Bytes.{float_bytes}
use Rattle.words.specs.Limits.{most_dims}
use Rattle.words.specs.Metrics.{metric_of}
use Rattle.words.specs.Refusals.{bad_dims, bad_length}
use Rattle.words.proofs.RefusalLaws.{length_is, no_row, neither, else_second, accepts, refuses}
use Rattle.code.specs.Code.{code_size}
use Rattle.estimate.specs.declared.Asked.{Asked}
use Rattle.estimate.specs.declared.Query.{Query}
use Rattle.estimate.specs.Record.{code_estimate}
use Rattle.estimate.specs.Calls.{query_number, record_number, code_number, code_answer}

-- ---- the refusals 1 to 5 of a call with a query

module _ (dims : ℕ) (other : Bool) (v : Query) (qs : List ℕ) (form : Bool) where
  -- what a call knows that none of them refuses
  pub record Accepted : Type 0 where
    pub size : length qs ≡ dims
    pub others : other ≡ false

  pub accepted : query_number dims other v qs form ≡ 0 → Accepted
  unfolding query_number
  accepted e =
      let r1 = no_row (bad_dims most_dims dims) 0 _ e in
      let r3 = no_row (bad_length qs dims || other) 2 _ r1.1 in
      let lengths = neither (bad_length qs dims) other r3.0 in
      record { size = length_is qs dims lengths.0; others = lengths.1 }

-- ---- the answers of a single code

module _ (w : Asked) (metric dims : ℕ) (v : Query) (qs code out : List ℕ) (ok : record_number metric dims (code_size dims) 4 v qs code out ≡ 0) where
  pub code-none : is_nan (code_estimate w (metric_of metric) v qs code) ≡ true → (8, out) ≡ code_answer w metric dims v qs code out
  unfolding code_answer code_number
  code-none h = refuses _ 7 out _ (else_second _ _ ok ∙ rw h refl)

  pub code-value : is_nan (code_estimate w (metric_of metric) v qs code) ≡ false → (now : List ℕ)
      → now ≡ float_bytes (code_estimate w (metric_of metric) v qs code) → (0, now) ≡ code_answer w metric dims v qs code out
  unfolding code_answer code_number
  code-value h now f = accepts _ out _ now (else_second _ _ ok ∙ rw h refl) f
