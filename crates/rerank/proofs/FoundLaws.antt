-- What the scan of the lists finds is what the refusals of a call ask for. Assumes nothing.
use mathlib.Core.Path.{◌≡◌, refl, sym, ap, ap₂, ◌∙◌}
use mathlib.Core.Bool.{Bool, true, false, not, ◌&&◌, ◌||◌, cond}
use mathlib.Core.List.{List}
use Prim.Native.Nat.{ℕ, zero, suc, ◌+◌, ◌*◌, ◌<◌, ◌≤◌}
use native.Mathlib.Nat.{zero-add}
use native.Mathlib.Omega.{arith}
use borrow.Author.Tests.{lt-ltb, le-ltb}
use lib.Dec.{eqb, leb, ltb}
use lib.ListN.{length, get_or}
use lib.Ieee.{binary32, nan_bits}
use lib.Ieee.Bits.{nan_bits_is}
use Rattle.words.specs.Bytes.{num_at, f32_at}
use Rattle.words.specs.Limits.{most_mark}
use Rattle.words.specs.Lists.{any_below}
use Rattle.words.specs.Refusals.{bad_lists}
use Rattle.words.specs.Sums.{sum_to}
use Rattle.words.proofs.RefusalLaws.{lists_are}
use Rattle.scan.specs.Lists.{Places, Sized, places}
use Rattle.scan.specs.Parts.{lacks, lack_at, above_most, ScanTo}
use Rattle.scan.specs.declared.pass.Scan.{Scan}
use Rattle.rerank.specs.Rerank.{missing_at, missing, bad_mark, next_refusal}
use Rattle.rerank.specs.Parts.{held}

pub sized_of : (e d m : List ℕ) → bad_lists (length e) (length d) (length m) ≡ false → Sized (places e d m)
sized_of e d m h = let l = lists_are (length e) (length d) (length m) h in record { most = l.0; estimates = l.1; distances = l.2 }

-- ---- the refusal that the scan finds
any_sum : (p : ℕ → Bool) (f : ℕ → ℕ) (n : ℕ) → ((i : ℕ) → ltb 0 (f i) ≡ p i) → ltb 0 (sum_to n f) ≡ any_below n p
unfolding sum_to any_below
any_sum p f zero h = refl
any_sum p f (suc n) h = either (sum_to n f) (f n) ∙ ap₂ (λ (a b : Bool). a || b) (any_sum p f n h) (h n)
  where
    either : (a b : ℕ) → ltb 0 (a + b) ≡ (ltb 0 a || ltb 0 b)
    either zero b = ap (ltb 0) (zero-add b)
    either (suc a) b = lt-ltb 0 (suc a + b) (omega arith) ∙ sym (ap (λ (t : Bool). t || ltb 0 b) (lt-ltb 0 (suc a) (omega arith)))

module _ (l : Places) (s : Scan) (k : ScanTo l (length l.marks) s) where
  found_missing : ltb 0 s.missing ≡ missing (held l)
  unfolding missing
  found_missing = rw k.missing (any_sum (missing_at (held l)) (lack_at l) (length l.marks) here)
    where
      go : (a b c : Bool) → ltb 0 (cond a 1 0 + cond b (cond c 1 0) 0) ≡ (a || (b && c))
      go true true true = refl
      go true true false = refl
      go true false c = refl
      go false true true = refl
      go false true false = refl
      go false false c = refl

      here : (i : ℕ) → ltb 0 (lack_at l i) ≡ missing_at (held l) i
      here i = unfold lack_at in unfold lacks in unfold missing_at in unfold f32_at in
          rw (← nan_bits_is binary32 (num_at 4 l.estimates (4 * i)), ← nan_bits_is binary32 (num_at 4 l.distances (4 * i)))
          (go (nan_bits binary32 (num_at 4 l.estimates (4 * i))) (eqb (get_or l.marks i 0) 1) (nan_bits binary32 (num_at 4 l.distances (4 * i))))

  found_bad : ltb 0 s.bad ≡ bad_mark (held l)
  unfolding bad_mark
  found_bad = rw k.bad (any_sum (λ i. not (leb (get_or l.marks i 0) most_mark)) (λ i. above_most (get_or l.marks i 0)) (length l.marks)
      (λ i. go (leb (get_or l.marks i 0) most_mark)))
    where
      go : (b : Bool) → ltb 0 (cond b 0 1) ≡ not b
      go true = refl
      go false = refl

  pub missing_refused : 0 < s.missing → next_refusal (held l) ≡ 4
  unfolding next_refusal
  missing_refused h = rw (sym found_missing ∙ lt-ltb 0 s.missing h)

  module _ (none : s.missing ≤ 0) where
    pub bad_refused : 0 < s.bad → next_refusal (held l) ≡ 5
    unfolding next_refusal
    bad_refused h = rw (sym found_missing ∙ le-ltb 0 s.missing none, sym found_bad ∙ lt-ltb 0 s.bad h)

    pub none_found : s.bad ≤ 0 → next_refusal (held l) ≡ 0
    unfolding next_refusal
    none_found h = rw (sym found_missing ∙ le-ltb 0 s.missing none, sym found_bad ∙ le-ltb 0 s.bad h)
