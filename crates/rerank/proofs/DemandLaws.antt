-- Demand 3 holds. Assumes nothing.
use mathlib.Core.Path.{◌≡◌, sym, subst, ap, ◌∙◌}
use mathlib.Core.List.{List, [], ◌∷◌, ◌++◌}
use Prim.Native.Nat.{ℕ, ◌^◌, ◌<◌}
use lib.Dec.{T}
use lib.Ieee.{is_nan, of_bits, to_bits, binary32}
use lib.Ieee.Bits.{to_bits-of_bits}
use mathlib.Core.Bool.{Bool, false, not}
use Rattle.rerank.specs.Rerank.{State, Event, done, Run}
use Rattle.rerank.specs.Demand.{Lower, Always, Ordered, Finished, fresh, held, heard, Demand}
use Rattle.rerank.proofs.RuleLaws.{supply_clean}
use Rattle.rerank.proofs.RunLaws.{Fresh, blame, exact, all_below, none_above, never_falls}
use Rattle.rerank.proofs.TallyLaws.{once, finished}
use Rattle.rerank.proofs.ByteRunLaws.{calls_run, calls_count}
use Rattle.rerank.proofs.CallerLaws.{fresh_waits, caller_ends}

-- ---- over runs
module _ (s : State) (es : List Event) (f : Fresh s) (r : Run s es) where
  pub run_always : Always s es
  run_always =
      record {
        one_by_one = λ fs gs p d e h. (supply_clean _ p d h).2;
        exact = λ fs gs p d e. exact s fs gs p d (subst (Run s) e r) f;
        below = λ fs gs p q d e. all_below s fs gs p q d (subst (Run s) e r);
        blame = λ fs gs hs x y dx dy e. blame s fs gs hs x y dx dy (subst (Run s) e r);
      }

  pub run_ordered : Lower s.estimate es → Ordered s es
  run_ordered l =
      record {
        rising = λ fs gs hs x y dx dy e. never_falls s fs gs hs x y dx dy (subst (Run s) e r) f (subst (Lower s.estimate) e l);
        above = λ fs gs p q d e. none_above s fs gs p q d (subst (Run s) e r) f (subst (Lower s.estimate) e l);
      }

pub run-finished : (s : State) (es : List Event) → Fresh s → Run s (es ++ (done ∷ [])) → Finished s es
run-finished s es f r = record { once = once s es r f; distances = (finished s es r f).0; gives = (finished s es r f).1 }

-- ---- over bytes
same_bits : (u v : ℕ) → u < 2 ^ 32 → v < 2 ^ 32 → is_nan (of_bits binary32 u) ≡ false → of_bits binary32 u ≡ of_bits binary32 v → u ≡ v
same_bits u v hu hv n e =
    sym (to_bits-of_bits binary32 u hu (number n)) ∙ ap (to_bits binary32) e ∙ to_bits-of_bits binary32 v hv (number (sym (ap is_nan e) ∙ n))
  where
    number : {b : Bool} → b ≡ false → T (not b)
    number h = subst (λ (b : Bool). T (not b)) (sym h) tt

pub demand : Demand
demand =
    record {
      runs = calls_run;
      counts = calls_count;
      always = λ n e d cs. let b = fresh n e d in run_always (held b) (heard b cs) (fresh_waits n e d) (calls_run b cs).0;
      ordered = λ n e d cs. let b = fresh n e d in run_ordered (held b) (heard b cs) (fresh_waits n e d) (calls_run b cs).0;
      finished = λ n e d cs es h. let b = fresh n e d in run-finished (held b) es (fresh_waits n e d) (subst (Run (held b)) h (calls_run b cs).0);
      ends = caller_ends;
      bits = same_bits;
    }
