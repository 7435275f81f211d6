-- The counts of a run: each candidate is handed out once, a list of n is finished by n supplies and n gives, and the reported count is that of
-- the places no longer waiting. Assumes nothing.
use mathlib.Core.Path.{◌≡◌, refl, sym, subst, ap, ◌∙◌}
use mathlib.Core.Bool.{◌||◌, cond}
use mathlib.Core.List.{List, [], ◌∷◌, ◌++◌}
use Prim.Native.Nat.{ℕ, zero, suc, ◌+◌, ◌*◌, ◌<◌, ◌≤◌}
use native.Mathlib.Decide.{dec_lt}
use native.Mathlib.Nat.{zero-add}
use native.Mathlib.Omega.{arith}
use borrow.Author.Tests.{eq-eqb, ne_eqb}
use lib.Dec.{eqb}
use lib.Ieee.{Float}
use Rattle.words.specs.Sums.{sum_to}
use Rattle.words.proofs.SumLaws.{sum_ext, sum_const, sum_le, one_most}
use Rattle.rerank.specs.Rerank.{State, put, given, supplied, one_or_two, counted, Event, asked, supply, gave, done}
use Rattle.rerank.specs.Rerank.{Accepted, then, ran, Run, tally, a_supply, a_give, supply_of, give_of}
use Rattle.rerank.specs.Demand.{not_waiting}
use Rattle.scan.specs.Parts.{not_zero}
use Rattle.rerank.specs.declared.Answer.TheVariants.{Done}
use Rattle.rerank.proofs.LeastLaws.{put_here, put_else, at-or_else}
use Rattle.rerank.proofs.RuleLaws.{Clean, next_clean, means}
use Rattle.rerank.proofs.RunLaws.{Fresh, Supplying, supplying, Giving, giving, run_cut, ran-estimate}

-- ---- numbers of a mark
abbrev pub is_two : ℕ → ℕ
is_two m = cond (eqb m 2) 1 0

-- the sum of such a number over the places
abbrev pub total : (ℕ → ℕ) → State → ℕ
total g s = sum_to s.size (λ i. g (s.mark i))

pub sum-put : (g m : ℕ → ℕ) (p v n : ℕ) → p < n → sum_to n (λ i. g (put m p v i)) + g (m p) ≡ sum_to n (λ i. g (m i)) + g v
unfolding sum_to
sum-put g m p v zero h = absurd (omega arith)
sum-put g m p v (suc n) h =
    elim (dec_lt p n) [
      | yes l ↦ omega (arith, sum-put g m p v n l, ap g (put_else m p v n (λ e. omega arith)))
      | no f ↦ last (omega arith)
    ]
  where
    last : n ≡ p → sum_to n (λ i. g (put m p v i)) + g (put m p v n) + g (m p) ≡ sum_to n (λ i. g (m i)) + g (m n) + g v
    last e =
        let same = sum_ext n (λ i. g (put m p v i)) (λ i. g (m i)) (λ i l. ap g (put_else m p v i (λ q. omega arith))) in
        omega (arith, ap (λ (k : ℕ). g (m k)) e, ap (λ (k : ℕ). g (put m p v k)) e, ap g (put_here m p v))

-- ---- what each call does to the sum
module _ (g : ℕ → ℕ) (s : State) (p : ℕ) (d : Float) where
  pub total-supplied : Supplying s p d → total g (supplied s p d) + g 0 ≡ total g s + g 1
  total-supplied k =
      subst (λ (m : ℕ). total g (supplied s p d) + g m ≡ total g s + g 1) k.2.least.marked (sum-put g s.mark p 1 s.size k.2.least.inside)

  pub total-given : Giving s p d → total g (given s p) + g 1 ≡ total g s + g 2
  total-given k =
      subst (λ (m : ℕ). total g (given s p) + g m ≡ total g s + g 2) k.1.least.marked (sum-put g s.mark p 2 s.size k.1.least.inside)

-- ---- a number of the state that each accepted call raises by a number of its event
module _ (f : Event → ℕ) (φ : State → ℕ) (step : (s : State) (e : Event) → Accepted s e → φ (then s e) ≡ f e + φ s) where
  pub tally-run : (s : State) (es : List Event) → Run s es → tally f es + φ s ≡ φ (ran s es)
  unfolding Run ran tally
  tally-run s [] r = zero-add (φ s)
  tally-run s (e ∷ es) r = omega (arith, tally-run (then s e) es r.1, step s e r.0)

step-supplies : (s : State) (e : Event) → Accepted s e → total not_zero (then s e) ≡ a_supply e + total not_zero s
unfolding Accepted then
step-supplies s (asked p) a = omega arith
step-supplies s (supply p d) a = omega (arith, total-supplied not_zero s p d (supplying s p d a))
step-supplies s (gave p d) a = omega (arith, total-given not_zero s p d (giving s p d a))
step-supplies s done a = omega arith

step_gives : (s : State) (e : Event) → Accepted s e → total is_two (then s e) ≡ a_give e + total is_two s
unfolding Accepted then
step_gives s (asked p) a = omega arith
step_gives s (supply p d) a = omega (arith, total-supplied is_two s p d (supplying s p d a))
step_gives s (gave p d) a = omega (arith, total-given is_two s p d (giving s p d a))
step_gives s done a = omega arith

-- the same for one place: a call on place p raises the number of place q's mark, where q is p, from g k to g v
one_raised : (g m : ℕ → ℕ) (p v q : ℕ) → g v ≡ 1 + g (m p) → g (put m p v q) ≡ cond (eqb q p) 1 0 + g (m q)
one_raised g m p v q h =
    at-or_else (λ x. g (put m p v x) ≡ cond (eqb x p) 1 0 + g (m x)) p q
    (rw (put_here m p v, eq-eqb p p refl) h) (λ o. rw (put_else m p v q o, ne_eqb q p o) (sym (zero-add (g (m q)))))

one_kept : (g m : ℕ → ℕ) (p v q : ℕ) → g v ≡ g (m p) → g (put m p v q) ≡ g (m q)
one_kept g m p v q h = at-or_else (λ x. g (put m p v x) ≡ g (m x)) p q (rw (put_here m p v) h) (λ o. rw (put_else m p v q o))

step-supply : (q : ℕ) (s : State) (e : Event) → Accepted s e → not_zero ((then s e).mark q) ≡ supply_of q e + not_zero (s.mark q)
unfolding Accepted then
step-supply q s (asked p) a = omega arith
step-supply q s (supply p d) a = one_raised not_zero s.mark p 1 q (rw (supplying s p d a).2.least.marked)
step-supply q s (gave p d) a = omega (arith, one_kept not_zero s.mark p 2 q (rw (giving s p d a).1.least.marked))
step-supply q s done a = omega arith

step_give : (q : ℕ) (s : State) (e : Event) → Accepted s e → is_two ((then s e).mark q) ≡ give_of q e + is_two (s.mark q)
unfolding Accepted then
step_give q s (asked p) a = omega arith
step_give q s (supply p d) a = omega (arith, one_kept is_two s.mark p 1 q (rw (supplying s p d a).2.least.marked))
step_give q s (gave p d) a = one_raised is_two s.mark p 2 q (rw (giving s p d a).1.least.marked)
step_give q s done a = omega arith

-- ---- at Done every mark is 2
done-two : (m : ℕ) → m ≤ 2 → (m ≡ 0 → ⊥) → (m ≡ 1 → ⊥) → m ≡ 2
done-two m h a b = omega arith

pub at_done : (s : State) → Accepted s done → (q : ℕ) → q < s.size → s.mark q ≡ 2
unfolding Accepted
at_done s a q h =
    let c = next_clean s a.0 in
    let m = means s c Done a.1 in
    done-two (s.mark q) (c.bounded q h) (m.none_waits q h) (m.none-asked q h)

pub total_each : (g : ℕ → ℕ) (s : State) (k c : ℕ) → ((q : ℕ) → q < s.size → s.mark q ≡ k) → g k ≡ c → total g s ≡ c * s.size
total_each g s k c h e = sum_ext s.size (λ i. g (s.mark i)) (λ _. c) (λ i l. ap g (h i l) ∙ e) ∙ sum_const c s.size

-- a run to Done from fresh marks
module _ (s : State) (es : List Event) (r : Run s (es ++ (done ∷ []))) (f : Fresh s) where
  before : Run s es
  before = (run_cut s es (done ∷ []) r).0

  last : Accepted (ran s es) done
  unfolding Run
  last = (run_cut s es (done ∷ []) r).1.0

  size_is : (ran s es).size ≡ s.size
  size_is = (ran-estimate s es).1

  -- hands out every candidate once, at a distance that was supplied once
  pub once : (q : ℕ) → q < s.size → (tally (give_of q) es ≡ 1) × (tally (supply_of q) es ≡ 1)
  once q h =
      let e : (ran s es).mark q ≡ 2 = at_done (ran s es) last q (rw size_is h) in
      let z : s.mark q ≡ 0 = f.waits q h in (
        omega (arith, tally-run (give_of q) (λ t. is_two (t.mark q)) (step_give q) s es before, ap is_two e, ap is_two z),
        omega (arith, tally-run (supply_of q) (λ t. not_zero (t.mark q)) (step-supply q) s es before, ap not_zero e, ap not_zero z),
      )

  -- a number of the marks that is 0 at the start and 1 for each place at Done
  all_of : (k : Event → ℕ) (g : ℕ → ℕ) → ((s : State) (e : Event) → Accepted s e → total g (then s e) ≡ k e + total g s) → g 0 ≡ 0 → g 2 ≡ 1
      → tally k es ≡ s.size
  all_of k g step a b =
      omega (arith, tally-run k (total g) step s es before, total_each g s 0 0 f.waits a, total_each g (ran s es) 2 1 (at_done (ran s es) last) b, size_is)

  -- so it takes n accepted distances and n gives
  pub finished : (tally a_supply es ≡ s.size) × (tally a_give es ≡ s.size)
  finished = (all_of a_supply not_zero step-supplies refl refl, all_of a_give is_two step_gives refl refl)

-- ---- the count that a call reports is that of the places no longer waiting
small_mark : (m : ℕ) → m ≤ 2 → one_or_two m ≡ not_zero m
small_mark zero h = refl
small_mark (suc zero) h = refl
small_mark (suc (suc zero)) h = refl
small_mark (suc (suc (suc m))) h = absurd (omega arith)

pub counted_is : (s : State) → Clean s → counted s ≡ not_waiting s
unfolding counted not_waiting
counted_is s c = sum_ext s.size (λ i. one_or_two (s.mark i)) (λ i. not_zero (s.mark i)) (λ i h. small_mark (s.mark i) (c.bounded i h))

pub counted_few : (s : State) → counted s ≤ s.size
unfolding counted
counted_few s = omega (arith, sum_le 1 s.size (λ i. one_or_two (s.mark i)) (λ i. one_most (eqb (s.mark i) 1 || eqb (s.mark i) 2)))
