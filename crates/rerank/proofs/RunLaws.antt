-- What holds of every run of accepted calls: what a Give lets follow, with the lower-bound premise and without it. Assumes nothing.
use mathlib.Core.Path.{◌≡◌, refl, sym, subst, ap, ◌∙◌}
use mathlib.Core.Logic.{◌⊎◌, inl, inr}
use mathlib.Core.Bool.{Bool, true, false}
use mathlib.Core.List.{List, [], ◌∷◌, ◌++◌, append_assoc, append-nil}
use Prim.Native.Nat.{ℕ, ◌<◌, ◌≤◌}
use native.Mathlib.Decide.{ℕ_discrete}
use native.Mathlib.Omega.{arith}
use lib.Ieee.{Float, lt}
use Rattle.words.specs.Limits.{most_mark}
use Rattle.rerank.specs.Rerank.{State, put, answer_of, next_refusal, supply_refusal, given, supplied}
use Rattle.rerank.specs.Rerank.{Event, asked, supply, gave, done, Accepted, then, ran, Run}
use Rattle.rerank.specs.Demand.{Lower, Supplied}
use Rattle.rerank.specs.declared.Answer.TheVariants.{Ask, Give}
use Rattle.rerank.proofs.OrderLaws.{Num, Less, NotLess, false_of, true-false, less_asym, NotLess_trans}
use Rattle.rerank.proofs.LeastLaws.{put_here, put_else, at-or_else}
use Rattle.rerank.proofs.RuleLaws.{Clean, next_clean, supply_clean, AskSays, GiveSays, means}

-- ---- no candidate was asked for yet
pub record Fresh (s : State) : Type 0 where
  pub waits : (q : ℕ) → q < s.size → s.mark q ≡ 0

-- ---- what an accepted call says of its place
abbrev pub Supplying : State → ℕ → Float → Type 0
Supplying s p d = Clean s × Num d × AskSays s p

pub supplying : (s : State) (p : ℕ) (d : Float) → supply_refusal s p d ≡ 0 → Supplying s p d
supplying s p d e = let a = supply_clean s p d e in (a.0, a.1, means s a.0 (Ask p) a.2)

abbrev pub Giving : State → ℕ → Float → Type 0
Giving s p d = Clean s × GiveSays s p d

pub giving : (s : State) (p : ℕ) (d : Float) → (next_refusal s ≡ 0) × (answer_of s ≡ Give p d) → Giving s p d
giving s p d e = let c = next_clean s e.0 in (c, means s c (Give p d) e.1)

-- ---- a run cut in two
pub run_cut : (s : State) (fs gs : List Event) → Run s (fs ++ gs) → Run s fs × Run (ran s fs) gs
unfolding Run ran
run_cut s [] gs r = (tt, r)
run_cut s (e ∷ fs) gs r = let c = run_cut (then s e) fs gs r.1 in ((r.0, c.0), c.1)

pub run_join : (s : State) (fs gs : List Event) → Run s fs → Run (ran s fs) gs → Run s (fs ++ gs)
unfolding Run ran
run_join s [] gs r q = q
run_join s (e ∷ fs) gs r q = (r.0, run_join (then s e) fs gs r.1 q)

pub ran-join : (s : State) (fs gs : List Event) → ran s (fs ++ gs) ≡ ran (ran s fs) gs
unfolding ran
ran-join s [] gs = refl
ran-join s (e ∷ fs) gs = ran-join (then s e) fs gs

pub then-estimate : (s : State) (e : Event) → ((then s e).estimate ≡ s.estimate) × ((then s e).size ≡ s.size)
unfolding then
then-estimate s (asked p) = (refl, refl)
then-estimate s (supply p d) = (refl, refl)
then-estimate s (gave p d) = (refl, refl)
then-estimate s done = (refl, refl)

pub ran-estimate : (s : State) (es : List Event) → ((ran s es).estimate ≡ s.estimate) × ((ran s es).size ≡ s.size)
unfolding ran
ran-estimate s [] = (refl, refl)
ran-estimate s (e ∷ es) =
    let r = ran-estimate (then s e) es in
    let t = then-estimate s e in
    (r.0 ∙ t.0, r.1 ∙ t.1)

-- ---- the marks that a call leaves

-- a mark other than the one that was put was there before
put_back : (m : ℕ → ℕ) (p v k q : ℕ) → (v ≡ k → ⊥) → put m p v q ≡ k → m q ≡ k
put_back m p v k q n =
    at-or_else (λ x. put m p v x ≡ k → m x ≡ k) p q (λ e. absurd (n (sym (put_here m p v) ∙ e))) (λ g e. sym (put_else m p v q g) ∙ e)

module _ (s : State) (p : ℕ) where
  -- one that waits or is asked after a Give did so before
  pub given_waits : (q : ℕ) → (given s p).mark q ≡ 0 → s.mark q ≡ 0
  given_waits q = put_back s.mark p 2 0 q (λ e. omega arith)

  pub given-asked : (q : ℕ) → (given s p).mark q ≡ 1 → s.mark q ≡ 1
  given-asked q = put_back s.mark p 2 1 q (λ e. omega arith)

  pub supplied_waits : (d : Float) (q : ℕ) → (supplied s p d).mark q ≡ 0 → s.mark q ≡ 0
  supplied_waits d q = put_back s.mark p 1 0 q (λ e. omega arith)

-- ---- calls keep a state clean
clean_supplied : (s : State) (p : ℕ) (d : Float) → Supplying s p d → Clean (supplied s p d)
clean_supplied s p d g =
    record {
      numbers = g.0.numbers;
      held = λ q. at-or_else (λ x. x < s.size → (supplied s p d).mark x ≡ 1 → Num ((supplied s p d).distance x)) p q
          (λ h e. rw (put_here s.distance p d) g.1)
          (λ o h e. rw (put_else s.distance p d q o) (g.0.held q h (sym (put_else s.mark p 1 q o) ∙ e)));
      bounded = λ q. at-or_else (λ x. x < s.size → (supplied s p d).mark x ≤ most_mark) p q
          (λ h. omega (arith, put_here s.mark p 1)) (λ o h. omega (arith, put_else s.mark p 1 q o, g.0.bounded q h));
    }

clean_given : (s : State) (p : ℕ) (d : Float) → Giving s p d → Clean (given s p)
clean_given s p d g =
    record {
      numbers = g.0.numbers;
      held = λ q h e. g.0.held q h (given-asked s p q e);
      bounded = λ q. at-or_else (λ x. x < s.size → (given s p).mark x ≤ most_mark) p q
          (λ h. omega (arith, put_here s.mark p 2)) (λ o h. omega (arith, put_else s.mark p 2 q o, g.0.bounded q h));
    }

pub clean_then : (s : State) (e : Event) → Accepted s e → Clean (then s e)
unfolding Accepted then
clean_then s (asked p) a = next_clean s a.0
clean_then s (supply p d) a = clean_supplied s p d (supplying s p d a)
clean_then s (gave p d) a = clean_given s p d (giving s p d a)
clean_then s done a = next_clean s a.0

-- ---- order without the premise. `Past d s`: nothing that is still to come may fall below d, but for a candidate whose own estimate was
-- above its distance
abbrev Blamed : Float → State → ℕ → Type 0
Blamed d s q = Less (s.distance q) (s.estimate q) ⊎ NotLess (s.distance q) d

pub record Past (d : Float) (s : State) : Type 0 where
  pub waiting : (q : ℕ) → q < s.size → s.mark q ≡ 0 → NotLess (s.estimate q) d
  pub held : (q : ℕ) → q < s.size → s.mark q ≡ 1 → Blamed d s q

past_given : (s : State) (p : ℕ) (d : Float) → Giving s p d → Past d (given s p)
past_given s p d g =
    record {
      waiting = λ q h e. rw g.1.value (g.1.ahead q h (given_waits s p q e));
      held = λ q h e. inr (rw g.1.value (g.1.least.low q h (given-asked s p q e)));
    }

past_supply : (x : Float) (s : State) (p : ℕ) (d : Float) → Supplying s p d → Past x s → Past x (supplied s p d)
past_supply x s p d g k =
    record {
      waiting = λ q h e. k.waiting q h (supplied_waits s p d q e);
      held = λ q. at-or_else (λ r. r < s.size → (supplied s p d).mark r ≡ 1 → Blamed x (supplied s p d) r) p q
          (λ h e. rw (put_here s.distance p d) (here (lt d (s.estimate p)) refl))
          (λ o h e. rw (put_else s.distance p d q o) (k.held q h (sym (put_else s.mark p 1 q o) ∙ e)));
    }
  where
    inn : p < s.size
    inn = g.2.least.inside

    here : (b : Bool) → lt d (s.estimate p) ≡ b → Less d (s.estimate p) ⊎ NotLess d x
    here true e = inl e
    here false e = inr (NotLess_trans d (s.estimate p) x (g.0.numbers p inn) e (k.waiting p inn g.2.least.marked))

past_then : (x : Float) (s : State) (e : Event) → Accepted s e → Past x s → Past x (then s e)
unfolding Accepted then
past_then x s (asked p) a k = k
past_then x s (supply p d) a k = past_supply x s p d (supplying s p d a) k
past_then x s (gave p d) a k =
    record { waiting = λ q h e. k.waiting q h (given_waits s p q e); held = λ q h e. k.held q h (given-asked s p q e) }
past_then x s done a k = k

past_run : (x : Float) (s : State) (es : List Event) → Run s es → Past x s → Past x (ran s es)
unfolding Run ran
past_run x s [] r k = k
past_run x s (e ∷ es) r k = past_run x (then s e) es r.1 (past_then x s e r.0 k)

-- if the calls give x and later y, and y's distance is less, then y's own estimate was above y's distance. Whatever the marks at the start
pub blame : (s : State) (fs gs hs : List Event) (x y : ℕ) (dx dy : Float) → Run s (fs ++ (gave x dx ∷ (gs ++ (gave y dy ∷ hs)))) → Less dy dx
    → Less dy (s.estimate y)
unfolding Run ran Accepted then
blame s fs gs hs x y dx dy r l =
    let a = run_cut s fs (gave x dx ∷ (gs ++ (gave y dy ∷ hs))) r in
    let t = ran s fs in
    let b = run_cut (given t x) gs (gave y dy ∷ hs) a.1.1 in
    let u = ran (given t x) gs in
    let k : Past dx u = past_run dx (given t x) gs b.0 (past_given t x dx (giving t x dx a.1.0)) in
    let g = giving u y dy b.1.0 in
    let e : u.estimate ≡ s.estimate = (ran-estimate (given t x) gs).0 ∙ (ran-estimate s fs).0 in
    elim (k.held y g.1.least.inside g.1.least.marked) [
      | inl m ↦ subst (λ (f : ℕ → Float). Less dy (f y)) e (subst (λ (z : Float). Less z (u.estimate y)) (sym g.1.value) m)
      | inr m ↦ absurd (true-false (lt dy dx) l (subst (λ (z : Float). NotLess z dx) (sym g.1.value) m))
    ]

-- ---- exact: an asked place holds the distance that was supplied for it
pub record Sourced (s : State) (es : List Event) : Type 0 where
  pub source : (q : ℕ) → q < s.size → s.mark q ≡ 1 → Supplied q (s.distance q) es

supplied-later : (q : ℕ) (d : Float) (es fs : List Event) → Supplied q d es → Supplied q d (es ++ fs)
supplied-later q d es fs x =
    record {
      earlier = x.earlier;
      later = x.later ++ fs;
      here = ap (λ (l : List Event). l ++ fs) x.here ∙ append_assoc x.earlier (supply q d ∷ x.later) fs;
    }

sourced_then : (s : State) (es : List Event) (e : Event) → Accepted s e → Sourced s es → Sourced (then s e) (es ++ (e ∷ []))
unfolding Accepted then
sourced_then s es (asked p) a k = record { source = λ q h m. supplied-later q (s.distance q) es (asked p ∷ []) (k.source q h m) }
sourced_then s es (supply p d) a k =
    record {
      source = λ q. at-or_else (λ x. x < s.size → (supplied s p d).mark x ≡ 1 → Supplied x ((supplied s p d).distance x) (es ++ (supply p d ∷ []))) p q
          (λ h m. rw (put_here s.distance p d) record { earlier = es; later = []; here = refl })
          (λ o h m. rw (put_else s.distance p d q o) (supplied-later q (s.distance q) es (supply p d ∷ [])
          (k.source q h (sym (put_else s.mark p 1 q o) ∙ m))));
    }
sourced_then s es (gave p d) a k =
    record { source = λ q h m. supplied-later q (s.distance q) es (gave p d ∷ []) (k.source q h (given-asked s p q m)) }
sourced_then s es done a k = record { source = λ q h m. supplied-later q (s.distance q) es (done ∷ []) (k.source q h m) }

sourced_run : (s : State) (ps es : List Event) → Run s es → Sourced s ps → Sourced (ran s es) (ps ++ es)
unfolding Run ran
sourced_run s ps [] r k = rw (append-nil ps) k
sourced_run s ps (e ∷ es) r k =
    subst (Sourced (ran (then s e) es)) (append_assoc ps (e ∷ []) es) (sourced_run (then s e) (ps ++ (e ∷ [])) es r.1 (sourced_then s ps e r.0 k))

pub exact : (s : State) (fs gs : List Event) (p : ℕ) (d : Float) → Run s (fs ++ (gave p d ∷ gs)) → Fresh s → Supplied p d fs
unfolding Run Accepted
exact s fs gs p d r f =
    let a = run_cut s fs (gave p d ∷ gs) r in
    let g = giving (ran s fs) p d a.1.0 in
    let k = sourced_run s [] fs a.0 (record { source = λ q h m. let z : ◌≡◌ {A = ℕ} 0 1 = sym (f.waits q h) ∙ m in absurd (omega arith) }) in
    rw g.1.value (k.source p g.1.least.inside g.1.least.marked)

-- ---- with the premise. `Kept s`: the places asked for or given have no estimate above one that waits, nor above the distance of one that is asked
pub record Kept (s : State) : Type 0 where
  pub ordered : (q w : ℕ) → q < s.size → w < s.size → (s.mark q ≡ 0 → ⊥) → s.mark w ≡ 0 → NotLess (s.estimate w) (s.estimate q)
  pub reached : (q r : ℕ) → q < s.size → r < s.size → (s.mark q ≡ 0 → ⊥) → s.mark r ≡ 1 → NotLess (s.distance r) (s.estimate q)

kept_fresh : (s : State) → Fresh s → Kept s
kept_fresh s f = record { ordered = λ q w h i m n. absurd (m (f.waits q h)); reached = λ q r h i m n. absurd (m (f.waits q h)) }

kept-supply : (s : State) (p : ℕ) (d : Float) → Supplying s p d → NotLess d (s.estimate p) → Kept s → Kept (supplied s p d)
kept-supply s p d g low k = record { ordered = ord; reached = rea }
  where
    inn : p < s.size
    inn = g.2.least.inside

    was : (q : ℕ) → (q ≡ p → ⊥) → ((supplied s p d).mark q ≡ 0 → ⊥) → s.mark q ≡ 0 → ⊥
    was q o m e = m (put_else s.mark p 1 q o ∙ e)

    ord : (q w : ℕ) → q < s.size → w < s.size → ((supplied s p d).mark q ≡ 0 → ⊥) → (supplied s p d).mark w ≡ 0 → NotLess (s.estimate w) (s.estimate q)
    ord q w h v m n =
        at-or_else (λ x. NotLess (s.estimate w) (s.estimate x)) p q (g.2.least.low w v (supplied_waits s p d w n))
        (λ o. k.ordered q w h v (was q o m) (supplied_waits s p d w n))

    here : (q : ℕ) → q < s.size → ((supplied s p d).mark q ≡ 0 → ⊥) → NotLess d (s.estimate q)
    here q h m =
        at-or_else (λ x. NotLess d (s.estimate x)) p q low
        (λ o. NotLess_trans d (s.estimate p) (s.estimate q) (g.0.numbers p inn) low (k.ordered q p h inn (was q o m) g.2.least.marked))

    away : (q r : ℕ) → q < s.size → r < s.size → ((supplied s p d).mark q ≡ 0 → ⊥) → s.mark r ≡ 1 → NotLess (s.distance r) (s.estimate q)
    away q r h v m n =
        at-or_else (λ x. NotLess (s.distance r) (s.estimate x)) p q (less_asym (s.estimate p) (s.distance r) (g.2.ahead r v n))
        (λ o. k.reached q r h v (was q o m) n)

    rea : (q r : ℕ) → q < s.size → r < s.size → ((supplied s p d).mark q ≡ 0 → ⊥) → (supplied s p d).mark r ≡ 1
        → NotLess ((supplied s p d).distance r) (s.estimate q)
    rea q r h v m =
        at-or_else (λ x. (supplied s p d).mark x ≡ 1 → NotLess ((supplied s p d).distance x) (s.estimate q)) p r
        (λ n. rw (put_here s.distance p d) (here q h m))
        (λ o n. rw (put_else s.distance p d r o) (away q r h v m (sym (put_else s.mark p 1 r o) ∙ n)))

kept_give : (s : State) (p : ℕ) (d : Float) → Giving s p d → Kept s → Kept (given s p)
kept_give s p d g k =
    record {
      ordered = λ q w h v m n. k.ordered q w h v (was q m) (given_waits s p w n);
      reached = λ q r h v m n. k.reached q r h v (was q m) (given-asked s p r n);
    }
  where
    was : (q : ℕ) → ((given s p).mark q ≡ 0 → ⊥) → s.mark q ≡ 0 → ⊥
    was q =
        at-or_else (λ x. ((given s p).mark x ≡ 0 → ⊥) → s.mark x ≡ 0 → ⊥) p q
        (λ m e. let z : ◌≡◌ {A = ℕ} 1 0 = sym g.1.least.marked ∙ e in omega arith) (λ o m e. m (put_else s.mark p 2 q o ∙ e))

kept_run : (s : State) (es : List Event) → Run s es → Lower s.estimate es → Kept s → Kept (ran s es)
unfolding Run ran Lower Accepted then
kept_run s [] r l k = k
kept_run s (asked p ∷ es) r l k = kept_run s es r.1 l k
kept_run s (supply p d ∷ es) r l k = kept_run (supplied s p d) es r.1 l.1 (kept-supply s p d (supplying s p d r.0) l.0 k)
kept_run s (gave p d ∷ es) r l k = kept_run (given s p) es r.1 l (kept_give s p d (giving s p d r.0) k)
kept_run s (done ∷ es) r l k = kept_run s es r.1 l k

pub lower_cut : (f : ℕ → Float) (fs gs : List Event) → Lower f (fs ++ gs) → Lower f fs × Lower f gs
unfolding Lower
lower_cut f [] gs l = (tt, l)
lower_cut f (asked p ∷ fs) gs l = lower_cut f fs gs l
lower_cut f (supply p d ∷ fs) gs l = let c = lower_cut f fs gs l.1 in ((l.0, c.0), c.1)
lower_cut f (gave p d ∷ fs) gs l = lower_cut f fs gs l
lower_cut f (done ∷ fs) gs l = lower_cut f fs gs l

-- ---- when one is handed out at d, every candidate with an estimate below d has been asked for
pub all_below : (s : State) (fs gs : List Event) (p q : ℕ) (d : Float) → Run s (fs ++ (gave p d ∷ gs)) → q < s.size → Less (s.estimate q) d
    → (ran s fs).mark q ≡ 0 → ⊥
unfolding Run ran Accepted
all_below s fs gs p q d r h l m =
    let a = run_cut s fs (gave p d ∷ gs) r in
    let t = ran s fs in
    let g = giving t p d a.1.0 in
    let e = ran-estimate s fs in
    let v : q < t.size = rw e.1 h in
    true-false (lt (s.estimate q) d) l
    (subst (λ (f : ℕ → Float). NotLess (f q) d) e.0 (subst (λ (z : Float). NotLess (t.estimate q) z) (sym g.1.value) (g.1.ahead q v m)))

-- what is handed out under the premise is not below the estimate of any place asked for
reached_all : (s : State) (fs gs : List Event) (p q : ℕ) (d : Float) → Run s (fs ++ (gave p d ∷ gs)) → Fresh s → Lower s.estimate (fs ++ (gave p d ∷ gs))
    → q < s.size → ((ran s fs).mark q ≡ 0 → ⊥) → NotLess d (s.estimate q)
unfolding Run ran Accepted
reached_all s fs gs p q d r f l h n =
    let a = run_cut s fs (gave p d ∷ gs) r in
    let t = ran s fs in
    let g = giving t p d a.1.0 in
    let k : Kept t = kept_run s fs a.0 (lower_cut s.estimate fs (gave p d ∷ gs) l).0 (kept_fresh s f) in
    let e = ran-estimate s fs in
    let v : q < t.size = rw e.1 h in
    subst (λ (f : ℕ → Float). NotLess d (f q)) e.0
    (subst (λ (z : Float). NotLess z (t.estimate q)) (sym g.1.value) (k.reached q p v g.1.least.inside n g.1.least.marked))

-- so none with an estimate above d has been asked for
pub none_above : (s : State) (fs gs : List Event) (p q : ℕ) (d : Float) → Run s (fs ++ (gave p d ∷ gs)) → Fresh s
    → Lower s.estimate (fs ++ (gave p d ∷ gs))
    → q < s.size → Less d (s.estimate q) → (ran s fs).mark q ≡ 0
none_above s fs gs p q d r f l h above =
    elim (ℕ_discrete ((ran s fs).mark q) 0) [
      | yes e ↦ e
      | no n ↦ absurd (true-false (lt d (s.estimate q)) above (reached_all s fs gs p q d r f l h n))
    ]

-- and the distances handed out never fall
pub never_falls : (s : State) (fs gs hs : List Event) (x y : ℕ) (dx dy : Float) → Run s (fs ++ (gave x dx ∷ (gs ++ (gave y dy ∷ hs)))) → Fresh s
    → Lower s.estimate (fs ++ (gave x dx ∷ (gs ++ (gave y dy ∷ hs)))) → NotLess dy dx
unfolding Run Accepted
never_falls s fs gs hs x y dx dy r f l =
    let l' = subst (Lower s.estimate) (sym e) l in
    let h : y < s.size = rw (← (ran-estimate s (fs ++ (gave x dx ∷ gs))).1) g.1.least.inside in
    let low = reached_all s (fs ++ (gave x dx ∷ gs)) hs y y dy r' f l' h (λ m. let z : ◌≡◌ {A = ℕ} 1 0 = sym g.1.least.marked ∙ m in omega arith) in
    false_of (lt dy dx) (λ b. true-false (lt dy (s.estimate y)) (blame s fs gs hs x y dx dy r b) low)
  where
    e : (fs ++ (gave x dx ∷ gs)) ++ (gave y dy ∷ hs) ≡ fs ++ (gave x dx ∷ (gs ++ (gave y dy ∷ hs)))
    e = append_assoc fs (gave x dx ∷ gs) (gave y dy ∷ hs)

    r' : Run s ((fs ++ (gave x dx ∷ gs)) ++ (gave y dy ∷ hs))
    r' = subst (Run s) (sym e) r

    g : Giving (ran s (fs ++ (gave x dx ∷ gs))) y dy
    g = giving (ran s (fs ++ (gave x dx ∷ gs))) y dy (run_cut s (fs ++ (gave x dx ∷ gs)) (gave y dy ∷ hs) r').1.0
