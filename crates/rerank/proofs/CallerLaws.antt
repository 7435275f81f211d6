-- A caller that supplies what is asked for finishes fresh lists, over bytes. Assumes nothing.
use mathlib.Core.Path.{◌≡◌, refl, sym, subst, ap, ap₂, ◌∙◌}
use mathlib.Core.Bool.{false}
use mathlib.Core.List.{List, [], ◌∷◌, ◌++◌, append_assoc}
use Prim.Native.Nat.{ℕ, zero, suc, ◌+◌, ◌-◌, ◌*◌, ◌<◌}
use native.Mathlib.Omega.{arith}
use lib.ListN.{length, set, replicate, length-set, length-replicate, get_or-replicate}
use lib.Seq.{sets, length-sets}
use lib.Ieee.{of_bits, binary32}
use Rattle.words.specs.Bytes.{f32_at, float_bytes}
use Rattle.words.specs.Refusals.{after, bad_length, bad_lists}
use Rattle.rerank.specs.Rerank.{State, answer_of, supplied, given, counted, Event, asked, supply, gave, done, Accepted, then, Run, tally, an_ask, a_supply}
use Rattle.rerank.specs.Calls.{state_of, answer_marks, next_number, next_answer, supply_number, supply_answer}
use Rattle.rerank.specs.Parts.{event_of}
use Rattle.rerank.specs.Demand.{Lists, Call, next, supplies, fresh, held, call, told, seen, left, numbers, heard, reply, turn, turns, Finishes}
use Rattle.rerank.specs.declared.Answer.{Answer}
use Rattle.rerank.specs.declared.Answer.TheVariants.{Ask, Give, Done}
use Rattle.rerank.proofs.OrderLaws.{Num}
use Rattle.rerank.proofs.RuleLaws.{Clean, clean_next, clean_supply, means}
use Rattle.rerank.proofs.RunLaws.{Fresh, clean_then}
use Rattle.rerank.proofs.TallyLaws.{total, total-supplied, total-given, total_each, at_done, finished}
use Rattle.rerank.proofs.ByteRunLaws.{told_is, place_fits, distance_fits, supply_state, calls_run}
use Rattle.rerank.proofs.StateLaws.{state_given}

-- ---- fresh lists
pub fresh_waits : (n : ℕ) (e d : List ℕ) → Fresh (held (fresh n e d))
fresh_waits n e d = record { waits = λ q h. get_or-replicate n q 0 0 (rw length-replicate at h) }

fresh_clean : (n : ℕ) (e d : List ℕ) → ((q : ℕ) → q < n → Num (f32_at e q)) → Clean (held (fresh n e d))
fresh_clean n e d num =
    let f = fresh_waits n e d in
    record {
      numbers = λ q h. num q (rw length-replicate at h);
      held = λ q h k. let z : ◌≡◌ {A = ℕ} 0 1 = sym (f.waits q h) ∙ k in absurd (omega arith);
      bounded = λ q h. omega (arith, f.waits q h);
    }

-- ---- calls that are all accepted and heard to end with Done, with a distance for each Ask
record Closes (b : Lists) (cs : List Call) : Type 0 where
  accepted : numbers b cs ≡ replicate (length cs) 0
  events : List Event
  to_done : heard b cs ≡ events ++ (done ∷ [])
  even : tally an_ask events ≡ tally a_supply events

tally-join : (f : Event → ℕ) (es fs : List Event) → tally f (es ++ fs) ≡ tally f es + tally f fs
unfolding tally
tally-join f [] fs = omega arith
tally-join f (e ∷ es) fs = omega (arith, tally-join f es fs)

numbers-join : (b : Lists) (cs ds : List Call) → numbers b cs ≡ replicate (length cs) 0 → numbers (left b cs) ds ≡ replicate (length ds) 0
    → numbers b (cs ++ ds) ≡ replicate (length (cs ++ ds)) 0
unfolding numbers left
numbers-join b [] ds p q = q
numbers-join b (c ∷ cs) ds p q =
    let h : (call b c).number ≡ 0 = cc in
    let t : numbers (call b c).lists cs ≡ replicate (length cs) 0 = cc in
    ap₂ {C = List ℕ} (λ x l. x ∷ l) h (numbers-join (call b c).lists cs ds t q)

heard-join : (b : Lists) (cs ds : List Call) → heard b (cs ++ ds) ≡ heard b cs ++ heard (left b cs) ds
unfolding heard left
heard-join b [] ds = refl
heard-join b (c ∷ cs) ds =
    ap {B = List Event} (λ l. seen c (call b c) ++ l) (heard-join (call b c).lists cs ds)
    ∙ sym (append_assoc (seen c (call b c)) (heard (call b c).lists cs) (heard (left (call b c).lists cs) ds))

module _ (b t : Lists) (cs ds : List Call) (es : List Event) (k : Closes t ds) where
  joins : numbers b cs ≡ replicate (length cs) 0 → heard b cs ≡ es → left b cs ≡ t → tally an_ask es ≡ tally a_supply es → Closes b (cs ++ ds)
  joins n h l even =
      record {
        accepted = numbers-join b cs ds n (rw l k.accepted);
        events = es ++ k.events;
        to_done = heard-join b cs ds ∙ ap₂ (λ (u v : List Event). u ++ v) h (ap (λ (x : Lists). heard x ds) l ∙ k.to_done)
            ∙ sym (append_assoc es k.events (done ∷ []));
        even = omega (arith, tally-join an_ask es k.events, tally-join a_supply es k.events, k.even);
      }

-- ---- a call on good lists that hold a clean state
room : List ℕ
room = replicate 16 0

abbrev Good : Lists → Type 0
Good b = bad_lists (length b.estimates) (length b.distances) (length b.marks) ≡ false

abbrev marked : Lists → List ℕ → Lists
marked b m = record { estimates = b.estimates; distances = b.distances; marks = m }

good_marked : (b : Lists) (p v : ℕ) → Good b → Good (marked b (set b.marks p v))
good_marked b p v g = rw (length-set b.marks p v) g

module _ (b : Lists) (g : Good b) (c : Clean (held b)) where
  next-zero : next_number b.estimates b.distances b.marks room ≡ 0
  unfolding next_number bad_length room
  next-zero = rw (g, clean_next (held b) c)

  next_is : (a : Answer) → answer_of (held b) ≡ a → ((call b (next room)).number ≡ 0)
      × ((call b (next room)).lists ≡ marked b (answer_marks a b.marks)) × (told (call b (next room)).out ≡ event_of a)
  unfolding call next_answer after
  next_is a h =
      rw (next-zero, h) (
        refl,
        refl,
        told_is a (counted (state_of b.estimates b.distances (answer_marks a b.marks)))
            (place_fits b.estimates b.distances b.marks room next-zero a h)
            (λ p x q. distance_fits b.estimates b.distances b.marks room next-zero p x (h ∙ q)),
      )

slot : List ℕ
slot = replicate 4 0

stored : Lists → ℕ → ℕ → Lists
stored b p bits =
    record {
      estimates = b.estimates;
      distances = sets b.distances (4 * p) (float_bytes (of_bits binary32 bits));
      marks = set b.marks p 1;
    }

module _ (b : Lists) (g : Good b) (c : Clean (held b)) (p bits : ℕ) (v : Num (of_bits binary32 bits)) (h : answer_of (held b) ≡ Ask p) where
  supply-zero : supply_number b.estimates b.distances b.marks p (of_bits binary32 bits) slot ≡ 0
  unfolding supply_number bad_length slot
  supply-zero = rw (g, clean_supply (held b) p (of_bits binary32 bits) c v h)

  supply_is : ((call b (supplies p bits slot)).number ≡ 0) × ((call b (supplies p bits slot)).lists ≡ stored b p bits)
  unfolding call supply_answer after stored
  supply_is = rw supply-zero (refl, refl)

  good_stored : Good (stored b p bits)
  unfolding stored
  good_stored = rw (length-set b.marks p 1, length-sets b.distances (4 * p) (float_bytes (of_bits binary32 bits))) g

  held-stored : held (stored b p bits) ≡ supplied (held b) p (of_bits binary32 bits)
  unfolding stored
  held-stored = supply_state b.estimates b.distances b.marks p bits slot supply-zero

-- ---- the turns. A turn is a supply or a Give, or it is the last; `still` counts those to come before it
abbrev still : ℕ → ℕ
still m = 2 - m

-- one call and no reply
module _ (table : ℕ → ℕ) (b : Lists) (g : Good b) (c : Clean (held b)) (a : Answer) (h : answer_of (held b) ≡ a) (quiet : reply table (event_of a) ≡ []) where
  quiet_turn : turn table b ≡ next room ∷ []
  unfolding turn room
  quiet_turn = rw ((next_is b g c a h).2, quiet)

  quiet_numbers : numbers b (next room ∷ []) ≡ 0 ∷ []
  unfolding numbers
  quiet_numbers = rw (next_is b g c a h).0

  quiet_heard : heard b (next room ∷ []) ≡ event_of a ∷ []
  unfolding heard seen
  quiet_heard = rw ((next_is b g c a h).0, (next_is b g c a h).2)

  quiet_left : left b (next room ∷ []) ≡ marked b (answer_marks a b.marks)
  unfolding left
  quiet_left = (next_is b g c a h).1

-- an Ask, and the distance for it
module _ (table : ℕ → ℕ) (b : Lists) (g : Good b) (c : Clean (held b)) (p : ℕ) (v : Num (of_bits binary32 (table p))) (h : answer_of (held b) ≡ Ask p) where
  both : List Call
  both = next room ∷ supplies p (table p) slot ∷ []

  same : (call b (next room)).lists ≡ b
  same = (next_is b g c (Ask p) h).1

  ask_turn : turn table b ≡ both
  unfolding turn room slot both
  ask_turn = rw (next_is b g c (Ask p) h).2

  ask_numbers : numbers b both ≡ 0 ∷ 0 ∷ []
  unfolding numbers both
  ask_numbers = rw (same, (next_is b g c (Ask p) h).0, (supply_is b g c p (table p) v h).0)

  ask_heard : heard b both ≡ asked p ∷ supply p (of_bits binary32 (table p)) ∷ []
  unfolding heard seen both
  ask_heard = rw (same, (next_is b g c (Ask p) h).0, (next_is b g c (Ask p) h).2, (supply_is b g c p (table p) v h).0)

  ask_left : left b both ≡ stored b p (table p)
  unfolding left both
  ask_left = ap (λ (x : Lists). (call x (supplies p (table p) slot)).lists) same ∙ (supply_is b g c p (table p) v h).1

closes : (table : ℕ → ℕ) (k : ℕ) (b : Lists) → Good b → Clean (held b) → ((q : ℕ) → q < length b.marks → Num (of_bits binary32 (table q)))
    → total still (held b) + 1 ≡ k → Closes b (turns k table b)
unfolding turns
closes table zero b g c num e = absurd (omega arith)
closes table (suc k) b g c num e = go (λ t. closes table k t) (answer_of (held b)) refl
  where
    go : ((t : Lists) → Good t → Clean (held t) → ((q : ℕ) → q < length t.marks → Num (of_bits binary32 (table q)))
        → total still (held t) + 1 ≡ k → Closes t (turns k table t)) → (a : Answer) → answer_of (held b) ≡ a
        → Closes b (turn table b ++ turns k table (left b (turn table b)))
    go again (Ask p) h =
        let m = means (held b) c (Ask p) h in
        let x = of_bits binary32 (table p) in
        let v : Num x = num p m.least.inside in
        let t = stored b p (table p) in
        let w : held t ≡ supplied (held b) p x = held-stored b g c p (table p) v h in
        let ct = subst Clean (sym w) (unfold then in clean_then (held b) (supply p x) (unfold Accepted in clean_supply (held b) p x c v h)) in
        let nt : (q : ℕ) → q < length t.marks → Num (of_bits binary32 (table q)) = unfold stored in rw (length-set b.marks p 1) num in
        let r = again t (good_stored b g c p (table p) v h) ct nt
        (subst (λ (s : State). total still s + 1 ≡ k) (sym w) (omega (arith, total-supplied still (held b) p x (c, v, m)))) in
        rw (ask_turn table b g c p v h, ask_left table b g c p v h)
        (joins b t (both table b g c p v h) (turns k table t) (asked p ∷ supply p x ∷ []) r
        (unfold both in ask_numbers table b g c p v h) (ask_heard table b g c p v h) (ask_left table b g c p v h) (unfold tally in refl))
    go again (Give p x) h =
        let m = means (held b) c (Give p x) h in
        let t = marked b (set b.marks p 2) in
        let w : held t ≡ given (held b) p = state_given b.estimates b.distances b.marks p m.least.inside in
        let ct = subst Clean (sym w) (unfold then in clean_then (held b) (gave p x) (unfold Accepted in (clean_next (held b) c, h))) in
        let nt : (q : ℕ) → q < length t.marks → Num (of_bits binary32 (table q)) = rw (length-set b.marks p 2) num in
        let r = again t (good_marked b p 2 g) ct nt
        (subst (λ (s : State). total still s + 1 ≡ k) (sym w) (omega (arith, total-given still (held b) p x (c, m)))) in
        rw (quiet_turn table b g c (Give p x) h refl, quiet_left table b g c (Give p x) h refl)
        (joins b t (next room ∷ []) (turns k table t) (gave p x ∷ []) r
        (quiet_numbers table b g c (Give p x) h refl) (quiet_heard table b g c (Give p x) h refl) (quiet_left table b g c (Give p x) h refl)
        (unfold tally in refl))
    go again Done h =
        let z : k ≡ 0 = omega (arith, e, total_each still (held b) 2 0 (at_done (held b) (unfold Accepted in (clean_next (held b) c, h))) refl) in
        rw (quiet_turn table b g c Done h refl, z)
        record {
          accepted = quiet_numbers table b g c Done h refl;
          events = [];
          to_done = quiet_heard table b g c Done h refl;
          even = unfold tally in refl;
        }

pub caller_ends : (n : ℕ) (e d : List ℕ) (table : ℕ → ℕ) → Good (fresh n e d) → ((q : ℕ) → q < n → Num (f32_at e q))
    → ((q : ℕ) → q < n → Num (of_bits binary32 (table q))) → Finishes n (fresh n e d) (turns (2 * n + 1) table (fresh n e d))
caller_ends n e d table g num numbers =
    let b = fresh n e d in
    let f = fresh_waits n e d in
    let size : length b.marks ≡ n = length-replicate n 0 in
    let enough : total still (held b) + 1 ≡ 2 * n + 1 = omega (arith, total_each still (held b) 0 2 f.waits refl) in
    let k = closes table (2 * n + 1) b g (fresh_clean n e d num) (λ q h. numbers q (rw size at h)) enough in
    let r = finished (held b) k.events (subst (Run (held b)) k.to_done (calls_run b (turns (2 * n + 1) table b)).0) f in
    record {
      accepted = k.accepted;
      events = k.events;
      to_done = k.to_done;
      asks = k.even ∙ r.0 ∙ size;
      distances = r.0 ∙ size;
      gives = r.1 ∙ size;
    }
