-- The calls over bytes make runs of the rule. Assumes nothing.
use mathlib.Core.Path.{◌≡◌, refl, sym, subst, ap, ◌∙◌}
use mathlib.Core.Bool.{false, ◌||◌, cond}
use mathlib.Core.List.{List, [], ◌∷◌}
use Prim.Native.Nat.{ℕ, zero, suc, ◌*◌, ◌^◌, ◌<◌}
use native.Mathlib.Omega.{arith}
use borrow.Author.Tests.{ne_eqb}
use lib.Dec.{T, eqb}
use lib.ListN.{length, get_or, take, set, length-set}
use lib.Seq.{sets}
use lib.Ieee.{Float, fits, of_bits, binary32}
use lib.Ieee.Bits.{of_bits-to_bits, to_bits-lt, of_bits-fits}
use Rattle.words.specs.Bytes.{num_at, bytes_of, words_of, f32_at, float_bytes}
use Rattle.words.specs.Lists.{joined}
use Rattle.words.specs.Refusals.{after, bad_length, bad_lists}
use Rattle.words.proofs.ByteLaws.{num_bytes}
use Rattle.words.proofs.RefusalLaws.{no_row, neither, after-accepted}
use Rattle.words.proofs.WordsLaws.{num_words}
use Rattle.rerank.specs.Rerank.{State, answer_of, next_refusal, supply_refusal, supplied, counted, Event, supply, Accepted}
use Rattle.rerank.specs.Rerank.{then, ran, Run}
use Rattle.rerank.specs.Calls.{state_of, answer_number, answer_place, answer_bits, answer_marks, answer_bytes, next_number, next_answer, supply_number}
use Rattle.rerank.specs.Calls.{supply_answer}
use Rattle.rerank.specs.Parts.{event_of}
use Rattle.rerank.specs.Demand.{Lists, Call, next, supplies, held, call, told, seen, reported, left, heard, not_waiting}
use Rattle.rerank.specs.declared.Answer.{Answer}
use Rattle.rerank.specs.declared.Answer.TheVariants.{Ask, Give, Done}
use Rattle.rerank.proofs.RuleLaws.{Clean, next_clean, means}
use Rattle.rerank.proofs.RunLaws.{giving, supplying, run_join, ran-join, clean_then, then-estimate}
use Rattle.rerank.proofs.TallyLaws.{counted_few, counted_is}
use Rattle.scan.specs.Lists.{Sized, places}
use Rattle.rerank.proofs.FoundLaws.{sized_of}
use Rattle.rerank.proofs.StateLaws.{state_given, state_supplied}

-- ---- reading next's bytes
abbrev words_of_lem : Answer → ℕ → ℕ → ℕ
words_of_lem a n i = get_or (answer_number a ∷ answer_place a ∷ answer_bits a ∷ n ∷ []) i 0

word_back : (a : Answer) (n j : ℕ) → j < 4 → words_of_lem a n j < 2 ^ 32 → num_at 4 (answer_bytes a n) (4 * j) ≡ words_of_lem a n j
word_back a n j h l = num_words (answer_bytes a n) 4 j (words_of_lem a n) (all ∙ same) h l
  where
    same : answer_bytes a n ≡ words_of 4 (words_of_lem a n)
    same = unfold answer_bytes in unfold words_of in unfold joined in refl

    all : take 16 (answer_bytes a n) ≡ answer_bytes a n
    all = unfold answer_bytes in unfold bytes_of in refl

told_number : (a : Answer) (n : ℕ) → num_at 4 (answer_bytes a n) 0 ≡ answer_number a
told_number a n = word_back a n 0 (omega arith) (few a)
  where
    few : (a : Answer) → words_of_lem a n 0 < 2 ^ 32
    few (Ask p) = omega arith
    few (Give p x) = omega arith
    few Done = omega arith

told_distance : (p : ℕ) (x : Float) (n : ℕ) → T (fits binary32 x) → f32_at (answer_bytes (Give p x) n) 2 ≡ x
unfolding f32_at
told_distance p x n t = ap (of_bits binary32) (word_back (Give p x) n 2 (omega arith) (to_bits-lt binary32 x t)) ∙ of_bits-to_bits binary32 x t

-- an answer whose place fits four bytes, and whose distance is a float's, is told as its event
pub told_is : (a : Answer) (n : ℕ) → answer_place a < 2 ^ 32 → ((p : ℕ) (x : Float) → a ≡ Give p x → T (fits binary32 x)) → told (answer_bytes a n) ≡ event_of a
unfolding told
told_is (Ask p) n h f = rw (told_number (Ask p) n, word_back (Ask p) n 1 (omega arith) h)
told_is (Give p x) n h f =
    rw (told_number (Give p x) n, word_back (Give p x) n 1 (omega arith) h, told_distance p x n (f p x refl))
told_is Done n h f = rw (told_number Done n)

-- ---- one call
-- what an accepted call was lent and found
module _ (e d m out : List ℕ) (z : next_number e d m out ≡ 0) where
  rows : ((bad_lists (length e) (length d) (length m) ≡ false) × (bad_length out 16 ≡ false)) × (next_refusal (state_of e d m) ≡ 0)
  unfolding next_number
  rows =
      let a = no_row (bad_lists (length e) (length d) (length m) || bad_length out 16) 2 (next_refusal (state_of e d m)) z in
      (neither (bad_lists (length e) (length d) (length m)) (bad_length out 16) a.0, a.1)

  next-sized : Sized (places e d m)
  next-sized = sized_of e d m rows.0.0

  next_ok : next_refusal (state_of e d m) ≡ 0
  next_ok = rows.1

  pub place_fits : (a : Answer) → answer_of (state_of e d m) ≡ a → answer_place a < 2 ^ 32
  place_fits (Ask p) h = omega (arith, (means (state_of e d m) (next_clean (state_of e d m) next_ok) (Ask p) h).least.inside, next-sized.most)
  place_fits (Give p x) h = omega (arith, (giving (state_of e d m) p x (next_ok, h)).1.least.inside, next-sized.most)
  place_fits Done h = omega arith

  pub distance_fits : (p : ℕ) (x : Float) → answer_of (state_of e d m) ≡ Give p x → T (fits binary32 x)
  unfolding f32_at
  distance_fits p x h =
      let g = giving (state_of e d m) p x (next_ok, h) in
      subst (λ (y : Float). T (fits binary32 y)) (sym g.1.value) (of_bits-fits binary32 (num_at 4 d (4 * p)))

  -- the event is accepted, and the lists hold the state after it
  accepted_is : (a : Answer) → answer_of (state_of e d m) ≡ a → Accepted (state_of e d m) (event_of a)
  unfolding Accepted
  accepted_is (Ask p) h = (next_ok, h)
  accepted_is (Give p x) h = (next_ok, h)
  accepted_is Done h = (next_ok, h)

  state_is : (a : Answer) → answer_of (state_of e d m) ≡ a → state_of e d (answer_marks a m) ≡ then (state_of e d m) (event_of a)
  unfolding then
  state_is (Ask p) h = refl
  state_is (Give p x) h = state_given e d m p (giving (state_of e d m) p x (next_ok, h)).1.least.inside
  state_is Done h = refl

module _ (e d m : List ℕ) (p bits : ℕ) (out : List ℕ) (z : supply_number e d m p (of_bits binary32 bits) out ≡ 0) where
  supply-rows : (bad_lists (length e) (length d) (length m) ≡ false) × (supply_refusal (state_of e d m) p (of_bits binary32 bits) ≡ 0)
  unfolding supply_number
  supply-rows =
      let a = no_row (bad_lists (length e) (length d) (length m) || bad_length out 4) 2 (supply_refusal (state_of e d m) p (of_bits binary32 bits)) z in
      ((neither (bad_lists (length e) (length d) (length m)) (bad_length out 4) a.0).0, a.1)

  supply-sized : Sized (places e d m)
  supply-sized = sized_of e d m supply-rows.0

  supply-inside : p < length m
  supply-inside = (supplying (state_of e d m) p (of_bits binary32 bits) supply-rows.1).2.least.inside

  pub supply_state : state_of e (sets d (4 * p) (float_bytes (of_bits binary32 bits))) (set m p 1) ≡ supplied (state_of e d m) p (of_bits binary32 bits)
  supply_state =
      state_supplied e d m p (of_bits binary32 bits) supply-inside (omega (arith, supply-inside, supply-sized.distances)) (of_bits-fits binary32 bits)

-- what one call adds to a run
Adds : Lists → State → List Event → Type 0
Adds b s es = Run s es × (held b ≡ ran s es)

adds_none : (b : Lists) → Adds b (held b) []
unfolding Adds Run ran
adds_none b = (tt, refl)

adds_one : (b : Lists) (s : State) (e f : Event) → f ≡ e → Accepted s e → held b ≡ then s e → Adds b s (f ∷ [])
unfolding Adds Run ran
adds_one b s e f p a q = rw p ((a, tt), q)

module _ (b : Lists) where
  abbrev e : List ℕ
  e = b.estimates

  abbrev d : List ℕ
  d = b.distances

  abbrev m : List ℕ
  m = b.marks

  next_adds : (out : List ℕ) → Adds (call b (next out)).lists (held b) (seen (next out) (call b (next out)))
  unfolding call seen next_answer after
  next_adds out = go (next_number e d m out) refl
    where
      a : Answer
      a = answer_of (state_of e d m)

      new : List ℕ
      new = answer_bytes a (counted (state_of e d (answer_marks a m)))

      go : (n : ℕ) → next_number e d m out ≡ n
          → Adds (record { estimates = e; distances = d; marks = after n m (answer_marks a m) }) (held b) (cond (eqb n 0) (told (after n out new) ∷ []) [])
      go zero z =
          adds_one (record { estimates = e; distances = d; marks = answer_marks a m }) (held b) (event_of a) (told new)
          (told_is a (counted (state_of e d (answer_marks a m))) (place_fits e d m out z a refl) (λ p x h. distance_fits e d m out z p x h))
          (accepted_is e d m out z a refl) (state_is e d m out z a refl)
      go (suc k) z = rw (ne_eqb (suc k) 0 (λ q. omega arith)) (adds_none b)

  supply_adds : (p bits : ℕ) (out : List ℕ)
      → Adds (call b (supplies p bits out)).lists (held b) (seen (supplies p bits out) (call b (supplies p bits out)))
  unfolding call seen supply_answer after
  supply_adds p bits out = go (supply_number e d m p x out) refl
    where
      x : Float
      x = of_bits binary32 bits

      stored : List ℕ
      stored = sets d (4 * p) (float_bytes x)

      go : (n : ℕ) → supply_number e d m p x out ≡ n
          → Adds (record { estimates = e; distances = after n d stored; marks = after n m (set m p 1) }) (held b) (cond (eqb n 0) (supply p x ∷ []) [])
      go zero z =
          adds_one (record { estimates = e; distances = stored; marks = set m p 1 }) (held b) (supply p x) (supply p x) refl
          (unfold Accepted in (supply-rows e d m p bits out z).1) (unfold then in supply_state e d m p bits out z)
      go (suc k) z = rw (ne_eqb (suc k) 0 (λ q. omega arith)) (adds_none b)

  -- ---- the reported count
  next_counts : (out : List ℕ) → (call b (next out)).number ≡ 0
      → reported (next out) (call b (next out)) ≡ not_waiting (held (call b (next out)).lists)
  unfolding call reported next_answer
  next_counts out z =
      rw (after-accepted n m marks z, after-accepted n out (answer_bytes a count) z)
      (word_back a count 3 (omega arith) (omega (arith, counted_few t, ap (λ (s : State). s.size) st, size-then s (event_of a), (next-sized e d m out z).most))
      ∙ counted_is t (subst Clean (sym st) (clean_then s (event_of a) (accepted_is e d m out z a refl))))
    where
      n : ℕ
      n = next_number e d m out

      s : State
      s = state_of e d m

      a : Answer
      a = answer_of s

      marks : List ℕ
      marks = answer_marks a m

      t : State
      t = state_of e d marks

      count : ℕ
      count = counted t

      st : t ≡ then s (event_of a)
      st = state_is e d m out z a refl

      size-then : (s : State) (e : Event) → (then s e).size ≡ s.size
      size-then s e = (then-estimate s e).1

  supply_counts : (p bits : ℕ) (out : List ℕ) → (call b (supplies p bits out)).number ≡ 0
      → reported (supplies p bits out) (call b (supplies p bits out)) ≡ not_waiting (held (call b (supplies p bits out)).lists)
  unfolding call reported supply_answer
  supply_counts p bits out z =
      rw (after-accepted n d stored z, after-accepted n m marks z, after-accepted n out (bytes_of 4 count) z)
      (num_bytes count (omega (arith, counted_few t, length-set m p 1, (supply-sized e d m p bits out z).most))
      ∙ counted_is t (subst Clean (sym (supply_state e d m p bits out z))
      (unfold then in clean_then s (supply p x) (unfold Accepted in (supply-rows e d m p bits out z).1))))
    where
      x : Float
      x = of_bits binary32 bits

      n : ℕ
      n = supply_number e d m p x out

      s : State
      s = state_of e d m

      stored : List ℕ
      stored = sets d (4 * p) (float_bytes x)

      marks : List ℕ
      marks = set m p 1

      t : State
      t = state_of e stored marks

      count : ℕ
      count = counted t

call_adds : (b : Lists) (c : Call) → Adds (call b c).lists (held b) (seen c (call b c))
call_adds b (next out) = next_adds b out
call_adds b (supplies p bits out) = supply_adds b p bits out

-- ---- so any calls make a run
pub calls_run : (b : Lists) (cs : List Call) → Run (held b) (heard b cs) × (held (left b cs) ≡ ran (held b) (heard b cs))
unfolding heard left Adds
calls_run b [] = unfold Run in unfold ran in (tt, refl)
calls_run b (c ∷ cs) =
    let a = call_adds b c in
    let r = calls_run (call b c).lists cs in
    let es = seen c (call b c) in
    let fs = heard (call b c).lists cs in (
      run_join (held b) es fs a.0 (subst (λ (s : State). Run s fs) a.1 r.0),
      r.1 ∙ ap (λ (s : State). ran s fs) a.1 ∙ sym (ran-join (held b) es fs),
    )

pub calls_count : (b : Lists) (c : Call) → (call b c).number ≡ 0 → reported c (call b c) ≡ not_waiting (held (call b c).lists)
calls_count b (next out) z = next_counts b out z
calls_count b (supplies p bits out) z = supply_counts b p bits out z
