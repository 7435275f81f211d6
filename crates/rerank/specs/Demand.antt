-- Demand 3, stated over runs of accepted calls and over the bytes that the calls are lent. `DemandLaws` proves it.
use Rattle.std.specs.Prelude.{◌≡◌, true, false, cond, List, [], ◌∷◌, ◌++◌, ℕ, zero, suc, ◌+◌, ◌*◌, ◌^◌, ◌<◌, eqb, length, replicate, Float}
use Rattle.std.specs.Float.Ieee.{lt, is_nan, of_bits}
use Rattle.std.specs.Float.{binary32}
use Rattle.words.specs.Bytes.{num_at, f32_at}
use Rattle.words.specs.Refusals.{bad_lists}
use Rattle.words.specs.Sums.{sum_to}
use Rattle.rerank.specs.Rerank.{State, answer_of, supply_refusal, Event, asked, supply, gave, done, ran, Run}
use Rattle.rerank.specs.Rerank.{tally, an_ask, a_supply, a_give, supply_of, give_of}
use Rattle.rerank.specs.Calls.{state_of, next_answer, supply_answer}
use Rattle.rerank.specs.declared.Answer.TheVariants.{Ask}

-- the premise: each supplied distance is not below its place's estimate
unfoldable pub Lower : (ℕ → Float) → List Event → Type 0
Lower f [] = Unit {0}
Lower f (asked p ∷ es) = Lower f es
Lower f (supply p d ∷ es) = (lt d (f p) ≡ false) × Lower f es
Lower f (gave p d ∷ es) = Lower f es
Lower f (done ∷ es) = Lower f es

-- ---- what holds of the accepted calls es from the state s of fresh lists on. `ran s fs` is the state after the calls fs

-- the distance d was supplied for p
pub record Supplied (p : ℕ) (d : Float) (es : List Event) : Type 0 where
  pub earlier : List Event
  pub later : List Event
  pub here : es ≡ earlier ++ (supply p d ∷ later)

-- with or without the premise
pub record Always (s : State) (es : List Event) : Type 0 where
  -- one by one: in each state only the place that Ask names can be supplied
  pub one_by_one : (fs gs : List Event) (p : ℕ) (d : Float) → es ≡ fs ++ gs → supply_refusal (ran s fs) p d ≡ 0 → answer_of (ran s fs) ≡ Ask p
  -- exact: what is handed out is the distance that was supplied for it
  pub exact : (fs gs : List Event) (p : ℕ) (d : Float) → es ≡ fs ++ (gave p d ∷ gs) → Supplied p d fs
  -- when one is handed out at d, every candidate with an estimate below d has been asked for (its mark is not 0)
  pub below : (fs gs : List Event) (p q : ℕ) (d : Float) → es ≡ fs ++ (gave p d ∷ gs) → q < s.size → lt (s.estimate q) d ≡ true
      → (ran s fs).mark q ≡ 0 → ⊥
  -- if x is given and later y, and y's distance is less, then y's own estimate was above y's distance
  pub blame : (fs gs hs : List Event) (x y : ℕ) (dx dy : Float) → es ≡ fs ++ (gave x dx ∷ (gs ++ (gave y dy ∷ hs)))
      → lt dy dx ≡ true → lt dy (s.estimate y) ≡ true

-- with the premise
pub record Ordered (s : State) (es : List Event) : Type 0 where
  -- distances never fall
  pub rising : (fs gs hs : List Event) (x y : ℕ) (dx dy : Float) → es ≡ fs ++ (gave x dx ∷ (gs ++ (gave y dy ∷ hs))) → lt dy dx ≡ false
  -- when one is handed out at d, no candidate with an estimate above d has been asked for (its mark is 0)
  pub above : (fs gs : List Event) (p q : ℕ) (d : Float) → es ≡ fs ++ (gave p d ∷ gs) → q < s.size → lt d (s.estimate q) ≡ true
      → (ran s fs).mark q ≡ 0

-- where Done follows es, with or without the premise
pub record Finished (s : State) (es : List Event) : Type 0 where
  -- every candidate is handed out once, and its distance was supplied once
  pub once : (q : ℕ) → q < s.size → (tally (give_of q) es ≡ 1) × (tally (supply_of q) es ≡ 1)
  -- n accepted distances and n gives
  pub distances : tally a_supply es ≡ s.size
  pub gives : tally a_give es ≡ s.size

-- ---- the same over bytes

-- the lists that the calls are lent, and that only they change
pub record Lists : Type 0 where
  pub estimates : List ℕ
  pub distances : List ℕ
  pub marks : List ℕ

-- fresh lists of n places: no candidate was asked for yet
abbrev pub fresh : ℕ → List ℕ → List ℕ → Lists
fresh n estimates distances = record { estimates = estimates; distances = distances; marks = replicate n 0 }

-- one call, with what `out` holds before it. A float parameter is any bit pattern
pub data Call : Type 0 where
  next : List ℕ → Call
  supplies : ℕ → ℕ → List ℕ → Call

-- the state that the lists hold
abbrev pub held : Lists → State
held b = state_of b.estimates b.distances b.marks

-- the number that it returns, the lists that it leaves, and `out` after it
pub record Answered : Type 0 where
  pub number : ℕ
  pub lists : Lists
  pub out : List ℕ

unfoldable pub call : Lists → Call → Answered
call b (next out) =
    let r = next_answer b.estimates b.distances b.marks out in
    record { number = r.0; lists = record { estimates = b.estimates; distances = b.distances; marks = r.1 }; out = r.2 }
call b (supplies place bits out) =
    let r = supply_answer b.estimates b.distances b.marks place (of_bits binary32 bits) out in
    record { number = r.0; lists = record { estimates = b.estimates; distances = r.1; marks = r.2 }; out = r.3 }

-- the event that next's bytes tell: 1 Ask, 2 Give, 0 Done, then the place (byte 4) and the distance (float 2, byte 8)
unfoldable pub told : List ℕ → Event
told out = cond (eqb (num_at 4 out 0) 1) (asked (num_at 4 out 4)) (cond (eqb (num_at 4 out 0) 2) (gave (num_at 4 out 4) (f32_at out 2)) done)

-- the event of a call, where it was accepted, and the count that it reported
unfoldable pub seen : Call → Answered → List Event
seen (next out) r = cond (eqb r.number 0) (told r.out ∷ []) []
seen (supplies place bits out) r = cond (eqb r.number 0) (supply place (of_bits binary32 bits) ∷ []) []

unfoldable pub reported : Call → Answered → ℕ
reported (next out) r = num_at 4 r.out 12
reported (supplies place bits out) r = num_at 4 r.out 0

-- the lists after some calls, refused ones among them, the numbers that they returned, and the events that they were heard to make
unfoldable pub left : Lists → List Call → Lists
left b [] = b
left b (c ∷ cs) = left (call b c).lists cs

unfoldable pub numbers : Lists → List Call → List ℕ
numbers b [] = []
numbers b (c ∷ cs) = (call b c).number ∷ numbers (call b c).lists cs

unfoldable pub heard : Lists → List Call → List Event
heard b [] = []
heard b (c ∷ cs) = seen c (call b c) ++ heard (call b c).lists cs

-- the candidates no longer waiting
unfoldable pub not_waiting : State → ℕ
not_waiting s = sum_to s.size (λ i. cond (eqb (s.mark i) 0) 0 1)

-- ---- a caller that supplies what is asked for

-- what it does after an answer: at Ask it supplies the distance of the place, from a table of the distances' bits
abbrev pub reply : (ℕ → ℕ) → Event → List Call
reply table (asked p) = supplies p (table p) (replicate 4 0) ∷ []
reply table (supply p d) = []
reply table (gave p d) = []
reply table done = []

-- a turn of it is a call of next, and the reply; and k turns, one after the other
unfoldable pub turn : (ℕ → ℕ) → Lists → List Call
turn table b = let c = next (replicate 16 0) in c ∷ reply table (told (call b c).out)

unfoldable pub turns : ℕ → (ℕ → ℕ) → Lists → List Call
turns zero table b = []
turns (suc k) table b = turn table b ++ turns k table (left b (turn table b))

-- calls that finish lists of n places: all are accepted, and what is heard is n Asks, n distances, n Gives, and then Done
pub record Finishes (n : ℕ) (b : Lists) (cs : List Call) : Type 0 where
  pub accepted : numbers b cs ≡ replicate (length cs) 0
  pub events : List Event
  pub to_done : heard b cs ≡ events ++ (done ∷ [])
  pub asks : tally an_ask events ≡ n
  pub distances : tally a_supply events ≡ n
  pub gives : tally a_give events ≡ n

-- demand 3. b is any lent lists, cs any calls on them, and nothing else changes them. (Lists of other lengths, or of more than 4,096 places,
-- are refused, and nothing is heard.)
pub record Demand : Type 0 where
  -- the accepted calls are a run of the rule, and the bytes hold its states
  pub runs : (b : Lists) (cs : List Call) → Run (held b) (heard b cs) × (held (left b cs) ≡ ran (held b) (heard b cs))
  -- the count that an accepted call reports is that of the candidates no longer waiting
  pub counts : (b : Lists) (c : Call) → (call b c).number ≡ 0 → reported c (call b c) ≡ not_waiting (held (call b c).lists)
  -- from fresh lists on
  pub always : (n : ℕ) (e d : List ℕ) (cs : List Call) → let b = fresh n e d in Always (held b) (heard b cs)
  pub ordered : (n : ℕ) (e d : List ℕ) (cs : List Call) → let b = fresh n e d in Lower (f32_at e) (heard b cs) → Ordered (held b) (heard b cs)
  pub finished : (n : ℕ) (e d : List ℕ) (cs : List Call) (es : List Event) → let b = fresh n e d in heard b cs ≡ es ++ (done ∷ []) → Finished (held b) es
  -- fresh lists of n places, of the right lengths and with no NaN among the estimates, are finished by 2 n + 1 turns of a caller that has a
  -- distance that is no NaN for every place
  pub ends : (n : ℕ) (e d : List ℕ) (table : ℕ → ℕ) → let b = fresh n e d in bad_lists (length e) (length d) (length b.marks) ≡ false
      → ((q : ℕ) → q < n → is_nan (f32_at e q) ≡ false) → ((q : ℕ) → q < n → is_nan (of_bits binary32 (table q)) ≡ false)
      → Finishes n b (turns (2 * n + 1) table b)
  -- floats that are no NaN are equal only where their bits are: so what is handed out has the bits that were supplied
  pub bits : (u v : ℕ) → u < 2 ^ 32 → v < 2 ^ 32 → is_nan (of_bits binary32 u) ≡ false → of_bits binary32 u ≡ of_bits binary32 v → u ≡ v
