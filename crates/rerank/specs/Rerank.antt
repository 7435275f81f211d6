-- Module 9's rule, on the places of three lists, and runs of accepted calls as lists of events.
use Rattle.std.specs.Prelude.{◌≡◌, Bool, true, false, not, ◌&&◌, ◌||◌, cond, List, [], ◌∷◌, ℕ, zero, suc, ◌+◌, ◌<◌, leb, eqb, Float}
use Rattle.std.proofs.Math.Option.{Option, none, some}
use Rattle.std.specs.Float.Ieee.{lt, is_nan}
use Rattle.words.specs.Limits.{most_mark}
use Rattle.words.specs.Lists.{any_below}
use Rattle.words.specs.Sums.{sum_to}
use Rattle.rerank.specs.declared.Answer.{Answer}
use Rattle.rerank.specs.declared.Answer.TheVariants.{Ask, Give, Done}

-- ---- the lists

-- how many places they have, and what stands at each: an estimate, a distance, and a mark (0 waiting, 1 asked, 2 given)
pub record State : Type 0 where
  pub size : ℕ
  pub estimate : ℕ → Float
  pub distance : ℕ → Float
  pub mark : ℕ → ℕ

-- f with v at place p
unfoldable pub put : {A : Type 0} → (ℕ → A) → ℕ → A → ℕ → A
put f p v i = cond (eqb i p) v (f i)

-- ---- the least of the places with the mark k: the least value, the lower place first when equal (-0 equals +0 to `lt`)

-- place i against the best one before it: it takes over only where its value is strictly below
unfoldable pub better : (ℕ → Float) → ℕ → Option ℕ → Option ℕ
better f i none = some i
better f i (some b) = cond (lt (f i) (f b)) (some i) (some b)

-- the least among the places below i
unfoldable pub least : ℕ → (ℕ → Float) → (ℕ → ℕ) → ℕ → Option ℕ
unfolding better
least k f marks zero = none
least k f marks (suc i) = let b = least k f marks i in cond (eqb (marks i) k) (better f i b) b

-- the same as a relation: no other value is below p's, and p's is below those of the places before it. `least` gives a place of which this
-- holds, and none where no place has the mark (`least-says` of proofs/LeastLaws, for values that are no NaN)
pub record IsLeast (k : ℕ) (f : ℕ → Float) (marks : ℕ → ℕ) (n p : ℕ) : Type 0 where
  pub inside : p < n
  pub marked : marks p ≡ k
  pub low : (q : ℕ) → q < n → marks q ≡ k → lt (f q) (f p) ≡ false
  pub first : (q : ℕ) → q < p → marks q ≡ k → lt (f p) (f q) ≡ true

-- ---- the rule

-- by the least waiting place and the least asked one
unfoldable pub choose : State → Option ℕ → Option ℕ → Answer
choose s none none = Done
choose s none (some a) = Give a (s.distance a)
choose s (some w) none = Ask w
choose s (some w) (some a) = cond (lt (s.estimate w) (s.distance a)) (Ask w) (Give a (s.distance a))

-- what the rule answers in a state
unfoldable pub answer_of : State → Answer
unfolding choose least
answer_of s = choose s (least 0 s.estimate s.mark s.size) (least 1 s.distance s.mark s.size)

-- a place is now asked for exactly when the answer would be Ask of it
unfoldable pub asks_for : Answer → ℕ → Bool
asks_for (Ask q) p = eqb p q
asks_for (Give q d) p = false
asks_for Done p = false

-- ---- refusals: MISSING is a NaN estimate at any place or a NaN distance at an asked one, BAD_VALUE a mark above the greatest

unfoldable pub missing_at : State → ℕ → Bool
missing_at s i = is_nan (s.estimate i) || (eqb (s.mark i) 1 && is_nan (s.distance i))

unfoldable pub missing : State → Bool
unfolding any_below missing_at
missing s = any_below s.size (missing_at s)

unfoldable pub bad_mark : State → Bool
unfolding any_below
bad_mark s = any_below s.size (λ i. not (leb (s.mark i) most_mark))

unfoldable pub next_refusal : State → ℕ
unfolding missing bad_mark
next_refusal s = cond (missing s) 4 (cond (bad_mark s) 5 0)

unfoldable pub supply_refusal : State → ℕ → Float → ℕ
unfolding missing bad_mark asks_for answer_of
supply_refusal s p d = cond (missing s || is_nan d) 4 (cond (bad_mark s) 5 (cond (asks_for (answer_of s) p) 0 9))

-- ---- what an accepted call leaves, and the count that it reports

abbrev pub given : State → ℕ → State
given s p = record { size = s.size; estimate = s.estimate; distance = s.distance; mark = put s.mark p 2 }

abbrev pub supplied : State → ℕ → Float → State
supplied s p d = record { size = s.size; estimate = s.estimate; distance = put s.distance p d; mark = put s.mark p 1 }

abbrev pub one_or_two : ℕ → ℕ
one_or_two m = cond (eqb m 1 || eqb m 2) 1 0

-- how many marks are 1 or 2
unfoldable pub counted : State → ℕ
unfolding sum_to
counted s = sum_to s.size (λ i. one_or_two (s.mark i))

-- ---- runs of accepted calls

-- next answered Ask, a distance was supplied, next answered Give, next answered Done
pub data Event : Type 0 where
  asked : ℕ → Event
  supply : ℕ → Float → Event
  gave : ℕ → Float → Event
  done : Event

-- in the state s the call is accepted, and next answers so
unfoldable pub Accepted : State → Event → Type 0
Accepted s (asked p) = (next_refusal s ≡ 0) × (answer_of s ≡ Ask p)
Accepted s (supply p d) = supply_refusal s p d ≡ 0
Accepted s (gave p d) = (next_refusal s ≡ 0) × (answer_of s ≡ Give p d)
Accepted s done = (next_refusal s ≡ 0) × (answer_of s ≡ Done)

-- the state after one accepted call, and after a list of them
unfoldable pub then : State → Event → State
then s (asked p) = s
then s (supply p d) = supplied s p d
then s (gave p d) = given s p
then s done = s

unfoldable pub ran : State → List Event → State
unfolding then
ran s [] = s
ran s (e ∷ es) = ran (then s e) es

-- each call of the list is accepted in the state that those before it left
unfoldable pub Run : State → List Event → Type 0
unfolding Accepted then
Run s [] = Unit {0}
Run s (e ∷ es) = Accepted s e × Run (then s e) es

-- the sum of a number of each event
unfoldable pub tally : (Event → ℕ) → List Event → ℕ
tally f [] = 0
tally f (e ∷ es) = f e + tally f es

-- so these tell how often any place was asked for, supplied or given, and how often place p was
abbrev pub an_ask : Event → ℕ
an_ask (asked q) = 1
an_ask (supply q d) = 0
an_ask (gave q d) = 0
an_ask done = 0

abbrev pub a_supply : Event → ℕ
a_supply (asked q) = 0
a_supply (supply q d) = 1
a_supply (gave q d) = 0
a_supply done = 0

abbrev pub a_give : Event → ℕ
a_give (asked q) = 0
a_give (supply q d) = 0
a_give (gave q d) = 1
a_give done = 0

abbrev pub supply_of : ℕ → Event → ℕ
supply_of p (asked q) = 0
supply_of p (supply q d) = cond (eqb p q) 1 0
supply_of p (gave q d) = 0
supply_of p done = 0

abbrev pub give_of : ℕ → Event → ℕ
give_of p (asked q) = 0
give_of p (supply q d) = 0
give_of p (gave q d) = cond (eqb p q) 1 0
give_of p done = 0
