-- What the workers of module 9 promise each other: what a scan of the lists means for a call. No public promise cites this file.
use Rattle.std.specs.Prelude.{◌≡◌, ◌<◌, List, ℕ, cond, ltb, length, Ok, Err, IfOk}
use Rattle.std.specs.declared.result.Result.{Result}
use Rattle.words.specs.Bytes.{num_at, f32_at}
use Rattle.words.specs.Refusals.{number_of, status, bad_length}
use Rattle.words.specs.declared.refusal.Refusal.{Refusal}
use Rattle.scan.specs.Lists.{Places, Sized}
use Rattle.scan.specs.Parts.{waiting_key, asked_key, FirstPlace, ScanTo}
use Rattle.scan.specs.declared.pass.Scan.{Scan}
use Rattle.rerank.specs.Rerank.{State, Event, asked, gave, done, answer_of, next_refusal, counted}
use Rattle.rerank.specs.Demand.{told}
use Rattle.rerank.specs.Calls.{state_of}
use Rattle.rerank.specs.declared.Answer.{Answer}
use Rattle.rerank.specs.declared.Answer.TheVariants.{Ask, Give, Done}
use Rattle.rerank.specs.declared.Ruling.{Ruling}

-- the state that the lists hold
abbrev pub held : Places → State
held l = state_of l.estimates l.distances l.marks

-- the event of an answer
abbrev pub event_of : Answer → Event
event_of (Ask p) = asked p
event_of (Give p x) = gave p x
event_of Done = done

-- the answer that next's bytes tell: BAD_LENGTH where they are not 16, BAD_VALUE where their number is no answer's
abbrev pub Told : List ℕ → Result Answer Refusal → Type 0
Told out r = (status r ≡ cond (bad_length out 16) 3 (cond (ltb 2 (num_at 4 out 0)) 5 0)) × IfOk r (λ a. told out ≡ event_of a)

-- a Give is of one of n places
abbrev pub Inside : ℕ → Answer → Type 0
Inside n (Ask p) = Unit {0}
Inside n (Give p x) = p < n
Inside n Done = Unit {0}

-- what is known of lists that are not refused
pub record Accepting (l : Places) (s : Scan) : Type 0 where
  pub sized : Sized l
  pub scanned : ScanTo l (length l.marks) s
  pub accepted : next_refusal (held l) ≡ 0

-- the answer is Ask of the first waiting place with the key, or Give of the first asked one
abbrev pub Asks : Places → ℕ → Answer → Type 0
Asks l key (Ask p) = FirstPlace (waiting_key l) (length l.marks) key p
Asks l key (Give p d) = ⊥
Asks l key Done = ⊥

abbrev pub Gives : Places → ℕ → Answer → Type 0
Gives l key (Ask p) = ⊥
Gives l key (Give p d) = FirstPlace (asked_key l) (length l.marks) key p × (d ≡ f32_at l.distances p)
Gives l key Done = ⊥

-- the refusal of lists of one length, or the answer and the count
abbrev pub Ruled : Places → Result Ruling Refusal → Type 0
Ruled l (Ok r) = (next_refusal (held l) ≡ 0) × (r.answer ≡ answer_of (held l)) × (r.count ≡ counted (held l))
Ruled l (Err f) = next_refusal (held l) ≡ number_of f
