-- What an accepted walk tells. Assumes nothing.
use Prim.Native.Nat.{ℕ, ◌-◌, ◌≤◌}
use mathlib.Core.List.{List}
use mathlib.Core.Path.{◌≡◌, sym, ap, ◌∙◌}
use lib.ListN.{length}
use Rattle.std.specs.Prelude.{Ok}
use Rattle.std.specs.declared.result.Result.{Result}
use Rattle.words.specs.Refusals.{status}
use Rattle.words.specs.declared.refusal.Refusal.{Refusal}
use Rattle.words.proofs.RefusalLaws.{else_none}
use Rattle.walk.specs.Walk.{range_number, walk_number, walk_answer}
use Rattle.walk.proofs.AnswerLaws.{inside}

-- its range has no more ids than the lists have places
pub walk_room : {A : Type 0} {r : Result A Refusal} {x : A} {ids' bounds' marks' count' : List ℕ}
    → (metric layout dims : ℕ) (v : _) (qs rs : List ℕ) (n start end : ℕ) (ids bounds marks count : List ℕ)
    → (status r, ids', bounds', marks', count') ≡ walk_answer metric layout dims v qs rs n start end ids bounds marks count → r ≡ Ok x
    → end - start ≤ length marks
unfolding walk_answer walk_number
walk_room metric layout dims v qs rs n start end ids bounds marks count e z =
    let accepted : walk_number metric layout dims v qs rs n start end ids bounds marks count ≡ 0 =
    sym (ap (λ (p : ℕ × List ℕ × List ℕ × List ℕ × List ℕ). p.0) e) ∙ ap status z in
    (inside n start end (length marks) (else_none (range_number n start end (length marks)) _ (else_none _ _ accepted).1).0).1
