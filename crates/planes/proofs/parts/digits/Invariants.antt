-- `planes::parts::digits` meets its contract. Assumes nothing.
use mathlib.Core.Path.{◌≡◌}
use Prim.Native.Nat.{ℕ, ◌<◌, ◌≤◌}
use lib.ListN.{length, get_or}
use Rattle.words.specs.Digits.{bit}
use Rattle.planes.proofs.parts.digits.Given as goal

abbrev pub invariant-loop-i : goal.invariant-loop-i
invariant-loop-i l = (length l.d ≡ length l.initial.d) × ((k : ℕ) → k < l.i → get_or l.d k 0 ≡ bit (get_or l.q k 0) l.p) ×
    ((k : ℕ) → l.i ≤ k → get_or l.d k 0 ≡ get_or l.initial.d k 0)
