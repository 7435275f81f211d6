-- No place passed has the key.
use mathlib.Core.Path.{◌≡◌}
use Prim.Native.Nat.{ℕ, ◌≤◌, ◌<◌}
use Rattle.scan.specs.Parts.{key_at}
use Rattle.scan.proofs.pass.first_at.Given as goal

abbrev pub invariant-loop-i : goal.invariant-loop-i
invariant-loop-i l = (q : ℕ) → q < l.i → l.fn.least.from ≤ q → key_at l.mark l.list l.marks q ≡ l.least.key → ⊥
