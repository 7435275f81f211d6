-- `walk::put_bounds` meets its contract. Assumes nothing.
use Rattle.std.proofs.Common.{◌≡◌, ◌≤◌, length}
use Rattle.std.proofs.Math.Seq.{paste}
use Rattle.walk.proofs.put_bounds.Given as goal

abbrev pub invariant-loop-i : goal.invariant-loop-i
invariant-loop-i l = (l.i ≤ length l.found) × (l.bounds ≡ paste l.initial.bounds 0 l.found l.i)
