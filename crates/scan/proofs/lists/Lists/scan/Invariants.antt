-- The scan is that of the places passed.
use Prim.Native.Nat.{◌-◌, min}
use lib.ListN.{length}
use Rattle.scan.specs.Parts.{ScanTo}
use Rattle.scan.proofs.lists.Lists.scan.Given as goal

abbrev pub invariant-loop-from : goal.invariant-loop-from
invariant-loop-from l = ScanTo l.self (min (length l.self.marks) l.from) l.s

abbrev pub decreases-loop-from : goal.decreases-loop-from
decreases-loop-from l = l.from-end - l.from
