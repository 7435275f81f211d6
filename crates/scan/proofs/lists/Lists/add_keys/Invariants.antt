-- The keys are those of the places passed.
use Rattle.scan.specs.Parts.{KeysTo}
use Rattle.scan.specs.Lists.{places}
use Rattle.scan.proofs.lists.Lists.add_keys.Given as goal

abbrev pub invariant-loop-i : goal.invariant-loop-i
invariant-loop-i l = let s = l.self-inside in KeysTo (places s.estimates.now s.distances.now s.marks.now) l.i l.keys
