-- The counts are those of the marks passed.
use Rattle.scan.specs.Parts.{CountsOf}
use Rattle.scan.proofs.lists.Lists.count_marks.Given as goal

abbrev pub invariant-loop-i : goal.invariant-loop-i
invariant-loop-i l = CountsOf l.self-inside.marks.now l.from l.i l.bad l.count
