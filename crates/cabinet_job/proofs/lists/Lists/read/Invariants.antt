-- Each record before this block is a candidate.
use Rattle.std.proofs.Common.{◌≡◌}
use Rattle.std.specs.Prelude.{min}
use Rattle.cabinet_job.proofs.lists.Lists.read.Given as goal

abbrev pub invariant-loop-first : goal.invariant-loop-first
invariant-loop-first g l = l.self.len ≡ min l.n l.first-counter
