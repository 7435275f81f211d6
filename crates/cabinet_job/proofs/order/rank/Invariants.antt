-- A turn reads one distance at most, and no more are given than wanted.
use Rattle.std.proofs.Common.{◌≤◌, length}
use Rattle.cabinet_job.proofs.order.rank.Given as goal

abbrev pub invariant-loop : goal.invariant-loop
invariant-loop g l = (l.read ≤ l.counter) × (length l.given.items ≤ l.wanted)
