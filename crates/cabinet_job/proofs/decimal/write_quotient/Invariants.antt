-- What is left stays below the unit.
use Rattle.std.proofs.Common.{◌<◌, ◌≤◌, ◌^◌}
use Rattle.cabinet_job.proofs.decimal.write_quotient.Given as goal

abbrev pub invariant-loop : goal.invariant-loop
invariant-loop g l = (l.rest < l.unit) × (l.unit ≤ 2 ^ 60)
