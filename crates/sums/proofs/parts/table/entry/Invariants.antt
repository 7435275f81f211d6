-- `sums::parts::table::entry` meets its contract. Assumes nothing.
use Rattle.std.proofs.Common.{◌≡◌, ◌*◌, ◌≤◌, get_or}
use Rattle.words.specs.Digits.{bit}
use Rattle.words.specs.Sums.{sum_to}
use Rattle.sums.proofs.parts.table.entry.Given as goal

abbrev pub invariant-loop-b : goal.invariant-loop-b
invariant-loop-b l = (l.sum ≡ sum_to l.b (λ b. get_or l.codes b 0 * bit l.m b)) × (l.sum ≤ 15 * l.b)
