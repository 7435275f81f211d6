-- `sums::parts::table::fill_group` meets its contract. Assumes nothing.
use Rattle.std.proofs.Common.{◌≡◌, ℕ, ◌<◌, length, get_or}
use Rattle.sums.specs.Sums.{group_sum}
use Rattle.sums.proofs.parts.table.fill_group.Given as goal

abbrev pub invariant-loop-m : goal.invariant-loop-m
invariant-loop-m l = (length l.part ≡ length l.initial.part) × ((k : ℕ) → k < l.m → get_or l.part k 0 ≡ group_sum l.codes 0 k)
