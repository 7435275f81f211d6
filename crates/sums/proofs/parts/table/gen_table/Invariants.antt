-- `sums::parts::table::gen_table` meets its contract. Assumes nothing.
use Rattle.std.proofs.Common.{◌≡◌, ℕ, ◌*◌, ◌/◌, ◌%◌, ◌<◌, length, get_or}
use Rattle.sums.specs.Sums.{group_sum}
use Rattle.sums.proofs.parts.table.gen_table.Given as goal

abbrev pub invariant-loop-g : goal.invariant-loop-g
invariant-loop-g l = (length l.t ≡ length l.initial.t) × ((i : ℕ) → i < 16 * l.g → get_or l.t i 0 ≡ group_sum l.q (i / 16) (i % 16))
