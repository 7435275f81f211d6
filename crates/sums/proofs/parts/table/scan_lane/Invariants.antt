-- `sums::parts::table::scan_lane` meets its contract. Assumes nothing.
use Rattle.std.proofs.Common.{◌≡◌, ◌*◌, ◌≤◌}
use Rattle.sums.specs.Sums.{groups_nibble, table_count}
use Rattle.sums.proofs.parts.table.scan_lane.Given as goal

abbrev pub invariant-loop-g : goal.invariant-loop-g
invariant-loop-g l = (l.sum ≡ table_count l.t (groups_nibble l.groups l.k) l.g) × (l.sum ≤ 255 * l.g)
