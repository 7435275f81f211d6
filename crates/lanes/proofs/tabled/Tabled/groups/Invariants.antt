-- `lanes::tabled::Tabled::groups` meets its contract. Assumes nothing.
use Rattle.std.proofs.Common.{◌≡◌, ◌+◌, ◌*◌, ◌≤◌}
use Rattle.block.specs.Block.{lane_nibble}
use Rattle.sums.specs.Parts.{groups_sum}
use Rattle.lanes.proofs.tabled.Tabled.groups.Given as goal

abbrev pub invariant-loop-i : goal.invariant-loop-i
invariant-loop-i g l =
    (l.low ≡ groups_sum l.self.codes.now (lane_nibble l.self.block.now l.j) l.g l.i) × (l.low ≤ 60 * l.i)
    × (l.high ≡ groups_sum l.self.codes.now (lane_nibble l.self.block.now (l.j + 16)) l.g l.i) × (l.high ≤ 60 * l.i)
