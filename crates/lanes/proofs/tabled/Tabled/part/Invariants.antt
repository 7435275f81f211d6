-- `lanes::tabled::Tabled::part` meets its contract. Assumes nothing.
use Rattle.std.proofs.Common.{ℕ, ◌≡◌, ◌+◌, ◌<◌, length, get_or}
use Rattle.block.specs.Block.{lane_nibble}
use Rattle.sums.specs.Parts.{groups_sum}
use Rattle.lanes.proofs.tabled.Tabled.part.Given as goal

abbrev pub invariant-loop-j : goal.invariant-loop-j
invariant-loop-j g l =
    (length l.low ≡ 16) × ((k : ℕ) → k < l.j → get_or l.low k 0 ≡ groups_sum l.self.codes.now (lane_nibble l.self.block.now k) l.g g.row.N)
    × (length l.high ≡ 16) × ((k : ℕ) → k < l.j → get_or l.high k 0 ≡ groups_sum l.self.codes.now (lane_nibble l.self.block.now (k + 16)) l.g g.row.N)
