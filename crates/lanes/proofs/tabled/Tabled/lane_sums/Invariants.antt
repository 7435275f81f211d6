-- `lanes::tabled::Tabled::lane_sums` meets its contract. Assumes nothing.
use Rattle.std.proofs.Common.{◌-◌, min}
use Rattle.lanes.specs.Parts.{Lanes}
use Rattle.lanes.proofs.tabled.Tabled.lane_sums.Given as goal

abbrev pub invariant-loop-g : goal.invariant-loop-g
invariant-loop-g l = Lanes l.self.codes.now l.self.block.now 0 (min l.g l.n) l.sums

abbrev pub decreases-loop-g : goal.decreases-loop-g
decreases-loop-g l = l.n - l.g
