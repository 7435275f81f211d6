-- `lanes::tabled::Tabled::stretch` meets its contract. Assumes nothing.
use Rattle.std.proofs.Common.{◌*◌}
use Rattle.lanes.specs.Parts.{Sixteen}
use Rattle.lanes.proofs.tabled.Tabled.stretch.Given as goal

abbrev pub invariant-loop-i : goal.invariant-loop-i
invariant-loop-i l = Sixteen l.self.codes.now l.self.block.now 0 l.g (4 * l.i) l.low × Sixteen l.self.codes.now l.self.block.now 16 l.g (4 * l.i) l.high

abbrev pub invariant-loop-i-2 : goal.invariant-loop-i-2
invariant-loop-i-2 l = Sixteen l.self.codes.now l.self.block.now 0 l.g l.i l.low × Sixteen l.self.codes.now l.self.block.now 16 l.g l.i l.high
