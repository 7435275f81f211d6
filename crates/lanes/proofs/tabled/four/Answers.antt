-- `lanes::tabled::four` meets its contract. Assumes nothing.
use Rattle.std.proofs.Common.{arith}
use Rattle.lanes.proofs.LaneLaws.{four-picks}
use Rattle.lanes.proofs.tabled.four.Goals as goal

pub returns : goal.returns
returns c =
    let a = c.args in
    let p = c.requires in
    (omega (arith, four-picks a.c a.q0 a.q1 a.q2 a.q3 p.0 p.1 p.2 p.3), omega arith)
