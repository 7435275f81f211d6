-- `lanes::tabled::Tabled::groups` meets its contract. Assumes nothing.
use Rattle.std.proofs.Common.{sym, arith}
use Rattle.lanes.proofs.LaneLaws.{groups_none, groups_step}
use Rattle.lanes.proofs.tabled.Tabled.groups.Goals as goal

pub loop-i-init : goal.loop-i-init
loop-i-init g c = (sym (groups_none _ _ _), omega arith, sym (groups_none _ _ _), omega arith)

pub loop-i-preserved : goal.loop-i-preserved
loop-i-preserved g c =
    let l = c.loop-i.invariant in
    let e = c.group-a.ensures in
    (groups_step _ _ _ _ l.0 e.low.0, omega arith, groups_step _ _ _ _ l.2 e.high.0, omega arith)
