-- `scan::lists::Lists::count_marks` meets its contract. Assumes nothing.
use Rattle.scan.proofs.ScanLaws.{counts_none, counts_more}
use Rattle.scan.proofs.lists.Lists.count_marks.Goals as goal

pub loop-i-init : goal.loop-i-init
loop-i-init c = counts_none _ _

pub loop-i-preserved : goal.loop-i-preserved
loop-i-preserved c = counts_more _ _ _ _ _ _ _ c.loop-i.invariant c.from-bad.ensures c.from-count.ensures
