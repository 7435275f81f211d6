-- `lanes::with_wide_table` meets its contract. Assumes nothing.
use Rattle.std.proofs.Common.{◌∙◌}
use Rattle.lanes.proofs.wide.with_wide_table.Goals as goal

pub returns : goal.returns
returns g c =
    let w = c.with_table.ensures in
    (w.0, w.1, w.2, w.3, w.4, w.5, w.6 ∙ c.as_slice.ensures.same, w.7, w.8)
