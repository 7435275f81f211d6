-- `lanes::tabled::widened` meets its contract. Assumes nothing.
use Rattle.std.proofs.Common.{rules}
use Rattle.lanes.proofs.tabled.widened.Goals as goal

pub returns : goal.returns
returns c = record { long = search rules; each = search rules }
