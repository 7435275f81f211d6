-- `sums::QueryCodes::total` meets its contract. Assumes nothing.
use Rattle.std.proofs.Common.{rules}
use Rattle.sums.proofs.PlainLaws.{total_is}
use Rattle.sums.proofs.codes.QueryCodes.total.Goals as goal

pub returns : goal.returns
returns c = total_is c.args.self.now (rw c.self.view_is at c.self.invariant.2) (search rules)
