-- `lanes::WideTable::put_lane_sums` meets its contract. Assumes nothing.
use Rattle.std.proofs.Common.{◌∙◌}
use Rattle.words.proofs.WordsLaws.{words_ext}
use Rattle.lanes.proofs.wide.WideTable.put_lane_sums.Goals as goal

pub returns : goal.returns
returns c = c.put_sums.ensures ∙ words_ext 32 _ _ c.lane_sums.ensures.sums.each
