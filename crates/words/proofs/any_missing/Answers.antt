-- `words::any_missing` meets its contract. Assumes nothing.
use mathlib.Core.Path.{◌∙◌}
use Rattle.words.proofs.FloatLaws.{missing-from}
use Rattle.words.proofs.any_missing.Goals as goal

pub any_from-requires : goal.any_from-requires
any_from-requires c = c.requires

pub returns : goal.returns
returns c = let a = c.args in c.any_from.ensures ∙ missing-from a.n a.s.now
