-- `words::any_nan` meets its contract. Assumes nothing.
use mathlib.Core.Path.{◌∙◌}
use Rattle.words.proofs.FloatLaws.{nan-from}
use Rattle.words.proofs.any_nan.Goals as goal

pub any_from-requires : goal.any_from-requires
any_from-requires c = c.requires

pub returns : goal.returns
returns c = let a = c.args in c.any_from.ensures ∙ nan-from a.n a.s.now
