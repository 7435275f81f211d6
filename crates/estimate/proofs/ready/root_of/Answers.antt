-- `estimate::ready::root_of` meets its contract. Assumes nothing.
use mathlib.Core.Path.{ap, ◌∙◌}
use lib.Ieee.{nan, of_bits}
use Rattle.std.specs.Option.{unwrap_or}
use Rattle.estimate.specs.Estimate.{root_float}
use Rattle.estimate.proofs.ready.root_of.Goals as goal

pub returns : goal.returns
unfolding root_float of_bits
returns c = c.unwrap_or.ensures ∙ ap (λ r. unwrap_or r nan) c.square_root.ensures
