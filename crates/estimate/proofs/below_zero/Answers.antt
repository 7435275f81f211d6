-- `estimate::below_zero` meets its contract. Assumes nothing.
use mathlib.Core.Path.{sym, subst, ◌∙◌}
use lib.Dec.{T}
use lib.Ieee.{binary32, fits}
use Rattle.estimate.proofs.EstimateLaws.{below_zero_bits}
use Rattle.estimate.proofs.below_zero.Goals as goal

pub returns-then-not-is_nan : goal.returns-then-not-is_nan
returns-then-not-is_nan c =
    let held : T (fits binary32 c.args.x) = subst T (sym c.well_formed.0.1) tt in
    below_zero_bits c.args.x held (sym c.is_nan.ensures.value ∙ c.if-not-is_nan.true)
