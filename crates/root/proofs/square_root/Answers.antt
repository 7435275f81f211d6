-- `root::square_root` meets its contract, by the cases of CaseLaws. Assumes nothing.
use mathlib.Core.Path.{sym, ap, ◌∙◌, subst}
use native.Mathlib.Omega.{arith}
use lib.Dec.{T}
use lib.Ieee.{binary32, fits}
use lib.Ieee.Bits.{of_bits-to_bits}
use Rattle.root.specs.Root.{root_of}
use Rattle.words.proofs.FloatLaws.{no_nan-pattern}
use Rattle.root.proofs.CaseLaws.{root_of-nan, root_below, root_same}
use Rattle.root.proofs.square_root.Goals as goal
use Rattle.root.proofs.square_root.Goals.{Start}

-- what owning an `f32` tells: the format holds it
held : (c : Start) → T (fits binary32 c.args.x)
held c = subst T (sym c.well_formed.0.1) tt

pub returns-then-is_nan : goal.returns-then-is_nan
returns-then-is_nan c = root_of-nan c.args.x (sym c.is_nan.ensures.value ∙ c.if-is_nan.true)

pub returns-then-b-gt2147483648 : goal.returns-then-b-gt2147483648
returns-then-b-gt2147483648 c = root_below c.args.x (held (goal.at.returns-then-b-gt2147483648 c).Start) c.if-b-gt2147483648.true

pub returns-then-b-eq0 : goal.returns-then-b-eq0
returns-then-b-eq0 c =
    root_same c.args.x (held (goal.at.returns-then-b-eq0 c).Start) (sym c.is_nan.ensures.value ∙ c.if-is_nan.false) c.if-b-gt2147483648.false c.then-b-eq0.either

pub root_bits-requires : goal.root_bits-requires
root_bits-requires c = omega arith

pub float_from_bits-result : goal.float_from_bits-result
float_from_bits-result c = no_nan-pattern c.root_bits.result (omega arith)

pub returns : goal.returns
returns c = sym c.root_bits.ensures.1 ∙ ap root_of (of_bits-to_bits binary32 c.args.x (held (goal.at.returns c).Start))
