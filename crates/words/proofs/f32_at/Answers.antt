-- `words::f32_at` meets its contract. Assumes nothing.
use mathlib.Core.Path.{sym, ap, ◌∙◌}
use lib.Ieee.{of_bits, binary32}
use Rattle.words.specs.Bytes.{f32_at}
use Rattle.words.proofs.FloatLaws.{nan_pattern, no_nan-pattern, nan_constant}
use Rattle.words.proofs.f32_at.Goals as goal

pub returns-then-n-gt-INFINITY : goal.returns-then-n-gt-INFINITY
unfolding f32_at
returns-then-n-gt-INFINITY c = nan_constant ∙ sym (nan_pattern _ c.if-n-gt-INFINITY.true) ∙ ap (of_bits binary32) c.u32_at-n.ensures

pub float_from_bits-result : goal.float_from_bits-result
float_from_bits-result c = no_nan-pattern _ c.if-n-gt-INFINITY.false

pub returns : goal.returns
unfolding f32_at
returns c = ap (of_bits binary32) c.u32_at-n.ensures
