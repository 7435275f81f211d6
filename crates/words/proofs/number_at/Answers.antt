-- `words::number_at` meets its contract. Assumes nothing.
use mathlib.Core.Path.{ap}
use lib.Ieee.{of_bits, binary32}
use Rattle.words.specs.Bytes.{f32_at}
use Rattle.words.proofs.FloatLaws.{number_pattern}
use Rattle.words.proofs.number_at.Goals as goal

pub float_from_bits-result : goal.float_from_bits-result
unfolding f32_at
float_from_bits-result c = number_pattern _ (rw c.u32_at.ensures c.requires.1)

pub returns : goal.returns
unfolding f32_at
returns c = ap (of_bits binary32) c.u32_at.ensures
