-- `scalar::parts::code::del_of` meets its contract. Assumes nothing.
use mathlib.Core.Path.{refl}
use Rattle.scalar.specs.Code.{del_of}
use Rattle.scalar.proofs.parts.code.del_of.Goals as goal

pub returns : goal.returns
unfolding del_of
returns c = rw c.from.ensures refl
