-- `tables::parts::distance::distance` meets its contract. Assumes nothing.
use mathlib.Core.Path.{refl}
use Rattle.scalar.specs.Table.{distance_of}
use Rattle.tables.proofs.parts.distance.distance.Goals as goal

pub returns-in-L2 : goal.returns-in-L2
unfolding distance_of
returns-in-L2 c = rw c.in-L2.is refl

pub returns-in-Dot : goal.returns-in-Dot
unfolding distance_of
returns-in-Dot c = rw c.in-Dot.is refl
