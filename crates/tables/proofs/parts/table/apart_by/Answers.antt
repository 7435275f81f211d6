-- `tables::parts::table::apart_by` meets its contract. Assumes nothing.
use mathlib.Core.Path.{refl}
use Rattle.scalar.specs.Table.{apart}
use Rattle.tables.proofs.parts.table.apart_by.Goals as goal

pub returns-in-L2 : goal.returns-in-L2
unfolding apart
returns-in-L2 c = rw c.in-L2.is refl

pub returns-in-Dot : goal.returns-in-Dot
unfolding apart
returns-in-Dot c = rw c.in-Dot.is refl
