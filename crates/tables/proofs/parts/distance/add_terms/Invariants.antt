-- `tables::parts::distance::add_terms` meets its contract, over the width. Assumes nothing.
use mathlib.Core.Path.{◌≡◌}
use Rattle.words.specs.Floats.{added_to}
use Rattle.scalar.specs.Table.{term_at}
use Rattle.tables.proofs.parts.distance.add_terms.Given as goal

abbrev pub invariant-loop-i : goal.invariant-loop-i
invariant-loop-i g l = l.sum ≡ added_to l.s l.i (term_at g.row.BITS l.table l.code)
