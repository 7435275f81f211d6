-- `tables::parts::distance::sum_bits` meets its contract, over the width: a group of dimensions a turn, then what is left. Assumes nothing.
use Prim.Native.Nat.{◌*◌}
use mathlib.Core.Path.{◌≡◌}
use Rattle.words.specs.Floats.{plus_zero, added_to}
use Rattle.scalar.specs.Table.{term_at}
use Rattle.tables.proofs.parts.distance.sum_bits.Given as goal

abbrev pub invariant-loop-k : goal.invariant-loop-k
invariant-loop-k g l = l.s ≡ added_to plus_zero (l.k * 8) (term_at g.row.BITS l.table l.code)
