-- `tables::parts::table::fill_rows` meets its contract, over the width. Assumes nothing.
use Prim.Native.Nat.{ℕ}
use mathlib.Core.List.{List}
use mathlib.Core.Path.{◌≡◌}
use lib.Seq.{sets}
use Rattle.words.specs.Bytes.{floats_of}
use Rattle.words.specs.Lists.{joined}
use Rattle.words.specs.declared.metric.Metric.{Metric}
use Rattle.digits.specs.Digits.{levels}
use Rattle.scalar.specs.Parts.{Ranged}
use Rattle.scalar.specs.Table.{entry_at}
use Rattle.tables.proofs.parts.table.fill_rows.Given as goal

-- row i of the table
abbrev pub row : Metric → ℕ → Ranged → ℕ → List ℕ
row m bits v i = floats_of (levels bits) (entry_at m bits v.vector v.lo v.hi i)

abbrev pub invariant-loop-i : goal.invariant-loop-i
invariant-loop-i g l = l.out ≡ sets l.initial.out 0 (joined l.i (row l.m g.row.BITS l.v))
