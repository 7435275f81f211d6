-- `tables::parts::table::put_row` meets its contract. Assumes nothing.
use mathlib.Core.Path.{◌≡◌}
use lib.Seq.{sets}
use Rattle.words.specs.Bytes.{float_bytes}
use Rattle.words.specs.Lists.{joined}
use Rattle.scalar.specs.Table.{entry_of}
use Rattle.tables.proofs.parts.table.put_row.Given as goal

abbrev pub invariant-loop-j : goal.invariant-loop-j
invariant-loop-j l = l.out ≡ sets l.initial.out l.at (joined l.j (λ j. float_bytes (entry_of l.m l.x l.lo l.del j)))
