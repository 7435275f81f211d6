-- `words::any_from` meets its contract. Assumes nothing.
use Prim.Native.Nat.{◌≤◌, ◌*◌, ◌%◌}
use mathlib.Core.Path.{◌≡◌}
use lib.Dec.{leb, ltb}
use Rattle.words.specs.Bytes.{num_at}
use Rattle.words.specs.Lists.{any_below}
use Rattle.words.proofs.any_from.Given as goal

abbrev pub invariant-loop-i : goal.invariant-loop-i
invariant-loop-i l = (l.count ≤ l.i) × (ltb 0 l.count ≡ any_below l.i (λ i. leb l.least (num_at 4 l.s (4 * i) % 0x8000_0000)))
