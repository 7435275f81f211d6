-- `scalar::parts::vectors::above_max` meets its contract. Assumes nothing.
use Prim.Native.Nat.{◌≤◌}
use mathlib.Core.Path.{◌≡◌}
use lib.Dec.{ltb}
use lib.Ieee.{lt}
use Rattle.words.specs.Bytes.{f32_at}
use Rattle.words.specs.Lists.{any_below}
use Rattle.scalar.proofs.parts.vectors.above_max.Given as goal

abbrev pub invariant-loop-i : goal.invariant-loop-i
invariant-loop-i l = (l.bad ≤ l.i) × (ltb 0 l.bad ≡ any_below l.i (λ i. lt (f32_at l.hi i) (f32_at l.lo i)))
