-- `planes::parts::plane_ones` meets its contract. Assumes nothing.
use mathlib.Core.Path.{◌≡◌}
use Prim.Native.Nat.{◌*◌, ◌≤◌}
use lib.Bits.{bit_and}
use lib.Count.{ones}
use lib.ListN.{get_or}
use Rattle.words.specs.Bytes.{num_at}
use Rattle.words.specs.Sums.{sum_to}
use Rattle.planes.proofs.parts.plane_ones.Given as goal

abbrev pub invariant-loop-w : goal.invariant-loop-w
invariant-loop-w l = (l.r ≡ sum_to l.w (λ i. ones (bit_and (num_at 8 l.words (8 * i)) (get_or l.plane i 0)))) × (l.r ≤ 64 * l.w)
