-- `planes::parts::fill_plane` meets its contract. Assumes nothing.
use Rattle.std.proofs.Common.{ℕ, ◌≡◌, ◌<◌, length, get_or}
use Rattle.sums.specs.Sums.{plane_word}
use Rattle.planes.proofs.parts.fill_plane.Given as goal

abbrev pub invariant-loop-w : goal.invariant-loop-w
invariant-loop-w l = (length l.plane ≡ length l.initial.plane) × ((k : ℕ) → k < l.w → get_or l.plane k 0 ≡ plane_word l.q l.p k)
