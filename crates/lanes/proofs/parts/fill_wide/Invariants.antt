-- `lanes::parts::fill_wide` meets its contract. Assumes nothing.
use Rattle.std.proofs.Common.{ℕ, ◌≡◌, ◌*◌, ◌/◌, ◌<◌, length, get_or}
use Rattle.lanes.proofs.parts.fill_wide.Given as goal

abbrev pub invariant-loop-d : goal.invariant-loop-d
invariant-loop-d l = (length l.t ≡ length l.initial.t) × ((i : ℕ) → i < 16 * l.d → get_or l.t i 0 ≡ get_or l.q (i / 16) 0)
