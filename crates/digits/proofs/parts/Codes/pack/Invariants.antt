-- `digits::parts::Codes::pack` meets its contract, over the width. Assumes nothing.
use Prim.Native.Nat.{ℕ, ◌<◌}
use mathlib.Core.Path.{◌≡◌}
use lib.ListN.{length, get_or}
use Rattle.digits.specs.Digits.{packed_byte}
use Rattle.digits.proofs.parts.Codes.pack.Given as goal

abbrev pub invariant-loop-k : goal.invariant-loop-k
invariant-loop-k g l =
    let w = g.row.BITS in (length l.byte-items ≡ l.whole) × ((j : ℕ) → j < l.k → get_or l.byte-items j 0 ≡ packed_byte w l.self j)
