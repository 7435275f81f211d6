-- `scalar::parts::code::encode_bits` meets its contract, over the width. Assumes nothing.
use Prim.Native.Nat.{ℕ, ◌<◌}
use mathlib.Core.Path.{◌≡◌}
use lib.ListN.{length, get_or}
use Rattle.digits.specs.Digits.{packed_byte, top}
use Rattle.scalar.specs.Code.{codes_of}
use Rattle.scalar.proofs.parts.code.encode_bits.Given as goal

abbrev pub invariant-loop-k : goal.invariant-loop-k
invariant-loop-k g l =
    let w = g.row.BITS in let v = l.v in
    (length l.byte-items ≡ l.whole)
    × ((j : ℕ) → j < l.k → get_or l.byte-items j 0 ≡ packed_byte w (codes_of (top w) v.dims v.vector v.lo v.hi) j)
