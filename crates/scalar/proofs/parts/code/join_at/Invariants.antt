-- `scalar::parts::code::join_at` meets its contract. Assumes nothing.
use Prim.Native.Nat.{◌+◌}
use mathlib.Core.Path.{◌≡◌}
use Rattle.words.specs.Digits.{join}
use Rattle.digits.specs.Digits.{top}
use Rattle.scalar.specs.Code.{dimension_code}
use Rattle.scalar.proofs.parts.code.join_at.Given as goal

abbrev pub invariant-loop-j : goal.invariant-loop-j
invariant-loop-j g l =
    let w = g.row.BITS in l.byte ≡ join w l.j (λ j. dimension_code (top w) l.v.vector l.v.lo l.v.hi (l.at + j))
