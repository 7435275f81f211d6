-- `digits::parts::Codes::some` meets its contract. Assumes nothing.
use Prim.Native.Nat.{◌+◌}
use mathlib.Core.Path.{◌≡◌}
use lib.ListN.{get_or}
use Rattle.words.specs.Digits.{join}
use Rattle.digits.proofs.parts.Codes.some.Given as goal

abbrev pub invariant-loop-j : goal.invariant-loop-j
invariant-loop-j g l = l.byte ≡ join g.row.BITS l.j (λ j. get_or l.self (l.at + j) 0)
