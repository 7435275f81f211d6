-- `planes::parts::word` meets its contract. Assumes nothing.
use mathlib.Core.Path.{◌≡◌}
use Prim.Native.Nat.{◌+◌, ◌*◌}
use lib.ListN.{get_or}
use Rattle.words.specs.Digits.{join}
use Rattle.planes.proofs.parts.word.Given as goal

abbrev pub invariant-loop-k : goal.invariant-loop-k
invariant-loop-k l = l.r ≡ join 4 l.k (λ i. join 1 4 (λ j. get_or l.d (4 * i + j) 0))
