-- The loop's invariant: the byte has the first j digits.
use mathlib.Core.Path.{◌≡◌}
use Prim.Native.Nat.{ℕ, ◌+◌, ◌*◌}
use Rattle.words.specs.Digits.{join, kept}
use Rattle.code.specs.Code.{sign_clear}
use Rattle.code.specs.Parts.{OfDims}
use Rattle.code.proofs.vector.Vector.signs.Given as goal

-- the digits that the loop puts together
abbrev pub digit : OfDims → ℕ → ℕ → ℕ
digit v i j = kept v.dims (sign_clear v.bytes) (8 * i + j)

abbrev pub invariant-loop-j : goal.invariant-loop-j
invariant-loop-j l = l.byte ≡ join 1 l.j (digit l.self l.i)
