-- The loop's invariant: the first i bytes are those of the code.
use mathlib.Core.Path.{◌≡◌}
use Prim.Native.Nat.{ℕ, ◌<◌}
use lib.ListN.{length, get_or}
use Rattle.code.specs.Code.{code_size, code_byte, sign_clear}
use Rattle.code.proofs.vector.Vector.encode.Given as goal

abbrev pub invariant-loop-i : goal.invariant-loop-i
invariant-loop-i l =
    (length l.code ≡ code_size l.self.dims)
    × ((j : ℕ) → j < l.i → get_or l.code j 0 ≡ code_byte l.self.dims (λ k. get_or l.factors k 0) (sign_clear l.self.bytes) j)
