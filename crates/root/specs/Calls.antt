-- What the call of module 3 answers: the smallest refusal that holds, or 0, and the bytes of the buffer after it.
use Rattle.std.specs.Prelude.{ℕ, cond, List, Float, is_none}
use Rattle.std.specs.Float.{nan}
use Rattle.std.specs.Option.{unwrap_or}
use Rattle.words.specs.Bytes.{float_bytes}
use Rattle.words.specs.Refusals.{answer, bad_length}
use Rattle.root.specs.Root.{root_of}

-- BAD_LENGTH, MISSING
unfoldable pub root_number : Float → List ℕ → ℕ
root_number x out = cond (bad_length out 4) 3 (cond (is_none (root_of x)) 4 0)

unfoldable pub root_answer : Float → List ℕ → ℕ × List ℕ
root_answer x out = answer (root_number x out) out (float_bytes (unwrap_or (root_of x) nan))
