-- `words::u64_at` meets its contract. Assumes nothing.
use native.Mathlib.Omega.{arith}
use Rattle.words.proofs.ByteLaws.{num_8}
use Rattle.words.proofs.u64_at.Goals as goal

pub returns : goal.returns
returns c = rw num_8 (omega arith)
