-- `words::u32_at` meets its contract. Assumes nothing.
use native.Mathlib.Omega.{arith}
use Rattle.std.proofs.Common.{◌∙◌, ◌+◌, ◌-◌}
use Rattle.words.specs.Bytes.{num_at}
use Rattle.words.proofs.ByteLaws.{le_number, num_part}
use Rattle.words.proofs.u32_at.Goals as goal

pub returns : goal.returns
unfolding num_at
returns c =
    let a = c.args in
    (c.from_le_bytes.ensures ∙ le_number _ _ _ _) ∙ num_part 4 (a.at + 4 - a.at) a.at a.s.now (omega arith)
