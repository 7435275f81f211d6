-- `planes::parts::nibble` meets its contract. Assumes nothing.
use mathlib.Core.Path.{ap, ◌∙◌}
use Prim.Native.Nat.{ℕ, ◌+◌, ◌*◌, ◌/◌, ◌%◌}
use native.Mathlib.Omega.{arith}
use lib.ListN.{get_or}
use Rattle.planes.proofs.WordLaws.{fold_four, four_bytes, four_digits}
use Rattle.planes.proofs.parts.nibble.Goals as goal

pub returns : goal.returns
returns c =
    let d = c.args.d.now in
    let k = 4 * c.args.k in
    let two = c.requires.1 in (
      ap (λ (x : ℕ). x * 0x20_4081 / 0x20_0000 % 16) (c.from.ensures ∙ c.u32_at.ensures ∙ four_bytes d k) ∙ fold_four (get_or d k 0) (get_or d (k + 1) 0) (get_or d (k + 2) 0)
          (get_or d (k + 3) 0) (two k) (two (k + 1)) (two (k + 2)) (two (k + 3)) ∙ four_digits d k,
      omega arith,
    )
