-- `block::parts::cleared` meets its contract. Assumes nothing.
use mathlib.Core.Path.{sym, ap, ◌∙◌}
use Prim.Native.Nat.{ℕ, ◌%◌, ◌-◌, ◌^◌}
use native.Mathlib.Omega.{arith}
use native.Mathlib.Nat.{min-eq_right, one-mul}
use lib.Bits.{bit_and, and_mask}
use lib.Pow.{shl_exact, pow_pos}
use lib.Dec.{lit<}
use Rattle.block.proofs.parts.cleared.Goals as goal

pub overflow_sub-result : goal.overflow_sub-result
overflow_sub-result c =
    let k = c.args.left in
    omega (arith, shl_exact {a = 1} 1 k 8 (lit< tt) (omega arith), pow_pos k)

pub returns : goal.returns
returns c =
    let x = c.args.x in
    let k = c.args.left in
    ap (λ (m : ℕ). bit_and x (m - 1)) (shl_exact {a = 1} 1 k 8 (lit< tt) (omega arith) ∙ one-mul (2 ^ k))
    ∙ and_mask x k ∙ ap (λ (m : ℕ). x % 2 ^ m) (sym (min-eq_right (omega arith)))
