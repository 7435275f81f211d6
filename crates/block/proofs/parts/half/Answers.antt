-- `block::parts::half` meets its contract. Assumes nothing.
use mathlib.Core.Path.{◌≡◌, sym, ap, ◌∙◌}
use Prim.Native.Nat.{ℕ, ◌/◌, ◌%◌, ◌^◌, ◌<◌}
use native.Mathlib.Omega.{arith}
use native.Mathlib.Nat.{div-one, mod-eq_of_lt}
use Rattle.block.proofs.parts.half.Goals as goal

pub returns-then-g-eq0 : goal.returns-then-g-eq0
returns-then-g-eq0 c =
    let x = c.args.x in
    (sym (ap (λ (k : ℕ). x / 16 ^ k % 16) c.if-g-eq0.true ∙ ap (λ (k : ℕ). k % 16) (div-one x)), omega arith)

pub returns-else-g-eq0 : goal.returns-else-g-eq0
returns-else-g-eq0 c =
    let x = c.args.x in
    let odd : c.args.g % 2 ≡ 1 = omega arith in
    let small : x / 16 < 16 = omega (arith, c.ranges.x) in
    (sym (ap (λ (k : ℕ). x / 16 ^ k % 16) odd ∙ mod-eq_of_lt small), small)
