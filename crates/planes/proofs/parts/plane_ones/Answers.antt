-- `planes::parts::plane_ones` meets its contract. Assumes nothing.
use mathlib.Core.Path.{◌≡◌, ◌∙◌, ap, ap₂, sym}
use Prim.Native.Nat.{ℕ, ◌+◌, ◌*◌, zero-le}
use native.Mathlib.Omega.{arith}
use lib.Bits.{bit_and}
use lib.Count.{ones}
use lib.ListN.{get_or, length}
use Rattle.words.specs.Bytes.{num_at}
use Rattle.words.specs.Sums.{sum_to}
use Rattle.words.proofs.SumLaws.{sum-none, sum_more}
use Rattle.planes.proofs.parts.plane_ones.Goals as goal

pub loop-w-init : goal.loop-w-init
loop-w-init c = (sym (sum-none _), zero-le)

pub loop-w-preserved : goal.loop-w-preserved
loop-w-preserved c =
    let a = c.args in
    let l = c.loop-w in (
      ap₂ (λ (x y : ℕ). x + y) l.invariant.0
          (c.shared-r.ensures.0 ∙ ap (λ (x : ℕ). ones (bit_and x (get_or a.plane.now l.w 0))) c.u64_at.ensures) ∙ sym
          (sum_more l.w _),
      omega arith,
    )

pub returns : goal.returns
returns c =
    let a = c.args in
    let e : c.loop-w.w ≡ length a.plane.now = omega arith in
    (c.loop-w.invariant.0 ∙ ap (λ (k : ℕ). sum_to k (λ i. ones (bit_and (num_at 8 a.words.now (8 * i)) (get_or a.plane.now i 0)))) e, omega arith)
