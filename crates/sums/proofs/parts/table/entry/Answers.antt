-- `sums::parts::table::entry` meets its contract. Assumes nothing.
use Rattle.std.proofs.Common.{◌≡◌, ℕ, ◌+◌, ◌*◌, ◌≤◌, sym, ap, ap₂, ◌∙◌, arith, get_or}
use native.Mathlib.Nat.{mul-le-mul}
use Rattle.words.specs.Digits.{bit}
use Rattle.words.specs.Sums.{sum_to}
use Rattle.words.proofs.SumLaws.{sum_ext, sum-none, sum_more}
use Rattle.sums.specs.Sums.{group_sum}
use Rattle.sums.proofs.parts.table.entry.Goals as goal

pub loop-b-init : goal.loop-b-init
loop-b-init c = (sym (sum-none _), omega arith)

pub loop-b-preserved : goal.loop-b-preserved
loop-b-preserved c =
    let l = c.loop-b in
    let small : get_or c.args.codes.now l.b 0 ≤ 15 = c.requires l.b (omega arith) in
    let digit : c.digit.result ≡ bit c.args.m l.b = grind arith in
    let one : c.digit.result ≤ 1 = omega arith in (
      ap₂ (λ (x y : ℕ). x + y) l.invariant.0 (ap (λ (y : ℕ). get_or c.args.codes.now l.b 0 * y) digit) ∙ sym (sum_more l.b _),
      omega (arith, mul-le-mul small one),
    )

pub returns : goal.returns
unfolding group_sum
returns c =
    let e : c.loop-b.b ≡ 4 = omega arith in
    c.loop-b.invariant.0 ∙ ap (λ (n : ℕ). sum_to n (λ b. get_or c.args.codes.now b 0 * bit c.args.m b)) e
    ∙ sum_ext 4 _ _ (λ b _. let i : b ≡ 4 * 0 + b = omega arith in ap (λ (x : ℕ). get_or c.args.codes.now x 0 * bit c.args.m b) i)
