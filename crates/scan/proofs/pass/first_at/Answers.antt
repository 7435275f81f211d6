-- `scan::pass::first_at` meets its contract. Assumes nothing.
use native.Mathlib.Omega.{arith}
use Rattle.std.proofs.Common.{◌≡◌, sym, ◌∙◌, below_more}
use Rattle.scan.specs.Parts.{key_at}
use Rattle.scan.proofs.pass.first_at.Goals as goal
use Rattle.scan.proofs.pass.first_at.Goals.{After-key_if}

-- the key of the place that is looked at
here : (c : After-key_if) → c.key_if.result ≡ key_at c.args.mark c.args.list.now c.args.marks.now c.loop-i.i
unfolding key_at
here c = rw c.u32_at.ensures at c.key_if.ensures

pub returns-then-key_if-least : goal.returns-then-key_if-least
returns-then-key_if-least c =
    let h = here (goal.at.returns-then-key_if-least c).After-key_if in
    (c.loop-i-test.true, sym h ∙ c.if-key_if-least.true, λ q f l. c.loop-i.invariant q l f)

pub loop-i-preserved : goal.loop-i-preserved
loop-i-preserved c =
    let h = here (goal.at.loop-i-preserved c).After-key_if in below_more _ _ c.loop-i.invariant (λ _ e. c.if-key_if-least.false (h ∙ e))

pub returns : goal.returns
returns c = λ q f l. c.loop-i.invariant q (omega (arith, l, c.loop-i-test.false)) f
