-- `words::any_above` meets its contract. Assumes nothing.
use native.Mathlib.Omega.{arith}
use Rattle.std.proofs.Common.{◌≡◌, ◌∙◌, ap, rules, length}
use Rattle.std.specs.Prelude.{ltb}
use Rattle.words.specs.Lists.{any_above}
use Rattle.words.proofs.ListLaws.{above-none, above_more}
use Rattle.words.proofs.any_above.Goals as goal

pub loop-x-init : goal.loop-x-init
loop-x-init c = above-none c.args.top c.args.s.now

pub loop-x-preserved : goal.loop-x-preserved
loop-x-preserved c = let l = c.loop-x in above_more c.args.top c.args.s.now l.x-index l.most _ l.invariant (search rules)

pub returns : goal.returns
unfolding any_above
returns c = let l = c.loop-x in let e : l.x-index ≡ length c.args.s.now = omega arith in ap (ltb c.args.top) c.from.ensures ∙ (rw e at l.invariant)
