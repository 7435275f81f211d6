-- `words::any_above` meets its contract. Assumes nothing.
use Rattle.std.proofs.Common.{◌≡◌}
use Rattle.std.specs.Prelude.{ltb, get_or}
use Rattle.words.specs.Lists.{any_below}
use Rattle.words.proofs.any_above.Given as goal

abbrev pub invariant-loop-x : goal.invariant-loop-x
invariant-loop-x l = ltb l.top l.most ≡ any_below l.x-index (λ j. ltb l.top (get_or l.s j 0))
