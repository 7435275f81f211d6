-- `root::pattern::take_apart` meets its contract: FieldLaws. Assumes nothing.
use native.Mathlib.Omega.{arith}
use Rattle.root.proofs.FieldLaws.{shift, below, from}
use Rattle.root.proofs.pattern.take_apart.Goals as goal

pub overflow_sub-s : goal.overflow_sub-s
overflow_sub-s c = (shift c.args.b c.requires.0 c.if-b-lt8388608.true).0

pub overflow_shl-result : goal.overflow_shl-result
overflow_shl-result c = omega (arith, (shift c.args.b c.requires.0 c.if-b-lt8388608.true).1)

pub overflow_sub-result : goal.overflow_sub-result
overflow_sub-result c = omega (arith, c.from-then-b-lt8388608.ensures, (shift c.args.b c.requires.0 c.if-b-lt8388608.true).1)

pub returns-then-b-lt8388608 : goal.returns-then-b-lt8388608
returns-then-b-lt8388608 c =
    rw (c.from.ensures, c.from-then-b-lt8388608.ensures) (below c.args.b c.requires.0 c.if-b-lt8388608.true)

pub returns : goal.returns
returns c = rw (c.from-2.ensures, c.from-3.ensures) (from c.args.b c.if-b-lt8388608.false c.requires.1)
