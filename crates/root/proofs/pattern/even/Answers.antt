-- `root::pattern::even` meets its contract: FieldLaws. Assumes nothing.
use native.Mathlib.Omega.{arith}
use Rattle.root.proofs.FieldLaws.{at_even, at-odd}
use Rattle.root.proofs.pattern.even.Goals as goal

pub returns-then-p-eq0 : goal.returns-then-p-eq0
returns-then-p-eq0 c = at_even c.args.p.m c.args.p.e c.requires (omega arith)

pub returns : goal.returns
returns c = at-odd c.args.p.m c.args.p.e c.requires (omega arith)
