-- `rerank::rule_on` meets its contract. Assumes nothing.
use Rattle.rerank.proofs.FoundLaws.{missing_refused, bad_refused}
use Rattle.rerank.proofs.CallLaws.{accepting, count_is}
use Rattle.rerank.proofs.rule_on.Goals as goal

pub returns-then-s-gt0 : goal.returns-then-s-gt0
returns-then-s-gt0 c = missing_refused _ _ c.scan-s.ensures.scanned c.if-s-gt0.true

pub returns-then-s-gt0-2 : goal.returns-then-s-gt0-2
returns-then-s-gt0-2 c = bad_refused _ _ c.scan-s.ensures.scanned c.if-s-gt0.false c.if-s-gt0-2.true

pub choose-requires : goal.choose-requires
choose-requires c = accepting _ c.scan-s.ensures.sized _ c.scan-s.ensures.scanned c.if-s-gt0.false c.if-s-gt0-2.false

pub returns : goal.returns
returns c =
    let scan = c.scan-s.ensures in
    let missing = c.if-s-gt0.false in
    let bad = c.if-s-gt0-2.false in
    ((accepting _ scan.sized _ scan.scanned missing bad).accepted, c.choose.ensures, count_is _ scan.sized _ scan.scanned missing bad)
