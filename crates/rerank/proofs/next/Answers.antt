-- `rerank::next` meets its contract. Assumes nothing.
use Rattle.std.proofs.lemmas.Result.{err_from_is_err_and}
use Rattle.rerank.proofs.CallLaws.{next_refused, next-place, next-accepted}
use Rattle.rerank.proofs.next.Goals as goal

pub returns-in_err-ruling : goal.returns-in_err-ruling
returns-in_err-ruling c =
    let lists = c.in_ok-lists.ensures in
    let p = err_from_is_err_and c.from_residual-in_err-ruling.result c.from_residual-in_err-ruling.ensures.1 in
    rw (p.1, p.2) (next_refused _ _ _ _ lists.refused c.in_ok-has_length.ensures.refused _ (rw lists.lists at c.in_err-ruling.ensures))

pub mark_given-requires : goal.mark_given-requires
mark_given-requires c =
    let lists = c.in_ok-lists.ensures in
    next-place _ _ _ _ lists.refused c.in_ok-has_length.ensures.refused _ (rw lists.lists at c.in_ok-ruling.ensures)

pub returns : goal.returns
returns c =
    let lists = c.in_ok-lists.ensures in
    let ruled = rw lists.lists at c.in_ok-ruling.ensures in
    next-accepted _ _ _ _ lists.refused c.in_ok-has_length.ensures.refused _ ruled _ _ c.mark_given.ensures c.put_answer.ensures
