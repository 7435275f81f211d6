-- `walk::walk` meets its contract. Assumes nothing.
use Rattle.std.proofs.Common.{rules, ◌≡◌, sym, ◌≤◌}
use native.Mathlib.Omega.{arith}
use Rattle.words.specs.Refusals.{bad_length}
use Rattle.estimate.specs.Calls.{query_number}
use Rattle.walk.specs.Walk.{bad_lengths, bad_records, bad_outs}
use Rattle.walk.proofs.AnswerLaws.{first_number, empty_range}
use Rattle.walk.proofs.walk.Goals as goal

pub returns-then-c-eq0 : goal.returns-then-c-eq0
unfolding first_number query_number bad_lengths bad_records bad_outs bad_length
returns-then-c-eq0 c =
    let a = c.args in
    let empty : a.end ≤ a.start = omega (arith, c.saturating_sub-c.ensures, c.if-c-eq0.true) in
    let ok : first_number a.metric a.layout a.dims a.v a.q.now a.records.now a.n a.start a.end a.ids.now a.bounds.now a.marks.now a.count.now ≡ 0 = search rules in
    rw c.put_number.ensures (sym (empty_range a.metric a.layout a.dims a.v a.q.now a.records.now a.n a.start a.end a.ids.now a.bounds.now a.marks.now a.count.now empty ok))
