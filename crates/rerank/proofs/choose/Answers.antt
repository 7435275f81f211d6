-- `rerank::choose` meets its contract. Assumes nothing.
use native.Mathlib.Omega.{arith}
use Rattle.rerank.proofs.ChoiceLaws.{waiting_of, asked_of, says_ask, says-done, says_give}
use Rattle.rerank.proofs.choose.Goals as goal

pub returns-in-None-None : goal.returns-in-None-None
returns-in-None-None c =
    let pre = c.requires in
    let at = c.in-None-None in
    says-done _ _ pre (waiting_of _ _ pre _ _ at.is-0 c.waiting.ensures) (asked_of _ _ pre _ _ at.is-1 c.asked.ensures)

pub returns-in-None-Some : goal.returns-in-None-Some
returns-in-None-Some c =
    let pre = c.requires in
    let at = c.in-None-Some in
    let w = waiting_of _ _ pre _ _ at.is-0 c.waiting.ensures in
    let a = asked_of _ _ pre _ _ at.is-1 c.asked.ensures in
    says_give _ _ pre _ a (omega (arith, w, a.0)) _ c.give.ensures

pub returns-in-Some-None : goal.returns-in-Some-None
returns-in-Some-None c =
    let pre = c.requires in
    let at = c.in-Some-None in
    let w = waiting_of _ _ pre _ _ at.is-0 c.waiting.ensures in
    let a = asked_of _ _ pre _ _ at.is-1 c.asked.ensures in
    says_ask _ _ pre _ w (omega (arith, w.0, a)) _ c.ask.ensures

pub returns-then-w-a : goal.returns-then-w-a
returns-then-w-a c =
    let pre = c.requires in
    let at = c.in-Some-Some in
    let w = waiting_of _ _ pre _ _ at.is-0 c.waiting.ensures in
    let a = asked_of _ _ pre _ _ at.is-1 c.asked.ensures in
    says_ask _ _ pre _ w (omega (arith, c.if-w-a.true, a.1.key)) _ c.ask-then-w-a.ensures

pub returns-else-w-a : goal.returns-else-w-a
returns-else-w-a c =
    let pre = c.requires in
    let at = c.in-Some-Some in
    let w = waiting_of _ _ pre _ _ at.is-0 c.waiting.ensures in
    let a = asked_of _ _ pre _ _ at.is-1 c.asked.ensures in
    says_give _ _ pre _ a (omega (arith, c.if-w-a.false, w.1.key)) _ c.give-else-w-a.ensures
