-- `rerank::supply` meets its contract. Assumes nothing.
use mathlib.Core.Path.{◌≡◌, refl, sym}
use Prim.Native.Nat.{◌+◌, ◌*◌, ◌<◌, ◌≤◌}
use lib.ListN.{length}
use Rattle.std.proofs.lemmas.Result.{err_from_is_err_and}
use Rattle.words.specs.Limits.{most_places}
use native.Mathlib.Omega.{arith}
use Rattle.rerank.proofs.CallLaws.{supply-nan, supply_refused, supply-unasked, supply-room, supply-accepted}
use Rattle.rerank.proofs.supply.Goals as goal
use Rattle.rerank.proofs.supply.Goals.{Else-not-asks_for}

room : (c : Else-not-asks_for) → let a = c.args in
    (a.place < length a.marks.now) × (4 * a.place + 4 ≤ length a.distances.now) × (length a.out.now ≡ 4)
    × (c.in_ok-ruling.ruling.count + 1 ≤ most_places)
room c =
    let lists = c.in_ok-lists.ensures.refused in
    let number = sym c.if-is_nan.ensures.value in
    let ruled = rw c.in_ok-lists.ensures.lists at c.in_ok-ruling.ensures in
    supply-room _ _ _ _ _ _ lists c.in_ok-has_length.ensures.refused number _ ruled (sym c.if-not-asks_for.ensures)

pub returns-then-is_nan : goal.returns-then-is_nan
returns-then-is_nan c = supply-nan _ _ _ _ _ _ c.in_ok-lists.ensures.refused c.in_ok-has_length.ensures.refused (sym c.if-is_nan.ensures.value)

pub returns-in_err-ruling : goal.returns-in_err-ruling
returns-in_err-ruling c =
    let lists = c.in_ok-lists.ensures.refused in
    let p = err_from_is_err_and c.from_residual-in_err-ruling.result c.from_residual-in_err-ruling.ensures.1 in
    let number = sym c.if-is_nan.ensures.value in
    rw (p.1, p.2) (supply_refused _ _ _ _ _ _ lists c.in_ok-has_length.ensures.refused number _ (rw c.in_ok-lists.ensures.lists at c.in_err-ruling.ensures))

pub returns-then-not-asks_for : goal.returns-then-not-asks_for
returns-then-not-asks_for c =
    let lists = c.in_ok-lists.ensures.refused in
    let number = sym c.if-is_nan.ensures.value in
    let ruled = rw c.in_ok-lists.ensures.lists at c.in_ok-ruling.ensures in
    supply-unasked _ _ _ _ _ _ lists c.in_ok-has_length.ensures.refused number _ ruled (sym c.if-not-asks_for.ensures)

pub put_f32-requires : goal.put_f32-requires
put_f32-requires c = (room (goal.at.put_f32-requires c).Else-not-asks_for).1

pub bounds-marks-at : goal.bounds-marks-at
bounds-marks-at c = (room (goal.at.bounds-marks-at c).Else-not-asks_for).0

pub overflow_add-ruling : goal.overflow_add-ruling
overflow_add-ruling c = omega (arith, (room (goal.at.overflow_add-ruling c).Else-not-asks_for).3)

pub returns : goal.returns
returns c =
    let lists = c.in_ok-lists.ensures.refused in
    let fits = c.in_ok-has_length.ensures.refused in
    let number = sym c.if-is_nan.ensures.value in
    let asked = sym c.if-not-asks_for.ensures in
    let ruled = rw c.in_ok-lists.ensures.lists at c.in_ok-ruling.ensures in
    supply-accepted _ _ _ _ _ _ lists fits number _ ruled asked _ _ _ c.put_f32.ensures refl c.put_number.ensures
