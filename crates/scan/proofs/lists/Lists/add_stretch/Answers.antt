-- `scan::lists::Lists::add_stretch` meets its contract. Assumes nothing.
use mathlib.Core.Path.{ap, ◌∙◌}
use Prim.Native.Nat.{◌+◌, min}
use native.Mathlib.Omega.{arith}
use lib.ListN.{length}
use Rattle.scan.specs.Lists.{Places}
use Rattle.scan.specs.Parts.{stretch_places}
use Rattle.scan.proofs.ScanLaws.{scan_few, least_more}
use Rattle.scan.proofs.lists.Lists.add_stretch.Goals as goal

pub overflow_add-result : goal.overflow_add-result
overflow_add-result c =
    let e = ap (λ (l : Places). length l.marks) c.self.view_is in
    omega (arith, scan_few _ _ _ c.requires.1, c.from.ensures, c.count_marks-counts.ensures.few_bad, c.self.invariant.most, e)

pub overflow_add-result-2 : goal.overflow_add-result-2
overflow_add-result-2 c =
    let e = ap (λ (l : Places). length l.marks) c.self.view_is in
    omega (arith, scan_few _ _ _ c.requires.1, c.from-2.ensures, c.count_marks-counts.ensures.few, c.self.invariant.most, e)

pub returns : goal.returns
returns c =
    let s = c.requires.1 in
    let counts = c.count_marks-counts.ensures in
    let keys = c.add_keys-keys.ensures in
    let e = ap (λ (l : Places). min (length l.marks) (c.args.from + stretch_places)) c.self.view_is in
    rw (← (c.min-to.ensures ∙ e))
    record {
      missing = keys.missing;
      bad = omega (arith, s.bad, counts.bad_is, c.from.ensures);
      count = omega (arith, s.count, counts.count_is, c.from-2.ensures);
      waiting = least_more _ _ _ _ _ _ (omega (arith, counts.few)) s.waiting keys.waiting c.with.ensures.key c.with.ensures.from;
      asked = least_more _ _ _ _ _ _ (omega (arith, counts.few)) s.asked keys.asked c.with-2.ensures.key c.with-2.ensures.from;
    }
