-- `scan::lists::Lists::scan` meets its contract. Assumes nothing.
use mathlib.Core.Path.{◌≡◌, refl, ap}
use Prim.Native.Nat.{min}
use native.Mathlib.Omega.{arith}
use lib.ListN.{length}
use Rattle.std.proofs.Math.Nat.{min-zero}
use Rattle.scan.specs.Lists.{Places}
use Rattle.scan.proofs.ScanLaws.{scan_none}
use Rattle.scan.proofs.lists.Lists.scan.Goals as goal

pub loop-from-init : goal.loop-from-init
loop-from-init c = rw (min-zero (length c.args.self.now.marks)) (scan_none _ _ refl refl refl refl refl refl refl)

pub add_stretch-s-requires : goal.add_stretch-s-requires
add_stretch-s-requires c =
    let e = ap (λ (l : Places). length l.marks) c.self.view_is in
    let at : min (length c.args.self.now.marks) c.loop-from.from ≡ c.loop-from.from = omega (arith, e) in
    (omega (arith, e), rw at at c.loop-from.invariant)

pub loop-from-smaller : goal.loop-from-smaller
loop-from-smaller c = omega arith

pub loop-from-preserved : goal.loop-from-preserved
loop-from-preserved c = c.add_stretch-s.ensures

pub returns-clause-scanned : goal.returns-clause-scanned
returns-clause-scanned c =
    let e = ap (λ (l : Places). length l.marks) c.self.view_is in
    let at : min (length c.args.self.now.marks) c.loop-from.from ≡ length c.args.self.now.marks = omega (arith, e) in
    rw at at c.loop-from.invariant

pub returns-clause-sized : goal.returns-clause-sized
returns-clause-sized c = rw (← c.self.view_is) c.self.invariant
