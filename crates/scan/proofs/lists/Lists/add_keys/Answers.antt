-- `scan::lists::Lists::add_keys` meets its contract. Assumes nothing.
use mathlib.Core.Path.{refl, ap}
use native.Mathlib.Omega.{arith}
use lib.ListN.{length}
use Rattle.scan.specs.Lists.{Places}
use Rattle.scan.proofs.ScanLaws.{keys_few, keys_more}
use Rattle.scan.proofs.lists.Lists.add_keys.Goals as goal

pub with-keys-requires : goal.with-keys-requires
with-keys-requires c =
    let e = ap (λ (l : Places). length l.marks) c.self.view_is in
    omega (arith, keys_few _ _ _ c.loop-i.invariant, c.self.invariant.most, e)

pub loop-i-preserved : goal.loop-i-preserved
loop-i-preserved c =
    let more = c.with-keys.ensures in
    keys_more _ _ _ _ _ _ _ c.loop-i.invariant refl c.u32_at-estimate.ensures c.u32_at-distance.ensures more.missing more.waiting more.asked
