-- `walk::wanted::record_at` meets its contract. Assumes nothing.
use mathlib.Core.Path.{◌≡◌, ap, ◌∙◌}
use Prim.Native.Nat.{ℕ, ◌+◌, ◌-◌, ◌*◌}
use native.Mathlib.Omega.{arith}
use lib.ListN.{length, take, drop, length-take, length-drop}
use Rattle.words.specs.Lists.{record_of}
use Rattle.walk.proofs.wanted.record_at.Goals as goal

pub returns : goal.returns
unfolding record_of
returns c =
    let a = c.args in
    let at = a.size * a.i in
    let s = drop at a.records.now in
    let e : at + a.size - at ≡ a.size = omega arith in
    let p = ap (λ (x : ℕ). take x s) e in
    (p, ap length p ∙ omega (arith, length-take a.size s, length-drop at a.records.now, c.requires))
