-- `words::any_from` meets its contract. Assumes nothing.
use mathlib.Core.Path.{◌≡◌, sym}
use native.Mathlib.Omega.{arith}
use Rattle.words.proofs.ListLaws.{any_none, any_more}
use Prim.Native.Nat.{zero-le}
use Rattle.words.proofs.any_from.Goals as goal

pub loop-i-init : goal.loop-i-init
loop-i-init c = (zero-le, sym (any_none _))

pub loop-i-preserved : goal.loop-i-preserved
loop-i-preserved c =
    let l = c.loop-i in (omega arith, any_more _ l.i l.count _ l.invariant.1 (rw c.u32_at.ensures at c.reaches-count.ensures.0))

pub returns : goal.returns
returns c = let l = c.loop-i in let e : l.i ≡ c.args.n = omega arith in rw (sym e) l.invariant.1
