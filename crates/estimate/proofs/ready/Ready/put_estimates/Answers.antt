-- `estimate::ready::Ready::put_estimates` meets its contract. Assumes nothing.
use mathlib.Core.Path.{◌≡◌}
use Prim.Native.Nat.{◌+◌}
use native.Mathlib.Omega.{arith}
use Rattle.words.proofs.WordsLaws.{words_none}
use Rattle.estimate.proofs.EstimateLaws.{lane_more, lanes_written}
use Rattle.estimate.proofs.ready.Ready.put_estimates.Goals as goal

pub loop-k-init : goal.loop-k-init
loop-k-init g c = (c.requires.sums.1, words_none c.args.out.now _)

pub loop-k-preserved : goal.loop-k-preserved
loop-k-preserved g c =
    let k = c.loop-k.k in
    let r = c.requires.reads in
    lane_more _ _ _ _ _ c.args.s.now _ _ k _ _ _ _ _ c.requires.sums.0 c.loop-k.invariant c.loop-k-test.true (r k _ (omega arith) c.float.ensures)
    (r (32 + k) _ (omega arith) c.float-in-loop-k.ensures) (r (64 + k) _ (omega arith) c.float-in-loop-k-2.ensures)
    (r (96 + k) _ (omega arith) c.float-in-loop-k-3.ensures) (rw c.args.self.now.summed at c.estimate.ensures) c.put_f32.ensures

pub returns : goal.returns
returns g c =
    let e : c.loop-k.k ≡ 32 = omega arith in
    let a = c.args in
    let p = a.self.now in
    lanes_written a.asked p.m p.v p.codes.now a.block.now c.loop-k.out (rw e at c.loop-k.invariant)
