-- `estimate::ready::Ready::put_estimates` meets its contract. Assumes nothing.
use Rattle.estimate.proofs.EstimateLaws.{Written}
use Rattle.estimate.proofs.ready.Ready.put_estimates.Given as goal

abbrev pub invariant-loop-k : goal.invariant-loop-k
invariant-loop-k g l = Written l.asked l.p.m l.p.v l.p.codes.now l.block l.out l.k
