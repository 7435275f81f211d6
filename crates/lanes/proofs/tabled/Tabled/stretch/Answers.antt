-- `lanes::tabled::Tabled::stretch` meets its contract. Assumes nothing.
use Rattle.std.proofs.Common.{◌≡◌, ◌+◌, ◌*◌, arith, refl, replicate}
use Rattle.lanes.specs.Parts.{Sixteen}
use Rattle.lanes.proofs.LaneLaws.{sixteen_none, sixteen_fit, sixteen_more, lanes_of}
use Rattle.lanes.proofs.tabled.Tabled.stretch.Goals as goal

pub loop-i-init : goal.loop-i-init
loop-i-init c = let s = c.args.self.now in (sixteen_none s.codes.now s.block.now 0 c.args.g, sixteen_none s.codes.now s.block.now 16 c.args.g)

pub widened-low-requires : goal.widened-low-requires
widened-low-requires c =
    let s = c.args.self.now in
    sixteen_fit s.codes.now s.block.now 0 c.args.g (4 * c.loop-i.i) 4 c.loop-i.invariant.0 c.part.ensures.low s.ready.query (omega arith)

pub widened-high-requires : goal.widened-high-requires
widened-high-requires c =
    let s = c.args.self.now in
    sixteen_fit s.codes.now s.block.now 16 c.args.g (4 * c.loop-i.i) 4 c.loop-i.invariant.1 c.part.ensures.high s.ready.query (omega arith)

pub loop-i-preserved : goal.loop-i-preserved
loop-i-preserved c =
    let s = c.args.self.now in
    let i = c.loop-i.i in
    let e : 4 * (i + 1) ≡ 4 * i + 4 = omega arith in
    rw e (
      sixteen_more s.codes.now s.block.now 0 c.args.g (4 * i) 4 c.loop-i.invariant.0 c.part.ensures.low c.widened-low.ensures,
      sixteen_more s.codes.now s.block.now 16 c.args.g (4 * i) 4 c.loop-i.invariant.1 c.part.ensures.high c.widened-high.ensures,
    )

pub widened-low-requires-in-loop-i-2 : goal.widened-low-requires-in-loop-i-2
widened-low-requires-in-loop-i-2 c =
    let s = c.args.self.now in
    sixteen_fit s.codes.now s.block.now 0 c.args.g c.loop-i-2.i 1 c.loop-i-2.invariant.0 c.part-in-loop-i-2.ensures.low s.ready.query (omega arith)

pub widened-high-requires-in-loop-i-2 : goal.widened-high-requires-in-loop-i-2
widened-high-requires-in-loop-i-2 c =
    let s = c.args.self.now in
    sixteen_fit s.codes.now s.block.now 16 c.args.g c.loop-i-2.i 1 c.loop-i-2.invariant.1 c.part-in-loop-i-2.ensures.high s.ready.query (omega arith)

pub loop-i-2-preserved : goal.loop-i-2-preserved
loop-i-2-preserved c =
    let s = c.args.self.now in
    let i = c.loop-i-2.i in
    let part = c.part-in-loop-i-2.ensures in (
      sixteen_more s.codes.now s.block.now 0 c.args.g i 1 c.loop-i-2.invariant.0 part.low c.widened-low-in-loop-i-2.ensures,
      sixteen_more s.codes.now s.block.now 16 c.args.g i 1 c.loop-i-2.invariant.1 part.high c.widened-high-in-loop-i-2.ensures,
    )

pub returns : goal.returns
returns c =
    let s = c.args.self.now in
    let l = c.loop-i-2 in
    let e : l.i ≡ c.args.m = omega arith in
    let low : Sixteen s.codes.now s.block.now 0 c.args.g c.args.m l.low = rw e at l.invariant.0 in
    let high : Sixteen s.codes.now s.block.now 16 c.args.g c.args.m l.high = rw e at l.invariant.1 in
    lanes_of s.codes.now s.block.now c.args.g c.args.m (replicate 16 0) low high c.copy_from_slice.ensures.after c.copy_from_slice-2.ensures.after refl
