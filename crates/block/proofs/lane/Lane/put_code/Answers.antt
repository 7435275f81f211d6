-- `block::Lane::put_code` meets its contract. Assumes nothing.
use native.Mathlib.Omega.{arith}
use lib.ListN.{length-set}
use Rattle.words.proofs.ListLaws.{filled_more, filled}
use Rattle.code.specs.Code.{code_size, code_byte, code_of}
use Rattle.block.specs.Block.{lane_factor, lane_bit, lane_code}
use Rattle.block.proofs.lane.Lane.put_code.Goals as goal

pub loop-i-preserved : goal.loop-i-preserved
loop-i-preserved c =
    let s = c.args.self.now in
    let l = c.loop-i in (
      simp length-set l.invariant.0,
      filled_more (code_byte s.dims (lane_factor s.block s.k) (lane_bit s.block s.k)) l.code l.i _ (omega arith) l.invariant.1 c.code_byte.ensures,
    )

pub returns : goal.returns
unfolding lane_code code_of
returns c =
    let s = c.args.self.now in
    let l = c.loop-i in
    filled (code_size s.dims) (code_byte s.dims (lane_factor s.block s.k) (lane_bit s.block s.k)) l.code l.invariant.0
    (λ i h. l.invariant.1 i (omega arith))
