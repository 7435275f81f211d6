-- `walk::wanted::Wanted::fill_blocks` meets its contract. Assumes nothing.
use mathlib.Core.Path.{◌≡◌, ap, ◌∙◌}
use Prim.Native.Nat.{◌+◌, ◌/◌, ◌%◌}
use native.Mathlib.Omega.{arith}
use lib.ListN.{length}
use Rattle.words.proofs.WordsLaws.{words_none}
use Rattle.block.specs.Block.{block_size}
use Rattle.walk.specs.Walk.{bound_words}
use Rattle.walk.proofs.WalkLaws.{block_end, block_more}
use Rattle.walk.proofs.wanted.Wanted.fill_blocks.Goals as goal
use Rattle.walk.proofs.wanted.Wanted.fill_blocks.Goals.{After-block_size-size}

size : (c : After-block_size-size) → c.block_size-size.result ≡ block_size (length c.args.self.now.query.codes.now)
size c = c.block_size-size.ensures.0 ∙ ap block_size (c.dims.ensures ∙ ap length c.codes.ensures)

pub loop-b-init : goal.loop-b-init
loop-b-init c = words_none c.args.buf.now _

pub record_at-block-requires : goal.record_at-block-requires
record_at-block-requires c =
    let w = c.args.self.now in
    block_end _ _ w.n _ _ _ c.requires.layout w.sized (size (goal.at.record_at-block-requires c).After-block_size-size)
    (omega (arith, w.inside, w.some))

pub loop-b-preserved : goal.loop-b-preserved
loop-b-preserved c =
    let w = c.args.self.now in
    block_more w.query.m w.query.v w.query.codes.now w.records.now _ c.loop-b.buf _ (w.start / 32) c.loop-b.b _
    (size (goal.at.loop-b-preserved c).After-block_size-size) c.record_at-block.ensures.0 c.put_lanes.ensures (omega (arith, c.requires.room)) c.loop-b.invariant

pub returns : goal.returns
unfolding bound_words
returns c =
    let w = c.args.self.now in
    let e : c.loop-b.b ≡ (w.start % 32 + w.c + 31) / 32 = omega arith in
    rw (← e) c.loop-b.invariant
