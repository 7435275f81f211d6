-- `walk::wanted::Wanted::fill_blocks` meets its contract. Assumes nothing.
use mathlib.Core.Path.{◌≡◌}
use Prim.Native.Nat.{◌+◌, ◌*◌, ◌/◌}
use lib.ListN.{take}
use Rattle.words.specs.Bytes.{floats_of}
use Rattle.walk.specs.declared.layout.Layout.TheVariants.{Blocks}
use Rattle.walk.specs.Walk.{bound_of}
use Rattle.walk.proofs.wanted.Wanted.fill_blocks.Given as goal

abbrev pub invariant-loop-b : goal.invariant-loop-b
invariant-loop-b l =
    let w = l.self in
    take (128 * l.b) l.buf ≡ floats_of (32 * l.b) (λ j. bound_of Blocks w.query.m w.query.v w.query.codes.now w.records.now (32 * (w.start / 32) + j))
