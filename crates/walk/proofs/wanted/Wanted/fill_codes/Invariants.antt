-- `walk::wanted::Wanted::fill_codes` meets its contract. Assumes nothing.
use mathlib.Core.Path.{◌≡◌}
use Prim.Native.Nat.{◌+◌, ◌*◌}
use lib.ListN.{take}
use Rattle.words.specs.Bytes.{floats_of}
use Rattle.walk.specs.declared.layout.Layout.TheVariants.{Single}
use Rattle.walk.specs.Walk.{bound_of}
use Rattle.walk.proofs.wanted.Wanted.fill_codes.Given as goal

abbrev pub invariant-loop-i : goal.invariant-loop-i
invariant-loop-i l =
    let w = l.self in
    take (4 * l.i) l.buf ≡ floats_of l.i (λ j. bound_of Single w.query.m w.query.v w.query.codes.now w.records.now (w.start + j))
