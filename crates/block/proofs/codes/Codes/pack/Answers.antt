-- `block::Codes::pack` meets its contract. Assumes nothing.
use mathlib.Core.Path.{◌≡◌, sym, ap, ap₂, ◌∙◌}
use Prim.Native.Nat.{ℕ, ◌+◌, ◌*◌}
use native.Mathlib.Omega.{arith}
use lib.ListN.{length, length-set, take, drop}
use borrow.Author.Count.{below_none}
use Rattle.std.proofs.Common.{length-append, length-drop}
use Rattle.std.proofs.lemmas.List.{length-take-le}
use Rattle.std.proofs.Math.ListN.{get_or-append}
use Rattle.words.proofs.ListLaws.{filled_more, filled}
use Rattle.block.specs.Block.{block_size, block_of, packed_block}
use Rattle.code.specs.Parts.{OfDims}
use Rattle.block.specs.Parts.{packed_block_byte}
use Rattle.block.proofs.PackLaws.{packed_factor, packed_group}
use Rattle.block.proofs.codes.Codes.pack.Goals as goal
use Rattle.block.proofs.codes.Codes.pack.Goals.{Start}

-- the bytes of the factors
long : (c : Start) → length (take 512 c.args.block.now) ≡ 512
long c = length-take-le 512 c.args.block.now (omega (arith, c.requires))

pub loop-i-preserved : goal.loop-i-preserved
loop-i-preserved c =
    let s = c.args.self.now in
    let l = c.loop-i in
    let here = c.byte.ensures ∙ sym (packed_factor s.dims s.bytes l.i (omega (arith, long (goal.at.loop-i-preserved c).Start))) in
    (simp length-set l.invariant.0, filled_more (packed_block_byte s.dims s.bytes) l.byte-items l.i _ (omega arith) l.invariant.1 here)

pub slice_bounds-byte-items-end : goal.slice_bounds-byte-items-end
slice_bounds-byte-items-end c = omega (arith, c.requires)

pub slice_bounds-byte-items-end-2 : goal.slice_bounds-byte-items-end-2
slice_bounds-byte-items-end-2 c = sym (long (goal.at.slice_bounds-byte-items-end-2 c).Start)

pub loop-i-init : goal.loop-i-init
loop-i-init c = (long (goal.at.loop-i-init c).Start, below_none _)

pub loop-g-init : goal.loop-g-init
loop-g-init c =
    let l = c.loop-i in let rest = drop 512 c.args.block.now in
    let e = long (goal.at.loop-g-init c).Start in (
      omega (arith, length-append l.byte-items rest, length-drop 512 c.args.block.now, c.requires),
      λ j h. get_or-append l.byte-items rest 0 j (omega arith) ∙ l.invariant.1 j (omega arith),
    )

pub loop-j-preserved : goal.loop-j-preserved
loop-j-preserved c =
    let s = c.args.self.now in
    let l = c.loop-j in
    let at = 512 + 16 * c.loop-g.g + l.j in
    let dims : c.self.inside.dims ≡ s.dims = ap (λ (s : OfDims). s.dims) c.self.view_is in
    let next : 512 + 16 * c.loop-g.g + (l.j + 1) ≡ at + 1 = omega arith in
    let here = ap₂ (λ (x y : ℕ). x + 16 * y) c.nibble.ensures.0 c.nibble-in-loop-j.ensures.0 ∙ sym (packed_group s.dims s.bytes c.loop-g.g l.j c.loop-j-test.true) in
    (simp length-set l.invariant.0, rw next (filled_more (packed_block_byte s.dims s.bytes) l.block at _ (omega (arith, dims)) l.invariant.1 here))

pub returns : goal.returns
unfolding packed_block block_of packed_block_byte
returns c =
    let s = c.args.self.now in
    let l = c.loop-g in
    let dims : c.self.inside.dims ≡ s.dims = ap (λ (s : OfDims). s.dims) c.self.view_is in
    filled (block_size s.dims) (packed_block_byte s.dims s.bytes) l.block l.invariant.0 (λ i h. l.invariant.1 i (omega (arith, dims)))
