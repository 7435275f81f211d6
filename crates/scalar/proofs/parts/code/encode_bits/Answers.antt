-- `scalar::parts::code::encode_bits` meets its contract, over the width. Assumes nothing.
use Prim.Native.Nat.{ℕ, ◌+◌, ◌*◌, ◌/◌, ◌<◌, ◌≤◌}
use mathlib.Core.List.{◌++◌}
use mathlib.Core.Path.{◌≡◌, ◌∙◌, sym}
use native.Mathlib.Omega.{arith}
use borrow.Author.Count.{below_none}
use lib.ListN.{length, length-set, take, drop, get_or}
use Rattle.std.proofs.Common.{length-append, length-drop}
use Rattle.std.proofs.lemmas.List.{length-take-le}
use Rattle.std.proofs.Math.ListN.{get_or-append}
use Rattle.words.proofs.ListLaws.{filled_more}
use Rattle.digits.specs.Digits.{per_byte, packed_size, packed_byte, top}
use Rattle.digits.proofs.DigitLaws.{whole_fits, whole_byte, none_left, some_left}
use Rattle.scalar.specs.Code.{codes_of}
use Rattle.scalar.proofs.ScalarLaws.{whole_codes, last_codes, scalar_filled}
use Rattle.scalar.proofs.parts.code.encode_bits.Goals as goal
use Rattle.scalar.proofs.parts.code.encode_bits.Goals.{After-per_byte-per, After-loop-k, In-loop-k}

-- the whole bytes are bytes of out
fits : (g : _) (c : After-per_byte-per g) → c.dims-dims.result / c.per_byte-per.result ≤ length c.args.out.now
fits g c = rw (c.dims-dims.ensures, c.per_byte-per.ensures.0, c.requires.1) (whole_fits g.row.BITS c.args.v.dims c.requires.0)

long : (g : _) (c : After-per_byte-per g) → let k = c.dims-dims.result / c.per_byte-per.result in length (take k c.args.out.now) ≡ k
long g c = length-take-le _ c.args.out.now (fits g c)

-- byte k is one of the whole ones
whole : (g : _) (c : In-loop-k g) → let w = g.row.BITS in c.loop-k.k * per_byte w + per_byte w ≤ c.args.v.dims
whole g c =
    let e = long g (goal.at.In-loop-k g c).After-per_byte-per in let t : c.loop-k.k < c.dims-dims.result / c.per_byte-per.result = omega arith in
    (whole_byte g.row.BITS c.args.v.dims c.requires.0 c.loop-k.k (rw (c.dims-dims.ensures, c.per_byte-per.ensures.0) at t)).0

-- out after the loop: as long as before, and its first bytes are the code's
done : (g : _) (c : After-loop-k g) → let k = c.dims-dims.result / c.per_byte-per.result in let w = g.row.BITS in let v = c.args.v in
    let out = c.loop-k.byte-items ++ drop k c.args.out.now in
    (length out ≡ packed_size w v.dims) × ((j : ℕ) → j < k → get_or out j 0 ≡ packed_byte w (codes_of (top w) v.dims v.vector v.lo v.hi) j)
done g c =
    let l = c.loop-k in let k = c.dims-dims.result / c.per_byte-per.result in let rest = drop k c.args.out.now in
    let p = (goal.at.After-loop-k g c).After-per_byte-per in
    let e = long g p in let f = fits g p in (
      omega (arith, length-append l.byte-items rest, length-drop k c.args.out.now, c.requires.1),
      λ j h. get_or-append l.byte-items rest 0 j (omega arith) ∙ l.invariant.1 j (omega arith),
    )

pub slice_bounds-byte-items-end : goal.slice_bounds-byte-items-end
slice_bounds-byte-items-end g c = fits g (goal.at.slice_bounds-byte-items-end g c).After-per_byte-per

pub slice_bounds-byte-items-end-2 : goal.slice_bounds-byte-items-end-2
slice_bounds-byte-items-end-2 g c = sym (long g (goal.at.slice_bounds-byte-items-end-2 g c).After-per_byte-per)

pub loop-k-init : goal.loop-k-init
loop-k-init g c = (long g (goal.at.loop-k-init g c).After-per_byte-per, below_none _)

pub bounds-byte-items-k : goal.bounds-byte-items-k
bounds-byte-items-k g c = omega arith

pub loop-k-preserved : goal.loop-k-preserved
loop-k-preserved g c =
    let l = c.loop-k in let w = g.row.BITS in let v = c.args.v in
    let k = whole g (goal.at.loop-k-preserved g c).In-loop-k in (
      simp length-set l.invariant.0,
      filled_more (packed_byte w (codes_of (top w) v.dims v.vector v.lo v.hi)) l.byte-items l.k c.join_at.result (omega arith) l.invariant.1
          ((rw c.per_byte-per.ensures.0 at c.join_at.ensures) ∙ whole_codes w v.dims v.vector v.lo v.hi l.k k),
    )

pub bounds-out-whole : goal.bounds-out-whole
bounds-out-whole g c =
    let d = c.dims-dims.ensures in let per = c.per_byte-per.ensures.0 in
    let t = some_left g.row.BITS c.args.v.dims c.requires.0 (rw (d, per) at c.if-at-dims.true) in
    rw (d, per) (omega (arith, t.0, rw (d, per) at (done g (goal.at.bounds-out-whole g c).After-loop-k).0))

pub returns-then-at-dims : goal.returns-then-at-dims
returns-then-at-dims g c =
    let w = g.row.BITS in let v = c.args.v in
    let d = c.dims-dims.ensures in let per = c.per_byte-per.ensures.0 in let k = v.dims / per_byte w in
    let t = some_left w v.dims c.requires.0 (rw (d, per) at c.if-at-dims.true) in
    let o = rw (d, per) at (done g (goal.at.returns-then-at-dims g c).After-loop-k) in
    let m : k * per_byte w < v.dims = rw (d, per) at c.if-at-dims.true in
    let b = rw (d, per) at c.join_at-then-at-dims.ensures in
    rw (d, per) (scalar_filled w v.dims v.vector v.lo v.hi _ (simp length-set o.0)
    (rw t.0 (filled_more _ _ k c.join_at-then-at-dims.result (omega (arith, o.0, t.0)) o.1
    (b ∙ last_codes w v.dims v.vector v.lo v.hi k _ t.1 (omega arith)))))

pub returns-else-at-dims : goal.returns-else-at-dims
returns-else-at-dims g c =
    let w = g.row.BITS in let v = c.args.v in
    let d = c.dims-dims.ensures in let per = c.per_byte-per.ensures.0 in
    let n = none_left w v.dims c.requires.0 (rw (d, per) at c.if-at-dims.false) in
    let o = done g (goal.at.returns-else-at-dims g c).After-loop-k in
    scalar_filled w v.dims v.vector v.lo v.hi _ o.0 (λ j h. o.1 j (rw (d, per) (rw n at h)))
