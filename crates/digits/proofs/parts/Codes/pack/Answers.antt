-- `digits::parts::Codes::pack` meets its contract, over the width. Assumes nothing.
use Prim.Native.Nat.{ℕ, ◌*◌, ◌/◌, ◌<◌, ◌≤◌}
use mathlib.Core.List.{◌++◌}
use mathlib.Core.Path.{◌≡◌, ◌∙◌, sym}
use native.Mathlib.Omega.{arith}
use borrow.Author.Count.{below_none}
use lib.ListN.{length, length-set, take, drop, get_or}
use Rattle.std.proofs.Common.{length-append, length-drop}
use Rattle.std.proofs.lemmas.List.{length-take-le}
use Rattle.std.proofs.Math.ListN.{get_or-append}
use Rattle.words.proofs.ListLaws.{filled, filled_more}
use Rattle.digits.specs.Digits.{per_byte, packed_size, packed_byte, packed}
use Rattle.digits.proofs.DigitLaws.{whole_fits, none_left, some_left, full_byte, last_byte}
use Rattle.digits.proofs.parts.Codes.pack.Goals as goal
use Rattle.digits.proofs.parts.Codes.pack.Goals.{After-per_byte-per, After-loop-k, In-loop-k}

-- the whole bytes are bytes of out
fits : (g : _) (c : After-per_byte-per g) → length c.self.inside.codes.now / c.per_byte-per.result ≤ length c.args.out.now
fits g c = rw (c.self.view_is, c.per_byte-per.ensures.0, c.requires) (whole_fits g.row.BITS (length c.args.self) c.self.invariant.0)

long : (g : _) (c : After-per_byte-per g) → let k = length c.self.inside.codes.now / c.per_byte-per.result in length (take k c.args.out.now) ≡ k
long g c = length-take-le _ c.args.out.now (fits g c)

-- out after the loop: as long as before, and its first bytes are packed
done : (g : _) (c : After-loop-k g) → let k = length c.self.inside.codes.now / c.per_byte-per.result in
    let out = c.loop-k.byte-items ++ drop k c.args.out.now in
    (length out ≡ packed_size g.row.BITS (length c.args.self)) × ((j : ℕ) → j < k → get_or out j 0 ≡ packed_byte g.row.BITS c.args.self j)
done g c =
    let l = c.loop-k in let k = length c.self.inside.codes.now / c.per_byte-per.result in let rest = drop k c.args.out.now in
    let p = (goal.at.After-loop-k g c).After-per_byte-per in
    let e = long g p in let f = fits g p in (
      omega (arith, length-append l.byte-items rest, length-drop k c.args.out.now, c.requires),
      λ j h. get_or-append l.byte-items rest 0 j (omega arith) ∙ l.invariant.1 j (omega arith),
    )

pub slice_bounds-byte-items-end : goal.slice_bounds-byte-items-end
slice_bounds-byte-items-end g c = fits g (goal.at.slice_bounds-byte-items-end g c).After-per_byte-per

pub slice_bounds-byte-items-end-2 : goal.slice_bounds-byte-items-end-2
slice_bounds-byte-items-end-2 g c = sym (long g (goal.at.slice_bounds-byte-items-end-2 g c).After-per_byte-per)

pub loop-k-init : goal.loop-k-init
loop-k-init g c = (long g (goal.at.loop-k-init g c).After-per_byte-per, below_none _)

pub bounds-byte-items-k : goal.bounds-byte-items-k
bounds-byte-items-k g c = omega arith

pub loop-k-preserved : goal.loop-k-preserved
loop-k-preserved g c =
    let l = c.loop-k in let w = g.row.BITS in let s = c.args.self in (
      simp length-set l.invariant.0,
      filled_more (packed_byte w s) l.byte-items l.k c.whole.result (omega arith) l.invariant.1
          ((rw c.per_byte-per.ensures.0 at c.whole.ensures) ∙ full_byte w l.k s),
    )

pub bounds-out-whole : goal.bounds-out-whole
bounds-out-whole g c =
    let t = some_left g.row.BITS (length c.args.self) c.self.invariant.0 (rw (c.self.view_is, c.per_byte-per.ensures.0) at c.if-at-n.true) in
    rw (c.self.view_is, c.per_byte-per.ensures.0) (omega (arith, t.0, rw (c.self.view_is, c.per_byte-per.ensures.0) at (done g (goal.at.bounds-out-whole g c).After-loop-k).0))

pub returns-then-at-n : goal.returns-then-at-n
unfolding packed
returns-then-at-n g c =
    let w = g.row.BITS in let s = c.args.self in
    let v = c.self.view_is in let per = c.per_byte-per.ensures.0 in let k = length s / per_byte w in
    let t = some_left w (length s) c.self.invariant.0 (rw (v, per) at c.if-at-n.true) in
    let d = rw (v, per) at (done g (goal.at.returns-then-at-n g c).After-loop-k) in
    let m : k * per_byte w < length s = rw (v, per) at c.if-at-n.true in
    let b = rw (v, per) at c.some.ensures in
    rw (v, per) (filled (packed_size w (length s)) (packed_byte w s) _ (simp length-set d.0)
    (rw t.0 (filled_more (packed_byte w s) _ k c.some.result (omega (arith, d.0, t.0)) d.1 (b ∙ last_byte w k _ s t.1 (omega arith)))))

pub returns-else-at-n : goal.returns-else-at-n
unfolding packed
returns-else-at-n g c =
    let w = g.row.BITS in let s = c.args.self in let v = c.self.view_is in let per = c.per_byte-per.ensures.0 in
    let n = none_left w (length s) c.self.invariant.0 (rw (v, per) at c.if-at-n.false) in
    let d = done g (goal.at.returns-else-at-n g c).After-loop-k in
    filled (packed_size w (length s)) (packed_byte w s) _ d.0 (λ j h. d.1 j (rw (v, per) (rw n at h)))
