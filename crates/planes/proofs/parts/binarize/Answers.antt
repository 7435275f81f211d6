-- `planes::parts::binarize` meets its contract. Assumes nothing.
use Rattle.std.proofs.Common.{ℕ, ◌≡◌, ◌-◌, arith, length, length-drop}
use Rattle.code.specs.Code.{code_words}
use Rattle.planes.proofs.WordLaws.{planes_put}
use Rattle.planes.proofs.parts.binarize.Goals as goal

pub returns : goal.returns
returns c =
    let q = c.args.q.now in
    let n : c.div_ceil-n.result ≡ code_words (length q) = omega arith in
    rw n (planes_put q _ _ _ _ _ (omega (arith, length-drop {A = ℕ} (code_words (length q) - 0) c.args.t.now)) c.fill_plane.ensures c.fill_plane-2.ensures
    c.fill_plane-3.ensures c.fill_plane-4.ensures)
