-- `tables::parts::table::put_row` meets its contract. Assumes nothing.
use Prim.Native.Nat.{ℕ, ◌+◌, ◌*◌}
use mathlib.Core.List.{List}
use mathlib.Core.Path.{◌≡◌, refl, sym, ◌∙◌}
use native.Mathlib.Omega.{arith}
use lib.Seq.{length-sets}
use Rattle.words.specs.Bytes.{float_bytes, words_of}
use Rattle.words.proofs.ByteLaws.{length-float_bytes}
use Rattle.words.proofs.ListLaws.{joined-none}
use Rattle.scalar.specs.Table.{entry_of}
use Rattle.scalar.proofs.ScalarLaws.{piece_more}
use Rattle.tables.proofs.parts.table.put_row.Goals as goal

pub loop-j-init : goal.loop-j-init
loop-j-init c = rw joined-none refl

pub put_f32-requires : goal.put_f32-requires
put_f32-requires c = rw c.loop-j.invariant (simp length-sets (omega arith))

pub loop-j-preserved : goal.loop-j-preserved
unfolding entry_of
loop-j-preserved c =
    let l = c.loop-j in
    let a = c.args in
    let f : ℕ → List ℕ = λ j. float_bytes (entry_of a.m a.x a.lo a.del j) in
    c.put_f32.ensures
    ∙ rw (c.apart_by.ensures, c.from.ensures, c.from-in-loop-j.ensures, l.invariant)
    (piece_more 4 f (λ j. length-float_bytes _) a.out.now a.at l.j (a.at + 4 * l.j) (omega arith))

pub shape_of-out : goal.shape_of-out
shape_of-out c = rw c.loop-j.invariant (simp length-sets)

pub returns : goal.returns
unfolding words_of float_bytes
returns c = let l = c.loop-j in let e : l.j ≡ c.args.n = omega arith in rw (sym e) l.invariant
