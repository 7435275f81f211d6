-- `code::Vector::encode` meets its contract. Assumes nothing.
use mathlib.Core.Path.{◌≡◌, sym, ◌∙◌}
use Prim.Native.Nat.{ℕ}
use native.Mathlib.Omega.{arith}
use lib.ListN.{get_or, length-set}
use Rattle.words.proofs.ListLaws.{filled_more, filled}
use Rattle.code.specs.Code.{code_size, code_byte, code_of, sign_clear}
use Rattle.code.proofs.CodeLaws.{byte_factor, byte_digits}
use Rattle.code.proofs.vector.Vector.encode.Goals as goal
use Rattle.code.proofs.vector.Vector.encode.Goals.{then-i-lt16, else-i-lt16}

pub loop-i-preserved : goal.loop-i-preserved
loop-i-preserved c =
    let v = c.args.self.now in
    let f : ℕ → ℕ = λ k. get_or c.args.factors.now k 0 in
    let l = c.loop-i in
    let here : c.if-i-lt16.byte ≡ code_byte v.dims f (sign_clear v.bytes) l.i = elim c.if-i-lt16.branch [
      | then-i-lt16 w ↦ w.byte-is ∙ w.byte_at.ensures ∙ sym (byte_factor v.dims f (sign_clear v.bytes) l.i w.if-i-lt16.true)
      | else-i-lt16 w ↦ w.byte-is ∙ w.signs.ensures ∙ sym (byte_digits v.dims f (sign_clear v.bytes) l.i w.if-i-lt16.false)
    ] in
    (simp length-set l.invariant.0, filled_more (code_byte v.dims f (sign_clear v.bytes)) l.code l.i _ (omega arith) l.invariant.1 here)

pub returns : goal.returns
unfolding code_of
returns c =
    let v = c.args.self.now in
    let l = c.loop-i in
    filled (code_size v.dims) (code_byte v.dims (λ k. get_or c.args.factors.now k 0) (sign_clear v.bytes)) l.code l.invariant.0
    (λ i h. l.invariant.1 i (omega arith))
