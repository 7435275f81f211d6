-- `code::Vector::signs` meets its contract. Assumes nothing.
use mathlib.Core.Path.{sym}
use Prim.Native.Nat.{ℕ, ◌<◌}
use native.Mathlib.Omega.{arith}
use Rattle.words.proofs.DigitLaws.{digit_more, join-none, kept-lt}
use Rattle.code.specs.Code.{sign_clear}
use Rattle.code.specs.Parts.{OfDims}
use Rattle.code.proofs.CodeLaws.{sign_lt}
use Rattle.code.proofs.vector.Vector.signs.Invariants.{digit}
use Rattle.code.proofs.vector.Vector.signs.Goals as goal

two : (v : OfDims) (i j : ℕ) → digit v i j < 2
two v i j = kept-lt v.dims (sign_clear v.bytes) (sign_lt v.bytes) _

pub loop-j-init : goal.loop-j-init
loop-j-init c = sym (join-none 1 _)

pub overflow_add-byte : goal.overflow_add-byte
overflow_add-byte c =
    let a = c.args in let l = c.loop-j in
    record {
      fits = (digit_more 1 8 l.j l.j l.byte _ _ (two a.self.now a.i) (omega arith) (omega arith) l.invariant c.sign.ensures.0).1;
    }

pub loop-j-preserved : goal.loop-j-preserved
loop-j-preserved c =
    let a = c.args in let l = c.loop-j in
    (digit_more 1 8 l.j l.j l.byte _ _ (two a.self.now a.i) (omega arith) (omega arith) l.invariant c.sign.ensures.0).0
