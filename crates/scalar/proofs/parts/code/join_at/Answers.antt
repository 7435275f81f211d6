-- `scalar::parts::code::join_at` meets its contract. Assumes nothing.
use Prim.Native.Nat.{◌+◌, ◌*◌, ◌%◌, ◌^◌, ◌<◌}
use mathlib.Core.Path.{◌≡◌, refl, sym}
use native.Mathlib.Omega.{arith}
use Rattle.words.specs.Digits.{join}
use Rattle.words.proofs.DigitLaws.{join-none}
use Rattle.digits.specs.Digits.{top}
use Rattle.digits.proofs.DigitLaws.{join-turn}
use Rattle.scalar.specs.Code.{dimension_code}
use Rattle.scalar.proofs.ScalarLaws.{code-small}
use Rattle.scalar.proofs.parts.code.join_at.Goals as goal
use Rattle.scalar.proofs.parts.code.join_at.Goals.{After-code_at}

-- a turn of the loop: nothing is shifted out, and the sum fits
turn : (g : _) (c : After-code_at g) → let w = g.row.BITS in let v = c.args.v.now in let l = c.loop-j in
    let x = l.byte + c.code_at.result * 2 ^ (w * l.j) % 256 in
    (x ≡ join w (l.j + 1) (λ j. dimension_code (top w) v.vector v.lo v.hi (c.args.at + j))) × (x < 256)
turn g c =
    let l = c.loop-j in let w = g.row.BITS in let v = c.args.v.now in
    join-turn w l.j (w * l.j) l.byte _ _ c.requires.0 (λ j. code-small w (top w) refl v.vector v.lo v.hi (c.args.at + j)) (omega arith)
    refl l.invariant (rw c.top.ensures at c.code_at.ensures)

pub loop-j-init : goal.loop-j-init
loop-j-init g c = sym (join-none _ _)

pub overflow_add-byte : goal.overflow_add-byte
overflow_add-byte g c = record { fits = (turn g (goal.at.overflow_add-byte g c).After-code_at).1 }

pub loop-j-preserved : goal.loop-j-preserved
loop-j-preserved g c = (turn g (goal.at.loop-j-preserved g c).After-code_at).0
