-- `digits::parts::levels` meets its contract. Assumes nothing.
use mathlib.Core.Path.{◌≡◌, refl}
use native.Mathlib.Omega.{arith}
use Rattle.digits.proofs.DigitLaws.{only_eight}
use Rattle.digits.proofs.parts.levels.Goals as goal

pub returns-in_default : goal.returns-in_default
returns-in_default g c =
    let e : g.row.BITS ≡ 8 = only_eight g.row.BITS c.requires (λ p. omega arith) (λ p. omega arith) (λ p. omega arith) in
    rw e (refl, omega arith)
