-- `digits::parts::digit_of` meets its contract. Assumes nothing.
use native.Mathlib.Nat.{mod-lt}
use native.Mathlib.Omega.{arith}
use lib.Pow.{pow_pos}
use Rattle.std.proofs.lemmas.Nat.{and_mask}
use Rattle.digits.proofs.DigitLaws.{digit_from, digit_place}
use Rattle.digits.proofs.parts.digit_of.Goals as goal

pub overflow_mul-first : goal.overflow_mul-first
overflow_mul-first g c = omega (arith, digit_place g.row.BITS c.args.i c.requires.0)

pub bounds-s-first : goal.bounds-s-first
bounds-s-first g c = rw (digit_place g.row.BITS c.args.i c.requires.0).0 c.requires.1

pub returns : goal.returns
returns g c = let w = g.row.BITS in rw (c.top.ensures, and_mask _ w) (digit_from w c.args.s.now c.args.i c.requires.0, mod-lt _ (pow_pos w))
