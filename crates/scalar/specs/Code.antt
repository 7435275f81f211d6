-- Module 2, scalar quantizer: the code of a vector. lo and hi are the paper's min and max, t is the top code. Every operation on floats rounds once.
use Prim.Native.Nat.{ℕ, ◌+◌, ◌*◌, ◌/◌, ◌%◌, min, compare, Ordering}
use Rattle.std.specs.Prelude.{cond, List, eqb, pos, Float}
use Rattle.std.specs.Float.{nan, inf, fin, binary32}
use Rattle.std.specs.Float.Ieee.{up, down, of_int}
use Rattle.words.specs.Bytes.{f32_at}
use Rattle.words.specs.Floats.{◌⊖◌, ◌⊘◌}
use Rattle.words.specs.Lists.{tabulate}
use Rattle.digits.specs.Digits.{top, packed}

-- del = (max - min) / top
unfoldable pub del_of : ℕ → Float → Float → Float
del_of t lo hi = (hi ⊖ lo) ⊘ of_int binary32 (pos t)

-- q = (x - min) / del
unfoldable pub quotient : ℕ → Float → Float → Float → Float
quotient t x lo hi = (x ⊖ lo) ⊘ del_of t lo hi

-- a number of whole part w, rounded to a whole number by how the rest compares with a half: at a half to the even one
abbrev pub by_rest : ℕ → Ordering → ℕ
by_rest w Ordering.lt = w
by_rest w Ordering.eq = cond (eqb (w % 2) 0) w (w + 1)
by_rest w Ordering.gt = w + 1

-- a / b rounded to a whole number, ties to even, b above 0
unfoldable pub rounded : ℕ → ℕ → ℕ
rounded a b = by_rest (a / b) (compare (2 * (a % b)) b)

-- q rounded to a whole number, ties to even, then clamped to 0..top: negatives 0, a NaN 0, +infinity top.
-- The number `fin s m e` is m * 2 ^ e, negative where s is true, and 2 ^ e is the fraction up e / down e.
unfoldable pub rounded_code : ℕ → Float → ℕ
unfolding rounded
rounded_code t nan = 0
rounded_code t (inf s) = cond s 0 t
rounded_code t (fin s m e) = cond s 0 (min (rounded (m * up e) (down e)) t)

-- the code of dimension i
unfoldable pub dimension_code : ℕ → List ℕ → List ℕ → List ℕ → ℕ → ℕ
dimension_code t vector lo hi i = rounded_code t (quotient t (f32_at vector i) (f32_at lo i) (f32_at hi i))

-- the codes of a vector, and its code: their packed bytes
unfoldable pub codes_of : ℕ → ℕ → List ℕ → List ℕ → List ℕ → List ℕ
unfolding tabulate
codes_of t dims vector lo hi = tabulate dims (dimension_code t vector lo hi)

unfoldable pub scalar_code : ℕ → ℕ → List ℕ → List ℕ → List ℕ → List ℕ
scalar_code w dims vector lo hi = packed w (codes_of (top w) dims vector lo hi)
