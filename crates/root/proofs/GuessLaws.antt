-- The machine's root of a whole number, the first guess of `isqrt`, is no NaN. Nothing else of it is asked. Assumes nothing.
use mathlib.Core.Bool.{Bool, true, false, not, cond}
use Prim.Native.Nat.{ℕ, zero, suc, ◌+◌, ◌*◌, ◌^◌}
use lib.IntN.{pos}
use lib.Dec.{T, ltb}
use lib.Ieee.{Float, nan, inf, fin, Format, binary64, low, emax, prec, odd, units, round, of_int, sqrt, is_nan}

-- no NaN, and no sign
abbrev unsigned : Float → Bool
unsigned nan = false
unsigned (inf s) = not s
unsigned (fin s m e) = not s

unsigned-number : (x : Float) → T (unsigned x) → T (not (is_nan x))
unfolding is_nan
unsigned-number nan u = u
unsigned-number (inf s) u = tt
unsigned-number (fin s m e) u = tt

odd_unsigned : (d q k l : ℕ) → T (unsigned (odd d false q k l))
unfolding odd
odd_unsigned d zero k l = tt
odd_unsigned d (suc q) k l = tt

units_unsigned : (f : Format) (q k : ℕ) → T (unsigned (units f false q k))
unfolding units
units_unsigned f q k = go (ltb (q * 2 ^ k) (2 ^ (low f + suc (emax f))))
  where
    go : (b : Bool) → T (unsigned (cond b (odd (suc (prec f)) false q k (low f)) (inf false)))
    go true = odd_unsigned (suc (prec f)) q k (low f)
    go false = tt

round_unsigned : (f : Format) (a b : ℕ) → T (unsigned (round f false a b))
unfolding round
round_unsigned f a b = units_unsigned f _ _

root-number : (f : Format) (x : Float) → T (unsigned x) → T (not (is_nan (sqrt f x)))
unfolding sqrt is_nan
root-number f nan u = u
root-number f (inf true) u = u
root-number f (inf false) u = tt
root-number f (fin s zero e) u = tt
root-number f (fin true (suc m) e) u = absurd u
root-number f (fin false (suc m) e) u = unsigned-number _ (round_unsigned f _ _)

pub guess-number : (n : ℕ) → T (not (is_nan (sqrt binary64 (of_int binary64 (pos n)))))
unfolding of_int
guess-number n = root-number binary64 _ (round_unsigned binary64 n 1)
