-- Squares: `isqrt` is the whole part of a root, and the only one. Assumes nothing.
use mathlib.Core.Bool.{Bool, true, false, not, cond}
use Prim.Native.Nat.{ℕ, zero, suc, ◌*◌, ◌/◌, ◌^◌, ◌≤◌, ◌<◌}
use native.Mathlib.Nat.{lt_of_not-le, not-le_of_lt}
use native.Mathlib.Nat.{mul-le-mul, pow-succ'}
use native.Mathlib.Omega.{arith}
use lib.Dec.{T, leb, leb→le, nleb→lt}
use lib.Ieee.{size}
use lib.Ieee.Digits.{size-lt}
use Rattle.root.specs.Isqrt.{one_more, isqrt_by, isqrt}

-- s is the whole part of the root of n
abbrev pub Floor : ℕ → ℕ → Type 0
Floor n s = (s * s ≤ n) × (n < suc s * suc s)

-- of two squares the smaller has the smaller root
pub root_lt : (a b : ℕ) → a * a < b * b → a < b
root_lt a b h = lt_of_not-le (λ (g : b ≤ a). not-le_of_lt h (mul-le-mul g g))

-- ---- the definition

zero_root : (n : ℕ) → n < 1 → Floor n 0
zero_root n h = (omega arith, omega arith)

more_floor : (n s : ℕ) → Floor (n / 4) s → Floor n (one_more n (2 * s))
more_floor n s h = go (leb (suc (2 * s) * suc (2 * s)) n) (leb→le (suc (2 * s) * suc (2 * s)) n) (nleb→lt (suc (2 * s) * suc (2 * s)) n)
  where
    lower : s * s ≤ n / 4 → 2 * s * (2 * s) ≤ n
    lower l = omega arith

    upper : n / 4 < suc s * suc s → n < suc (suc (2 * s)) * suc (suc (2 * s))
    upper l = omega arith

    go : (b : Bool) → (T b → suc (2 * s) * suc (2 * s) ≤ n) → (T (not b) → n < suc (2 * s) * suc (2 * s)) → Floor n (cond b (suc (2 * s)) (2 * s))
    go true y x = (y tt, upper h.1)
    go false y x = (lower h.0, x tt)

quarter_lt : (d n : ℕ) → n < 2 ^ suc d → n / 4 < 2 ^ d
quarter_lt d n h = omega (arith, pow-succ' 2 d)

by_floor : (d n : ℕ) → n < 2 ^ d → Floor n (isqrt_by d n)
unfolding isqrt_by
by_floor zero n h = zero_root n h
by_floor (suc d) n h = more_floor n (isqrt_by d (n / 4)) (by_floor d (n / 4) (quarter_lt d n h))

pub isqrt_is : (n : ℕ) → Floor n (isqrt n)
unfolding isqrt
isqrt_is n = by_floor (size n) n (size-lt n)

-- ---- a guess whose square is above n is above 0

pub sq_pos : (n r : ℕ) → n < r * r → 0 < r
sq_pos n zero h = omega arith
sq_pos n (suc k) h = omega arith
