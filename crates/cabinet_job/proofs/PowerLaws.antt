-- Powers of two that fit. Assumes nothing.
use Prim.Native.Nat.{ℕ, ◌*◌, ◌^◌, ◌≤◌, ◌<◌}
use native.Mathlib.Nat.{mul-le-mul}
use lib.Pow.{pow_mono, pow_pos}
use native.Mathlib.Omega.{arith}

pub pow_fits : (k : ℕ) → k ≤ 60 → (0 < 2 ^ k) × (2 ^ k ≤ 2 ^ 60)
pow_fits k l = (pow_pos k, pow_mono l)

-- 24 digits before 40 zeros still fit
pub times_fits : (m k : ℕ) → m < 2 ^ 24 → k ≤ 40 → (2 ^ k ≤ 2 ^ 40) × (m * 2 ^ k < 2 ^ 64)
times_fits m k h l =
    let a : m ≤ 16777215 = omega arith in
    let b : 2 ^ k ≤ 2 ^ 40 = pow_mono l in
    (b, omega (arith, mul-le-mul a b))
