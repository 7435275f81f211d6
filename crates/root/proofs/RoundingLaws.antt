-- `round_root` at a number that is n * 4 ^ k in the square of the smallest value, for an n of 47 or 48 digits: the root of n,
-- rounded, times 2 ^ k. Assumes nothing.
use mathlib.Core.Path.{◌≡◌, refl, ap, ◌∙◌, subst}
use mathlib.Core.Bool.{false}
use Prim.Native.Nat.{ℕ, zero, suc, ◌+◌, ◌-◌, ◌*◌, ◌/◌, ◌^◌, ◌≤◌, ◌<◌, compare}
use Prim.Native.Nat.compare
use Prim.Native.Nat.{Ordering}
use native.Mathlib.Nat.{le_trans, le_antisymm, le_of_suc-le-suc, not-suc-le-zero, lt_of_lt_of_le}
use native.Mathlib.Nat.{mul-pos, mul-div_cancel, mul-lt-mul_of_pos_right, mul-le-mul_right, le-div_iff_mul-le, div-lt_iff_lt-mul}
use native.Mathlib.Omega.{arith}
use lib.Pow.{pow-add, pow_pos}
use lib.Ieee.{Float, binary32, size, nearest, units}
use Rattle.words.proofs.FloatLaws.{size_is}
use Rattle.root.specs.Isqrt.{isqrt}
use Rattle.root.specs.Root.{round_root}
use Rattle.root.proofs.SquareLaws.{Floor, root_lt, isqrt_is}

-- ---- small laws

pub compare-lt : (a b : ℕ) → a < b → compare a b ≡ Ordering.lt
compare-lt zero zero h = absurd (not-suc-le-zero h)
compare-lt zero (suc b) h = compare.zero-suc b
compare-lt (suc a) zero h = absurd (not-suc-le-zero h)
compare-lt (suc a) (suc b) h = compare.suc-suc a b ∙ compare-lt a b (le_of_suc-le-suc h)

pub compare_gt : (a b : ℕ) → b < a → compare a b ≡ Ordering.gt
compare_gt zero zero h = absurd (not-suc-le-zero h)
compare_gt zero (suc b) h = absurd (not-suc-le-zero h)
compare_gt (suc a) zero h = compare.suc-zero a
compare_gt (suc a) (suc b) h = compare.suc-suc a b ∙ compare_gt a b (le_of_suc-le-suc h)

pub div_is : (w p q : ℕ) → 0 < p → q * p ≤ w → w < suc q * p → w / p ≡ q
div_is w p q P l u = le_antisymm (le_of_suc-le-suc ((div-lt_iff_lt-mul P).1 u)) ((le-div_iff_mul-le P).1 l)

-- ---- the root of n * 4 ^ k begins with the root of n

module _ (n q p : ℕ) (P : 0 < p) (f : Floor n q) where
  floor_low : q * p ≤ isqrt (n * (p * p))
  floor_low =
      let w = isqrt (n * (p * p)) in
      le_of_suc-le-suc (root_lt (q * p) (suc w) (omega (arith, mul-le-mul_right (p * p) f.0, (isqrt_is (n * (p * p))).1)))

  floor_high : isqrt (n * (p * p)) < suc q * p
  floor_high =
      let w = isqrt (n * (p * p)) in
      root_lt w (suc q * p) (omega (arith, mul-lt-mul_of_pos_right f.1 (mul-pos P P), (isqrt_is (n * (p * p))).0))

  floor_div : isqrt (n * (p * p)) / p ≡ q
  floor_div = div_is (isqrt (n * (p * p))) p q P floor_low floor_high

-- ---- the definition's steps

-- the last step, and the last two
abbrev rounded : ℕ → ℕ → ℕ → ℕ → Float
rounded n den k q = units binary32 false (nearest q (compare (4 * n) ((2 * q + 1) * 2 ^ k * ((2 * q + 1) * 2 ^ k) * den))) k

abbrev of_whole : ℕ → ℕ → ℕ → Float
of_whole n den w = rounded n den (size w - 24) (w / 2 ^ (size w - 24))

round_is : (num den : ℕ) → round_root binary32 num den ≡ of_whole (num * 2 ^ 298) den (isqrt (num * 2 ^ 298 / den))
unfolding round_root
round_is num den = refl

module _ (num den n k q : ℕ) (D : 0 < den) (low : 2 ^ 23 ≤ q) (high : q < 2 ^ 24) (f : Floor n q)
    (e : num * 2 ^ 298 ≡ n * (2 ^ k * 2 ^ k) * den) where
  digits : size (isqrt (n * (2 ^ k * 2 ^ k))) - 24 ≡ k
  digits =
      let p = 2 ^ k in
      let w = isqrt (n * (p * p)) in
      let l : 2 ^ (23 + k) ≤ w = rw (pow-add 2 23 k) (le_trans (mul-le-mul_right p low) (floor_low n q p (pow_pos k) f)) in
      let h : w < 2 ^ (24 + k) = rw (pow-add 2 24 k) (lt_of_lt_of_le (floor_high n q p (pow_pos k) f) (mul-le-mul_right p high)) in
      let u : w < 2 ^ suc (23 + k) = subst (λ (j : ℕ). w < 2 ^ j) one h in
      let s = size_is w (23 + k) l u in
      omega arith
    where
      one : 24 + k ≡ suc (23 + k)
      one = omega arith

  at-whole : round_root binary32 num den ≡ rounded (n * (2 ^ k * 2 ^ k) * den) den k q
  at-whole =
      let N = n * (2 ^ k * 2 ^ k) in
      round_is num den
      ∙ ap (λ (x : ℕ). of_whole x den (isqrt (x / den))) e
      ∙ ap (λ (x : ℕ). of_whole (N * den) den (isqrt x)) (mul-div_cancel N D)
      ∙ ap (λ (x : ℕ). rounded (N * den) den x (isqrt N / 2 ^ x)) digits
      ∙ ap (rounded (N * den) den k) (floor_div n q (2 ^ k) (pow_pos k) f)

  scale_pos : 0 < 2 ^ k * 2 ^ k * den
  scale_pos = mul-pos (mul-pos (pow_pos k) (pow_pos k)) D

  by_order : (o : Ordering) → compare (4 * (n * (2 ^ k * 2 ^ k) * den)) ((2 * q + 1) * 2 ^ k * ((2 * q + 1) * 2 ^ k) * den) ≡ o
      → round_root binary32 num den ≡ units binary32 false (nearest q o) k
  by_order o c = at-whole ∙ ap (λ (x : Ordering). units binary32 false (nearest q x) k) c

  -- there is no tie: 4 * n is even, and (2 * q + 1) * (2 * q + 1) is odd
  pub root_down : n ≤ q * q + q → round_root binary32 num den ≡ units binary32 false q k
  root_down h =
      let l : 4 * n < (2 * q + 1) * (2 * q + 1) = omega arith in
      by_order Ordering.lt (compare-lt _ _ (omega (arith, mul-lt-mul_of_pos_right l scale_pos)))

  pub root_up : q * q + q < n → round_root binary32 num den ≡ units binary32 false (suc q) k
  root_up h =
      let l : (2 * q + 1) * (2 * q + 1) < 4 * n = omega arith in
      by_order Ordering.gt (compare_gt _ _ (omega (arith, mul-lt-mul_of_pos_right l scale_pos)))
