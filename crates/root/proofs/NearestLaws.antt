-- The root of each positive number is the binary32 number nearest to it, with no word of how a root is worked out. Assumes nothing.
use mathlib.Core.Path.{◌≡◌, refl, sym, ap, ◌∙◌}
use mathlib.Core.Bool.{Bool, true, false}
use Prim.Native.Nat.{ℕ, suc, ◌+◌, ◌-◌, ◌*◌, ◌/◌, ◌%◌, ◌^◌, ◌≤◌, ◌<◌, zero-le}
use native.Mathlib.Nat.{le_of_eq, lt_of_le_of_lt, mul-pos, mul-lt-mul_of_pos_right, mul-lt-mul_of_pos_left, mul-le-mul, mul-le-mul_right, pow-succ', le_of_lt}
use native.Mathlib.Omega.{arith}
use lib.Dec.{ltb, leb}
use lib.Pow.{pow_pos}
use lib.Ieee.{binary32, of_bits}
use borrow.Author.Tests.{ltb-true, ltb-false, leb-true, leb-false}
use Rattle.root.specs.Isqrt.{isqrt}
use Rattle.root.specs.Root.{root_of}
use Rattle.root.specs.Parts.{units_of}
use Rattle.std.specs.Prelude.{Some}
use Rattle.root.proofs.SquareLaws.{Floor, root_lt, isqrt_is}
use Rattle.root.proofs.FieldLaws.{Whole, some-whole, units-normal}
use Rattle.root.proofs.PatternLaws.{q_low, q_high, rounded-down, rounded-up}

-- The patterns p - 1, p and p + 1 are of three binary32 numbers in a row. The root of b's number lies above the middle of the
-- first two and below the middle of the last two: it is nearer to p's number than to any other, and no tie. Each side is doubled
-- and squared, in units of 2 ^ -298.
pub record Nearest (b p : ℕ) : Type 0 where
  pub above : (units_of (p - 1) + units_of p) * (units_of (p - 1) + units_of p) < 4 * (units_of b * 2 ^ 149)
  pub below : 4 * (units_of b * 2 ^ 149) < (units_of p + units_of (p + 1)) * (units_of p + units_of (p + 1))

-- ---- the numbers of the patterns

units_of_lem : (q k b : ℕ) → 2 ^ 23 ≤ q → q < 2 ^ 24 → b ≡ k * 0x80_0000 + q → units_of b ≡ q * 2 ^ k
units_of_lem q k b l u e =
    let m : 0x80_0000 + b % 0x80_0000 ≡ q = omega arith in
    let x : b / 0x80_0000 - 1 ≡ k = omega arith in
    units-normal b (omega arith) ∙ rw (m, x) refl

-- with the carry to the next power
units-at : (q k b : ℕ) → 2 ^ 23 ≤ q → q ≤ 2 ^ 24 → b ≡ k * 0x80_0000 + q → units_of b ≡ q * 2 ^ k
units-at q k b l u e = go (ltb q 0x100_0000) refl
  where
    carry : (q P : ℕ) → 0x100_0000 ≤ q → q ≤ 0x100_0000 → 0x80_0000 * (2 * P) ≡ q * P
    carry q P l u = let e : q ≡ 0x100_0000 = omega arith in rw e (omega arith)

    go : (t : Bool) → ltb q 0x100_0000 ≡ t → units_of b ≡ q * 2 ^ k
    go true t = units_of_lem q k b l (ltb-true _ _ t) e
    go false t =
        let h : 0x100_0000 ≤ q = ltb-false _ _ t in
        units_of_lem 0x80_0000 (suc k) b (omega arith) (omega arith) (omega arith) ∙ ap (λ (x : ℕ). 0x80_0000 * x) (pow-succ' 2 k) ∙ carry q (2 ^ k) h u

-- the number before is less
units_before : (q k : ℕ) → 1 ≤ k → 2 ^ 23 ≤ q → q < 2 ^ 24 → units_of (k * 0x80_0000 + q - 1) < q * 2 ^ k
units_before q k K l u = go (ltb 0x80_0000 q) refl
  where
    go : (t : Bool) → ltb 0x80_0000 q ≡ t → units_of (k * 0x80_0000 + q - 1) < q * 2 ^ k
    go true t =
        let h : 0x80_0000 < q = ltb-true _ _ t in
        let d : q - 1 < q = omega arith in
        rw (units_of_lem (q - 1) k (k * 0x80_0000 + q - 1) (omega arith) (omega arith) (omega arith)) (mul-lt-mul_of_pos_right d (pow_pos k))
    go false t =
        let h : q ≤ 0x80_0000 = ltb-false _ _ t in
        let s : k ≡ suc (k - 1) = omega arith in
        rw (units_of_lem 0xFF_FFFF (k - 1) (k * 0x80_0000 + q - 1) (omega arith) (omega arith) (omega arith))
        (omega (arith, ap (λ (x : ℕ). 2 ^ x) s, pow-succ' 2 (k - 1), pow_pos (k - 1), mul-le-mul_right (2 ^ k) l))

-- ---- the law, at the n * 4 ^ k of a pattern

under : (A u P n X : ℕ) → A ≤ u * P → u * u < 4 * n → 0 < P * P → n * (P * P) ≡ X → A * A < 4 * X
under A u P n X a x o e = omega (arith, mul-le-mul a a, mul-lt-mul_of_pos_right x o)

-- the same where the first is strict and the second need not be
under_strict : (A u P n X : ℕ) → A < u * P → u * u ≤ 4 * n → n * (P * P) ≡ X → A * A < 4 * X
under_strict A u P n X a x e = omega (arith, squares a, mul-le-mul_right (P * P) x)
  where
    squares : {y z : ℕ} → y < z → y * y < z * z
    squares {y} {z} h = lt_of_le_of_lt (mul-le-mul_right y (le_of_lt h)) (mul-lt-mul_of_pos_left h (lt_of_le_of_lt zero-le h))

over : (A v P n X : ℕ) → v * P ≤ A → 4 * n < v * v → 0 < P * P → n * (P * P) ≡ X → 4 * X < A * A
over A v P n X a x o e = omega (arith, mul-le-mul a a, mul-lt-mul_of_pos_right x o)

-- the sums of two numbers that are a * P and c * P
sum_is : (x y a c P v : ℕ) → x ≡ a * P → y ≡ c * P → a + c ≡ v → x + y ≡ v * P
sum_is x y a c P v ex ey e = rw (ex, ey, ← e) (omega arith)

module _ (b n k q : ℕ) (w : Whole b n k) (f : Floor n q) (low : 2 ^ 23 ≤ q) (high : q < 2 ^ 24) where
  square_pos : 0 < 2 ^ k * 2 ^ k
  square_pos = mul-pos (pow_pos k) (pow_pos k)

  down : n ≤ q * q + q → Nearest b (k * 0x80_0000 + q)
  down h =
      let p = k * 0x80_0000 + q in
      let P = 2 ^ k in
      let X = units_of b * 2 ^ 149 in
      let here : units_of p ≡ q * P = units-at q k p low (le_of_lt high) refl in
      let next : units_of (p + 1) ≡ suc q * P = units-at (suc q) k (p + 1) (omega arith) high (omega arith) in
      let last : units_of (p - 1) + units_of p < 2 * q * P = let l = units_before q k w.k_low low high in omega arith in
      record {
        above = under_strict _ (2 * q) P n X last (omega (arith, f.0)) w.same;
        below = over _ (2 * q + 1) P n X (le_of_eq (sym (sum_is _ _ q (suc q) P (2 * q + 1) here next (omega arith)))) (omega arith) square_pos w.same;
      }

  up : q * q + q < n → Nearest b (k * 0x80_0000 + q + 1)
  up h =
      let p = k * 0x80_0000 + q + 1 in
      let P = 2 ^ k in
      let X = units_of b * 2 ^ 149 in
      let room : suc (suc q) ≤ 2 ^ 24 = root_lt (suc q) (2 ^ 24) (omega (arith, w.n_high)) in
      let last : units_of (p - 1) ≡ q * P = units-at q k (p - 1) low (le_of_lt high) (omega arith) in
      let here : units_of p ≡ suc q * P = units-at (suc q) k p (omega arith) high (omega arith) in
      let next : units_of (p + 1) ≡ suc (suc q) * P = units-at (suc (suc q)) k (p + 1) (omega arith) room (omega arith) in
      let both : units_of p + units_of (p + 1) ≡ (2 * q + 3) * P = sum_is _ _ (suc q) (suc (suc q)) P (2 * q + 3) here next (omega arith) in
      record {
        above = under _ (2 * q + 1) P n X (le_of_eq (sum_is _ _ q (suc q) P (2 * q + 1) last here (omega arith))) (omega arith) square_pos w.same;
        below = over _ (2 * q + 3) P n X (le_of_eq (sym both)) (omega (arith, f.1)) square_pos w.same;
      }

-- the root of each positive number is the nearest one
pub root_is_nearest : (b : ℕ) → 0 < b → b < 0x7F80_0000 → (p : ℕ) × (root_of (of_bits binary32 b) ≡ Some (of_bits binary32 p)) × Nearest b p
root_is_nearest b B H =
    let s = some-whole b B H in
    go s.0 s.1 (isqrt s.0) s.2 (isqrt_is s.0) (leb s.0 (isqrt s.0 * isqrt s.0 + isqrt s.0)) refl
  where
    go : (n k q : ℕ) → Whole b n k → Floor n q → (t : Bool) → leb n (q * q + q) ≡ t
        → (p : ℕ) × (root_of (of_bits binary32 b) ≡ Some (of_bits binary32 p)) × Nearest b p
    go n k q w f true t =
        let h = leb-true _ _ t in
        (k * 0x80_0000 + q, rounded-down b n k q B H w f h, down b n k q w f (q_low b n k q B H w f) (q_high b n k q B H w f) h)
    go n k q w f false t =
        let h = leb-false _ _ t in
        (k * 0x80_0000 + q + 1, rounded-up b n k q B H w f h, up b n k q w f (q_low b n k q B H w f) (q_high b n k q B H w f) h)
