-- The bit patterns of the positive numbers of binary32: what number each stands for, which pattern q * 2 ^ k smallest values
-- have, and so the pattern of a root. Assumes nothing.
use mathlib.Core.Path.{◌≡◌, refl, sym, ap, ◌∙◌, subst}
use mathlib.Core.Bool.{Bool, true, false, cond}
use Prim.Native.Nat.{ℕ, zero, suc, ◌+◌, ◌-◌, ◌*◌, ◌/◌, ◌%◌, ◌^◌, ◌≤◌, ◌<◌}
use native.Mathlib.Nat.{le_trans, le_of_lt, lt_of_lt_of_le, lt_of_le_of_lt, le_of_suc-le-suc, mod-eq_of_lt, div-eq_of_lt}
use native.Mathlib.Nat.{mul-div_cancel, mul-le-mul_right, mul-one, mul-pos, mul_assoc, mul_right_comm}
use native.Mathlib.Omega.{arith}
use lib.Dec.{T, ltb, lit<}
use lib.Pow.{pow-add, pow_pos, pow_mono, shl_lt}
use lib.Ieee.{Float, nan, inf, fin, binary32, size, odd, units, of_fields, of_bits, fits}
use lib.Ieee.Fits.{odd-fits}
use lib.Ieee.Bits.{of_bits-to_bits}
use lib.Ieee.Exact.{HasValue, odd_sign, units_val}
use lib.Ieee.Positive.{num, den, positive, den_pos, value→cross, positive_of_value}
use borrow.Author.Tests.{ltb-true, ltb-false, lt-ltb, lt-leb, ne_eqb}
use Rattle.words.proofs.FloatLaws.{size_is, bits_of}
use Rattle.root.specs.Root.{root_of, round_root}
use Rattle.root.specs.Parts.{units_of}
use Rattle.std.specs.Prelude.{Some}
use Rattle.root.proofs.SquareLaws.{Floor, root_lt}
use Rattle.root.proofs.FieldLaws.{Whole, units-subnormal, units-normal}
use Rattle.root.proofs.RoundingLaws.{root_down, root_up}

-- ---- from a pattern to its number

-- the pattern of a number that is not negative: its sign is clear
plain : (b : ℕ) → b < 0x7F80_0000 → of_bits binary32 b ≡ of_fields binary32 false (b / 0x80_0000) (b % 0x80_0000)
unfolding of_bits
plain b h =
    let u : b < 0x8000_0000 = omega arith in
    rw (lt-leb 0x8000_0000 b u, mod-eq_of_lt u) refl

subnormal : (b : ℕ) → b < 0x80_0000 → of_bits binary32 b ≡ odd 24 false b 0 149
unfolding of_fields
subnormal b h = plain b (omega arith) ∙ rw (div-eq_of_lt h, mod-eq_of_lt h) refl

under_ones : (t x : ℕ) → suc x < 255 → of_fields binary32 false (suc x) t ≡ odd 24 false (0x80_0000 + t) x 149
unfolding of_fields
under_ones t x h = rw (ne_eqb (suc x) 255 (λ e. omega arith)) refl

normal : (b : ℕ) → 0x80_0000 ≤ b → b < 0x7F80_0000 → of_bits binary32 b ≡ odd 24 false (0x80_0000 + b % 0x80_0000) (b / 0x80_0000 - 1) 149
normal b h k =
    let x = b / 0x80_0000 - 1 in
    let e : b / 0x80_0000 ≡ suc x = omega arith in
    plain b k ∙ ap (λ (z : ℕ). of_fields binary32 false z (b % 0x80_0000)) e ∙ under_ones (b % 0x80_0000) x (omega arith)

pub bits_value : (b : ℕ) → b < 0x7F80_0000 → HasValue (of_bits binary32 b) false (units_of b) (2 ^ 149)
bits_value b h = go (ltb b 0x80_0000) refl
  where
    of_odd : (v : Float) (q k n : ℕ) → v ≡ odd 24 false q k 149 → q * 2 ^ k ≡ n → HasValue v false n (2 ^ 149)
    of_odd v q k n e u = rw (e, ← u) (odd_sign 24 false q k 149)

    go : (t : Bool) → ltb b 0x80_0000 ≡ t → HasValue (of_bits binary32 b) false (units_of b) (2 ^ 149)
    go true t = let l = ltb-true _ _ t in of_odd _ b 0 _ (subnormal b l) (mul-one b ∙ sym (units-subnormal b l))
    go false t = let l = ltb-false _ _ t in of_odd _ _ (b / 0x80_0000 - 1) _ (normal b l h) (sym (units-normal b l))

-- ---- from a number to its pattern

units-fits : (q k : ℕ) → q ≤ 2 ^ 24 → q * 2 ^ k < 2 ^ 277 → T (fits binary32 (units binary32 false q k))
unfolding units
units-fits q k l u = rw (lt-ltb (q * 2 ^ k) (2 ^ 277) u) (odd-fits binary32 25 false q k (lt_of_le_of_lt l (lit< tt)) l u)

-- an a of x * 2 ^ z smallest values, where x has 24 digits
pattern_of : (a x z : ℕ) → a ≡ x * 2 ^ z → 2 ^ 23 ≤ x → x < 2 ^ 24 → (size a - 24) * 0x80_0000 + a / 2 ^ (size a - 24) ≡ z * 0x80_0000 + x
pattern_of a x z e l u =
    let lo : 2 ^ (23 + z) ≤ a = rw (pow-add 2 23 z, e) (mul-le-mul_right (2 ^ z) l) in
    let hi : a < 2 ^ suc (23 + z) = subst (λ (j : ℕ). a < 2 ^ j) one (rw e (shl_lt 24 z u)) in
    let s : size a - 24 ≡ z = let h = size_is a (23 + z) lo hi in omega arith in
    rw (s, e, mul-div_cancel x (pow_pos z)) refl
  where
    one : 24 + z ≡ suc (23 + z)
    one = omega arith

-- with 24 digits, and with the carry to 25
pattern-at : (q k : ℕ) → 2 ^ 23 ≤ q → q ≤ 2 ^ 24
    → (size (q * 2 ^ k) - 24) * 0x80_0000 + q * 2 ^ k / 2 ^ (size (q * 2 ^ k) - 24) ≡ k * 0x80_0000 + q
pattern-at q k l u = go (ltb q 0x100_0000) refl
  where
    carry : (k q : ℕ) → 0x100_0000 ≤ q → q ≤ 0x100_0000 → (q * 2 ^ k ≡ 0x80_0000 * 2 ^ suc k) × (suc k * 0x80_0000 + 0x80_0000 ≡ k * 0x80_0000 + q)
    carry k q l u =
        let e : q ≡ 0x100_0000 = omega arith in
        (rw e (sym (pow-add 2 24 k) ∙ ap (λ (j : ℕ). 2 ^ j) (same k) ∙ pow-add 2 23 (suc k)), omega arith)
      where
        same : (k : ℕ) → 24 + k ≡ 23 + suc k
        same k = omega arith

    go : (t : Bool) → ltb q 0x100_0000 ≡ t → (size (q * 2 ^ k) - 24) * 0x80_0000 + q * 2 ^ k / 2 ^ (size (q * 2 ^ k) - 24) ≡ k * 0x80_0000 + q
    go true t = pattern_of (q * 2 ^ k) q k refl l (ltb-true _ _ t)
    go false t =
        let c = carry k q (ltb-false _ _ t) u in
        pattern_of (q * 2 ^ k) 0x80_0000 (suc k) c.0 (omega arith) (omega arith) ∙ c.1

pub units-pattern : (q k : ℕ) → 2 ^ 23 ≤ q → q ≤ 2 ^ 24 → k ≤ 189 → of_bits binary32 (k * 0x80_0000 + q) ≡ units binary32 false q k
units-pattern q k l u h =
    let v = units binary32 false q k in
    let fine : q * 2 ^ k < 2 ^ 277 = lt_of_lt_of_le (shl_lt 25 k (lt_of_le_of_lt u (lit< tt))) (pow_mono {i = 25 + k} {j = 277} (omega arith)) in
    ap (of_bits binary32) (sym (bits_of v (q * 2 ^ k) (units_val binary32 false q k fine) ∙ pattern-at q k l u))
    ∙ of_bits-to_bits binary32 v (units-fits q k u fine)

-- ---- the root of a positive number, by its pattern

root_positive : (v : Float) → T (positive v) → root_of v ≡ Some (round_root binary32 (num v) (den v))
unfolding root_of
root_positive nan p = absurd p
root_positive (inf s) p = absurd p
root_positive (fin true m e) p = absurd p
root_positive (fin false zero e) p = absurd p
root_positive (fin false (suc m) e) p = refl

units-pos : (b : ℕ) → 0 < b → 0 < units_of b
units-pos b h = go (ltb b 0x80_0000)
  where
    go : (t : Bool) → 0 < cond t b ((0x80_0000 + b % 0x80_0000) * 2 ^ (b / 0x80_0000 - 1))
    go true = h
    go false = mul-pos (omega arith) (pow_pos (b / 0x80_0000 - 1))

module _ (b n k q : ℕ) (B : 0 < b) (H : b < 0x7F80_0000) (w : Whole b n k) (f : Floor n q) where
  pub q_low : 2 ^ 23 ≤ q
  q_low = le_of_suc-le-suc (root_lt (2 ^ 23) (suc q) (lt_of_le_of_lt w.n_low f.1))

  pub q_high : q < 2 ^ 24
  q_high = root_lt q (2 ^ 24) (lt_of_le_of_lt f.0 (lt_of_le_of_lt w.n_high (lit< tt)))

  value : HasValue (of_bits binary32 b) false (units_of b) (2 ^ 149)
  value = bits_value b H

  at : root_of (of_bits binary32 b) ≡ Some (round_root binary32 (num (of_bits binary32 b)) (den (of_bits binary32 b)))
  at = root_positive (of_bits binary32 b) (positive_of_value (of_bits binary32 b) (units_of b) (2 ^ 149) value (units-pos b B))

  scale : num (of_bits binary32 b) * 2 ^ 298 ≡ n * (2 ^ k * 2 ^ k) * den (of_bits binary32 b)
  scale = cross _ _ _ (2 ^ 149) _ (value→cross (of_bits binary32 b) (units_of b) (2 ^ 149) value) w.same
    where
      cross : (N D U L X : ℕ) → N * L ≡ U * D → X ≡ U * L → N * (L * L) ≡ X * D
      cross N D U L X e g = sym (mul_assoc N L L) ∙ ap (λ (x : ℕ). x * L) e ∙ mul_right_comm U D L ∙ ap (λ (x : ℕ). x * D) (sym g)

  pub rounded-down : n ≤ q * q + q → root_of (of_bits binary32 b) ≡ Some (of_bits binary32 (k * 0x80_0000 + q))
  rounded-down h =
      let v = of_bits binary32 b in
      let r = root_down (num v) (den v) n k q (den_pos v) q_low q_high f scale h in
      at ∙ ap Some (r ∙ sym (units-pattern q k q_low (le_of_lt q_high) w.k_high))

  pub rounded-up : q * q + q < n → root_of (of_bits binary32 b) ≡ Some (of_bits binary32 (k * 0x80_0000 + q + 1))
  rounded-up h =
      let v = of_bits binary32 b in
      let r = root_up (num v) (den v) n k q (den_pos v) q_low q_high f scale h in
      let p = units-pattern (suc q) k (le_trans q_low (omega arith)) q_high w.k_high in
      at ∙ ap Some (r ∙ sym p ∙ ap (of_bits binary32) (next k q))
    where
      next : (k q : ℕ) → k * 0x80_0000 + suc q ≡ k * 0x80_0000 + q + 1
      next k q = omega arith
