-- A positive number by its pattern's fields, m * 2 ^ e with an m of 24 digits, and then n * 4 ^ k: what `take_apart` and `even`
-- work out, in units of 2 ^ -298. A subnormal pattern b has j + 1 digits and 31 - j leading zeros, so a shift by 23 - j gives it
-- 24 digits. Assumes nothing.
use mathlib.Core.Path.{◌≡◌, refl, sym, ap, ◌∙◌, subst}
use mathlib.Core.Bool.{Bool, true, false}
use Prim.Native.Nat.{ℕ, suc, ◌+◌, ◌-◌, ◌*◌, ◌/◌, ◌%◌, ◌^◌, ◌≤◌, ◌<◌}
use native.Mathlib.Nat.{le_trans, lt_of_lt_of_le, lt_of_not-le, not-le_of_lt, mul_assoc, mul-le-mul_right, mod-eq_of_lt}
use native.Mathlib.Omega.{arith}
use lib.Dec.{ltb, eqb}
use lib.Pow.{pow-add, pow_mono, shl_lt}
use lib.Count.{count_leading_zeros, leading_top}
use borrow.Author.Tests.{ltb-true, ltb-false, lt-ltb, le-ltb, eqb-true, eqb-false}
use Rattle.root.specs.Parts.{units_of, IsParts, IsScaled}

-- the number of a subnormal pattern, and of a normal one
pub units-subnormal : (b : ℕ) → b < 0x80_0000 → units_of b ≡ b
units-subnormal b h = rw (lt-ltb b 0x80_0000 h)

pub units-normal : (b : ℕ) → 0x80_0000 ≤ b → units_of b ≡ (0x80_0000 + b % 0x80_0000) * 2 ^ (b / 0x80_0000 - 1)
units-normal b h = rw (le-ltb b 0x80_0000 h)

-- the shift's length, for the z leading zeros of b
abbrev pub Shift : ℕ → ℕ → Type 0
Shift b z = (8 ≤ z) × (z - 8 ≤ 23) × (2 ^ 23 ≤ b * 2 ^ (z - 8)) × (b * 2 ^ (z - 8) < 2 ^ 24)

pub shift : (b : ℕ) → 0 < b → b < 2 ^ 23 → Shift b (count_leading_zeros 32 b)
shift b p h =
    let t = leading_top 32 b p (lt_of_lt_of_le h (pow_mono {i = 23} {j = 32} (omega arith))) in
    let j = t.0 in
    let s = count_leading_zeros 32 b - 8 in
    let j-lt : j < 23 = lt_of_not-le (λ (g : 23 ≤ j). not-le_of_lt h (le_trans (pow_mono g) t.2)) in
    let low : j + s ≡ 23 = omega (arith, t.1) in
    let high : suc j + s ≡ 24 = omega (arith, t.1) in (
      omega (arith, t.1),
      omega (arith, t.1),
      subst (λ (x : ℕ). x ≤ b * 2 ^ s) (sym (pow-add 2 j s) ∙ ap (λ (x : ℕ). 2 ^ x) low) (mul-le-mul_right (2 ^ s) t.2),
      subst (λ (x : ℕ). b * 2 ^ s < 2 ^ x) high (shl_lt (suc j) s t.3),
    )

-- m * 2 ^ x with its power parted another way
joined : (m x y z : ℕ) → x + y ≡ z → m * 2 ^ x * 2 ^ y ≡ m * 2 ^ z
joined m x y z e = mul_assoc m (2 ^ x) (2 ^ y) ∙ ap (λ (a : ℕ). m * a) (sym (pow-add 2 x y) ∙ ap (λ (a : ℕ). 2 ^ a) e)

pub below : (b : ℕ) → 0 < b → b < 0x80_0000
    → IsParts b (b * 2 ^ (count_leading_zeros 32 b - 8) % 2 ^ 64) (149 - (count_leading_zeros 32 b - 8))
below b p h =
    let s = count_leading_zeros 32 b - 8 in
    let f = shift b p h in
    let whole : b * 2 ^ s % 2 ^ 64 ≡ b * 2 ^ s = mod-eq_of_lt (lt_of_lt_of_le f.3 (pow_mono {i = 24} {j = 64} (omega arith))) in
    subst (λ (m : ℕ). IsParts b m (149 - s)) (sym whole)
    record {
      m_low = f.2;
      m_high = f.3;
      e_low = omega (arith, f.1);
      e_high = omega arith;
      same = joined b s (149 - s) 149 (omega (arith, f.1)) ∙ ap (λ (x : ℕ). x * 2 ^ 149) (sym (units-subnormal b h));
    }

pub from : (b : ℕ) → 0x80_0000 ≤ b → b < 0x7F80_0000 → IsParts b (b % 0x80_0000 + 0x80_0000) (b / 0x80_0000 + 148)
from b l h =
    let m = 0x80_0000 + b % 0x80_0000 in
    let x = b / 0x80_0000 in
    let e : b % 0x80_0000 + 0x80_0000 ≡ m = omega arith in
    record {
      m_low = omega arith;
      m_high = omega arith;
      e_low = omega arith;
      e_high = omega arith;
      same =
          ap (λ (y : ℕ). y * 2 ^ (x + 148)) e
          ∙ sym (joined m (x - 1) 149 (x + 148) (omega arith))
          ∙ ap (λ (y : ℕ). y * 2 ^ 149) (sym (units-normal b l));
    }

-- ---- an even power

pub parted : (m e j k : ℕ) → e ≡ j + (k + k) → m * 2 ^ j * (2 ^ k * 2 ^ k) ≡ m * 2 ^ e
parted m e j k h = ap (λ (x : ℕ). m * 2 ^ j * x) (sym (pow-add 2 k k)) ∙ joined m j (k + k) e (sym h)

abbrev pub Bounds : ℕ → ℕ → Type 0
Bounds m e = (2 ^ 23 ≤ m) × (m < 2 ^ 24) × (126 ≤ e) × (e ≤ 402)

-- a factor 2 ^ j, for a j that leaves an even power
scaled : (m e j k : ℕ) → Bounds m e → (23 ≤ j) × (j ≤ 24) → e ≡ j + (k + k) → 2 ^ 46 ≤ m * 2 ^ j → m * 2 ^ j ≤ 2 ^ 48 - 2 ^ 24
    → IsScaled m e (m * 2 ^ j) k
scaled m e j k b r h l u =
    record { n_low = l; n_high = u; k_low = omega (arith, b.2); k_high = omega (arith, b.3); same = parted m e j k h }

pub at_even : (m e : ℕ) → Bounds m e → e % 2 ≡ 0 → IsScaled m e (m * 0x100_0000) ((e - 24) / 2)
at_even m e b h = scaled m e 24 ((e - 24) / 2) b (omega arith, omega arith) (omega (arith, b.2)) (omega (arith, b.0)) (omega (arith, b.1))

pub at-odd : (m e : ℕ) → Bounds m e → e % 2 ≡ 1 → IsScaled m e (m * 0x80_0000) ((e - 23) / 2)
at-odd m e b h = scaled m e 23 ((e - 23) / 2) b (omega arith, omega arith) (omega (arith, b.2)) (omega (arith, b.0)) (omega (arith, b.1))

-- ---- so each positive pattern's number is some n * 4 ^ k

pub record Whole (b n k : ℕ) : Type 0 where
  pub n_low : 2 ^ 46 ≤ n
  pub n_high : n ≤ 2 ^ 48 - 2 ^ 24
  pub k_low : 1 ≤ k
  pub k_high : k ≤ 189
  pub same : n * (2 ^ k * 2 ^ k) ≡ units_of b * 2 ^ 149

pub whole_of : (b m e n k : ℕ) → IsParts b m e → IsScaled m e n k → Whole b n k
whole_of b m e n k p s =
    record { n_low = s.n_low; n_high = s.n_high; k_low = s.k_low; k_high = s.k_high; same = s.same ∙ p.same }

some_parts : (b : ℕ) → 0 < b → b < 0x7F80_0000 → (m : ℕ) × (e : ℕ) × IsParts b m e
some_parts b B H = go (ltb b 0x80_0000) refl
  where
    go : (t : Bool) → ltb b 0x80_0000 ≡ t → (m : ℕ) × (e : ℕ) × IsParts b m e
    go true t = (_, _, below b B (ltb-true _ _ t))
    go false t = (_, _, from b (ltb-false _ _ t) H)

some-scaled : (m e : ℕ) → Bounds m e → (n : ℕ) × (k : ℕ) × IsScaled m e n k
some-scaled m e b = go (eqb (e % 2) 0) refl
  where
    one : (e % 2 ≡ 0 → ⊥) → e % 2 ≡ 1
    one h = omega arith

    go : (t : Bool) → eqb (e % 2) 0 ≡ t → (n : ℕ) × (k : ℕ) × IsScaled m e n k
    go true t = (_, _, at_even m e b (eqb-true _ _ t))
    go false t = (_, _, at-odd m e b (one (eqb-false _ _ t)))

pub some-whole : (b : ℕ) → 0 < b → b < 0x7F80_0000 → (n : ℕ) × (k : ℕ) × Whole b n k
some-whole b B H =
    let p = some_parts b B H in
    let s = some-scaled p.0 p.1 (p.2.m_low, p.2.m_high, p.2.e_low, p.2.e_high) in
    (s.0, s.1, whole_of b p.0 p.1 s.0 s.1 p.2 s.2)
