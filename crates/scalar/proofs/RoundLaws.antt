-- Rounding by adding an even whole number from 2 ^ 23 on: there a float has no digit below its point, so the sum is rounded to a
-- whole number, ties to even, and its bit pattern counts up with it. Assumes nothing.
use Prim.Native.Nat.{ℕ, zero, suc, ◌+◌, ◌-◌, ◌*◌, ◌/◌, ◌%◌, ◌^◌, ◌≤◌, ◌<◌, min, zero-le, compare, Ordering}
use mathlib.Core.Bool.{Bool, true, false, not, ◌&&◌, ◌||◌, cond}
use mathlib.Core.Path.{◌≡◌, refl, sym, ap, ◌∙◌, subst}
use native.Mathlib.Nat.{le_refl, le_trans, le_of_eq, le_of_lt, lt_of_lt_of_le, le_of_mul-le-mul_right}
use native.Mathlib.Nat.{mul-one, zero-mul, mul_comm, mul_assoc, mul_right_comm, mul-pos, mul-le-mul_right, mul-lt-mul_of_pos_right, mul-div_cancel}
use native.Mathlib.Nat.{div-one, mod-one, le-div_iff_mul-le, div-lt_iff_lt-mul, add-mul-div_right, add-mul-mod_self_right}
use native.Mathlib.Nat.{min-le_right, min-eq_left, min-eq_right}
use native.Mathlib.Omega.{arith}
use lib.Dec.{T, ltb, eqb}
use borrow.Author.Tests.{ltb-true, eqb-true, eqb-false, lt-ltb, lt-leb}
use mathlib.Core.Logic.{◌⊎◌, inl, inr}
use lib.Pow.{pow_pos, pow_mono}
use lib.IntN.{pos}
use lib.Ieee.{Float, nan, inf, fin, up, down, low, size, odd, nearest, round, add, sum, lt, eq, le, is_nan, to_bits, of_fields, of_bits, of_int, binary32}
use lib.Ieee.Fits.{down_pos}
use lib.Ieee.Exact.{HasValue, odd_sign}
use lib.Ieee.Back.{round_whole}
use lib.Ieee.Nearest.{closest, closest_mono, closest_same}
use lib.Ieee.Scale.{grid, round_val, round_same}
use Rattle.std.specs.Float.{◌≤ᶠ◌, NotNan, IsFloatMin, IsFloatMax}
use Rattle.words.proofs.FloatLaws.{size_is, bits_of}
use Rattle.scalar.specs.Code.{by_rest, rounded, rounded_code}

-- ---- the definition's rounding is that of lib.Ieee

by-rest : (w : ℕ) (o : Ordering) → by_rest w o ≡ nearest w o
by-rest w Ordering.lt = refl
by-rest w Ordering.eq = by_digit (eqb (w % 2) 0) refl
  where
    odd_one : (w % 2 ≡ 0 → ⊥) → w + 1 ≡ w + w % 2
    odd_one h = omega arith

    by_digit : (t : Bool) → eqb (w % 2) 0 ≡ t → cond t w (w + 1) ≡ w + w % 2
    by_digit true e = omega (arith, eqb-true (w % 2) 0 e)
    by_digit false e = odd_one (eqb-false (w % 2) 0 e)
by-rest w Ordering.gt = omega arith

pub rounded-closest : (a b : ℕ) → rounded a b ≡ closest a b
unfolding rounded
rounded-closest a b = rw (mul_comm 2 (a % b)) (by-rest (a / b) (compare (a % b * 2) b))

-- ---- a float that is a / b, or -0 where a is 0

abbrev Is : Float → ℕ → ℕ → Type 0
Is nan a b = ⊥
Is (inf s) a b = ⊥
Is (fin s m e) a b = (s ≡ true → a ≡ 0) × (m * up e * b ≡ a * down e)

value_is : (x : Float) (a b : ℕ) → HasValue x false a b → Is x a b
value_is nan a b h = absurd h
value_is (inf s) a b h = absurd h
value_is (fin true m e) a b h = absurd (subst T h.0 tt)
value_is (fin false m e) a b h = (λ p. absurd (subst T (sym p) tt), h.1)

-- ---- a whole number that is even goes through the rounding of a fraction

nearest_even : (k w : ℕ) (o : Ordering) → k % 2 ≡ 0 → nearest (w + k) o ≡ nearest w o + k
nearest_even k w Ordering.lt h = refl
nearest_even k w Ordering.eq h = omega arith
nearest_even k w Ordering.gt h = omega arith

closest_even : (a b k : ℕ) → 0 < b → k % 2 ≡ 0 → closest (a + k * b) b ≡ closest a b + k
closest_even a b k B h =
    rw (add-mul-div_right a k B, add-mul-mod_self_right a k b) (nearest_even k (a / b) (compare (a % b * 2) b) h)

-- ---- a fraction from 2 ^ 23 to 2 ^ 24 - 1, rounded to a float: the pattern

module _ (a b : ℕ) (B : 0 < b) (lo : 0x80_0000 * b ≤ a) (hi : a ≤ 0xFF_FFFF * b) where
  least : 0x80_0000 ≤ closest a b
  least = closest_mono 0x80_0000 1 a b (omega arith) B (omega arith)

  most : closest a b ≤ 0xFF_FFFF
  most = closest_mono a b 0xFF_FFFF 1 B (omega arith) (omega arith)

  above : a < 0x100_0000 * b
  above = omega arith

  digits : size (a * 2 ^ 149 / b) ≡ 173
  digits =
      let l = le_trans (le_of_eq (mul_right_comm 0x80_0000 (2 ^ 149) b)) (mul-le-mul_right (2 ^ 149) lo) in
      let u = lt_of_lt_of_le (mul-lt-mul_of_pos_right above (pow_pos 149)) (le_of_eq (mul_right_comm 0x100_0000 b (2 ^ 149))) in
      size_is (a * 2 ^ 149 / b) 172 ((le-div_iff_mul-le B).1 l) ((div-lt_iff_lt-mul B).1 u)

  under : closest a b * 2 ^ 149 < 2 ^ 173
  under = mul-lt-mul_of_pos_right {n = 0x100_0000} (omega (arith, most)) (pow_pos 149)

  same : closest (a * 2 ^ 149) (b * 2 ^ 149) ≡ closest a b
  same =
      closest_same (a * 2 ^ 149) (b * 2 ^ 149) a b (mul-pos B (pow_pos 149)) B
      (mul_assoc a (2 ^ 149) b ∙ ap (λ (z : ℕ). a * z) (mul_comm (2 ^ 149) b))

  grid_is : grid binary32 a b ≡ closest a b * 2 ^ 149
  grid_is = rw digits (ap (λ (z : ℕ). z * 2 ^ 149) same)

  value : HasValue (round binary32 false a b) false (closest a b * 2 ^ 149) (2 ^ low binary32)
  value =
      subst (λ (z : ℕ). HasValue (round binary32 false a b) false z (2 ^ low binary32)) grid_is
      (round_val binary32 a b (rw grid_is (lt_of_lt_of_le under (pow_mono {i = 173} {j = 277} (omega arith)))))

  pub pattern : to_bits binary32 (round binary32 false a b) ≡ 149 * 0x80_0000 + closest a b
  pattern =
      let c = closest a b in
      let z : size (c * 2 ^ 149) ≡ 173 = size_is (c * 2 ^ 149) 172 (mul-le-mul_right (2 ^ 149) least) under in
      bits_of (round binary32 false a b) (c * 2 ^ 149) value ∙ rw (z, mul-div_cancel c (pow_pos 149)) refl

-- ---- the sum with a whole number k, and its rounding

same_sum : (x d z g a b k : ℕ) → x * b ≡ a * d → z * 1 ≡ k * g → (x * g + z * d) * b ≡ (a + k * b) * (d * g)
same_sum x d z g a b k h j = omega (arith, ap (λ (t : ℕ). t * g) h, ap (λ (t : ℕ). t * (d * b)) j)

-- where a is 0, so is the number
none : (x a b d : ℕ) → 0 < b → a ≡ 0 → x * b ≡ a * d → x ≡ 0
none zero a b d B z h = refl
none (suc x) a b d B z h = absurd (omega (arith, mul-pos {m = suc x} (omega arith) B, rw z at h))

added : (y w : Float) (a b k : ℕ) → 0 < b → 0 < k → Is y a b → HasValue w false k 1 → add binary32 y w ≡ round binary32 false (a + k * b) b
unfolding add sum
added nan w a b k B K h j = absurd h
added (inf s) w a b k B K h j = absurd h
added (fin s m e) nan a b k B K h j = absurd j
added (fin s m e) (inf t) a b k B K h j = absurd j
added (fin s m e) (fin true n d) a b k B K h j = absurd (subst T j.0 tt)
added (fin false m e) (fin false n d) a b k B K h j =
    round_same binary32 false (m * up e * down d + n * up d * down e) (down e * down d) (a + k * b) b (mul-pos (down_pos e) (down_pos d)) B
    (same_sum (m * up e) (down e) (n * up d) (down d) a b k h.1 j.1)
added (fin true m e) (fin false n d) a b k B K h j =
    let x = m * up e * down d in let y = n * up d * down e in
    let z : m * up e ≡ 0 = none (m * up e) a b (down e) B (h.0 refl) h.1 in
    let z' : x ≡ 0 = rw z (zero-mul (down d)) in
    let p : 0 < n * up d = rw (sym (mul-one (n * up d)) ∙ j.1) (mul-pos K (down_pos d)) in
    let q : x < y = rw z' (mul-pos p (down_pos e)) in
    let f : y - x ≡ x + y = omega arith in
    rw (lt-ltb x y q)
    (round_same binary32 false (y - x) (down e * down d) (a + k * b) b (mul-pos (down_pos e) (down_pos d)) B
    (rw f (same_sum (m * up e) (down e) (n * up d) (down d) a b k h.1 j.1)))

-- ---- what an order of two floats says of their values

order : (x y : ℕ) (r : Bool) → T (ltb x y || (eqb x y && r)) → x ≤ y
order x y r g = go (ltb x y) (eqb x y) refl refl g
  where
    go : (p q : Bool) → ltb x y ≡ p → eqb x y ≡ q → T (p || (q && r)) → x ≤ y
    go true q e f g = le_of_lt (ltb-true x y e)
    go false true e f g = le_of_eq (eqb-true x y f)
    go false false e f g = absurd g

both : (x y : ℕ) (r : Bool) → T (eqb x y && r) → x ≡ y
both x y r g = go (eqb x y) refl g
  where
    go : (q : Bool) → eqb x y ≡ q → T (q && r) → x ≡ y
    go true f g = eqb-true x y f
    go false f g = absurd g

module _ (x y a b d g top : ℕ) (B : 0 < b) (D : 0 < d) (G : 0 < g) (h : x * b ≡ a * d) (j : y * 1 ≡ top * g) where
  scaled_up : x * g ≤ y * d → a ≤ top * b
  scaled_up l =
      let y' : y ≡ top * g = sym (mul-one y) ∙ j in
      let m = mul-le-mul_right b (rw y' at l) in
      le_of_mul-le-mul_right {k = d * g} (omega (arith, ap (λ (z : ℕ). z * g) h, m)) (mul-pos D G)

  scaled_down : y * d ≤ x * g → top * b ≤ a
  scaled_down l =
      let y' : y ≡ top * g = sym (mul-one y) ∙ j in
      let m = mul-le-mul_right b (rw y' at l) in
      le_of_mul-le-mul_right {k = d * g} (omega (arith, ap (λ (z : ℕ). z * g) h, m)) (mul-pos D G)

up_to : (x t : Float) (a b top : ℕ) → 0 < b → Is x a b → HasValue t false top 1 → x ≤ᶠ t → a ≤ top * b
unfolding le lt eq
up_to nan t a b top B v h g = absurd v
up_to (inf s) t a b top B v h g = absurd v
up_to (fin s m e) nan a b top B v h g = absurd h
up_to (fin s m e) (inf r) a b top B v h g = absurd h
up_to (fin s m e) (fin true n d) a b top B v h g = absurd (subst T h.0 tt)
up_to (fin true m e) (fin false n d) a b top B v h g = rw (v.0 refl) zero-le
up_to (fin false m e) (fin false n d) a b top B v h g =
    scaled_up (m * up e) (n * up d) a b (down e) (down d) top B (down_pos e) (down_pos d) v.1 h.1 (order _ _ _ g)

down_to : (x t : Float) (a b top : ℕ) → 0 < b → Is x a b → HasValue t false top 1 → t ≤ᶠ x → top * b ≤ a
unfolding le lt eq
down_to nan t a b top B v h g = absurd v
down_to (inf s) t a b top B v h g = absurd v
down_to (fin s m e) nan a b top B v h g = absurd h
down_to (fin s m e) (inf r) a b top B v h g = absurd h
down_to (fin s m e) (fin true n d) a b top B v h g = absurd (subst T h.0 tt)
down_to (fin true m e) (fin false n d) a b top B v h g =
    scaled_down (m * up e) (n * up d) a b (down e) (down d) top B (down_pos e) (down_pos d) v.1 h.1 (le_of_eq (both _ _ _ g))
down_to (fin false m e) (fin false n d) a b top B v h g =
    scaled_down (m * up e) (n * up d) a b (down e) (down d) top B (down_pos e) (down_pos d) v.1 h.1 (order _ _ _ g)

-- ---- the whole numbers from 2 ^ 23 up to below 2 ^ 24, by their patterns

over_one : (x : Float) (q k : ℕ) → 0 < k → HasValue x false (q * k) k → HasValue x false q 1
over_one nan q k K h = absurd h
over_one (inf s) q k K h = absurd h
over_one (fin s m e) q k K h = (h.0, mul-one (m * up e) ∙ cancel (m * up e) (q * down e) k K (h.1 ∙ mul_right_comm q k (down e)))
  where
    cancel : (m n k : ℕ) → 0 < k → m * k ≡ n * k → m ≡ n
    cancel m n k K h = sym (mul-div_cancel m K) ∙ ap (λ (z : ℕ). z / k) h ∙ mul-div_cancel n K

whole_fields : (t : ℕ) → HasValue (of_fields binary32 false 150 t) false (0x80_0000 + t) 1
unfolding of_fields
whole_fields t = over_one (odd 24 false (0x80_0000 + t) 149 149) (0x80_0000 + t) (2 ^ 149) (pow_pos 149) (odd_sign 24 false (0x80_0000 + t) 149 149)

whole_float : (c : ℕ) → 0x4B00_0000 ≤ c → c < 0x4B80_0000 → HasValue (of_bits binary32 c) false (c - 0x4A80_0000) 1
unfolding of_bits
whole_float c l u =
    let s : c < 0x8000_0000 = omega arith in
    let x : c % 0x8000_0000 / 0x80_0000 ≡ 150 = omega arith in
    let t : c - 0x4A80_0000 ≡ 0x80_0000 + c % 0x80_0000 = omega arith in
    rw (lt-leb 0x8000_0000 c s, x, t) (whole_fields (c % 0x80_0000))

-- ---- an even one of them, w, of the pattern c, added

module _ (w : Float) (c : ℕ) (from : 0x4B00_0000 ≤ c) (to : c ≤ 0x4B7F_FF00) (even : c % 2 ≡ 0)
    (number : HasValue w false (c - 0x4A80_0000) 1) where
  rounds : (y : Float) (a b : ℕ) → 0 < b → a ≤ 255 * b → Is y a b → to_bits binary32 (add binary32 y w) ≡ c + rounded a b
  rounds y a b B l h =
      let k = c - 0x4A80_0000 in
      let e : k % 2 ≡ 0 = omega arith in
      let above : 0x80_0000 ≤ k = omega arith in
      let below : k ≤ 0xFF_FF00 = omega arith in
      let lo : 0x80_0000 * b ≤ a + k * b = omega (arith, mul-le-mul_right b above) in
      let hi : a + k * b ≤ 0xFF_FFFF * b = omega (arith, mul-le-mul_right b below) in
      rw (added y w a b k B (omega arith) h number, rounded-closest a b) (pattern (a + k * b) b B lo hi ∙ rw (closest_even a b k B e) (omega arith))

  -- ---- clamping first and rounding then is rounding first and clamping then

  whole_is : (n : ℕ) → rounded n 1 ≡ n
  whole_is n = rounded-closest n 1 ∙ rw (div-one, mod-one) refl

  module _ (t : Float) (top : ℕ) (l : top ≤ 255) (h : HasValue t false top 1) where
    -- the lesser of x and of the float t, with w added
    clamped : (x r : Float) (a b : ℕ) → 0 < b → Is x a b → (r ≡ x) ⊎ (r ≡ t) → r ≤ᶠ x → r ≤ᶠ t
        → to_bits binary32 (add binary32 r w) ≡ c + min (rounded a b) top
    clamped x r a b B v (inl e) f g =
        let m : a ≤ top * b = up_to x t a b top B v h (subst (λ (z : Float). z ≤ᶠ t) e g) in
        let y = closest_mono a b top 1 B (omega arith) (omega arith) in
        let k : rounded a b ≤ top = rw (rounded-closest a b, ← whole_is top, rounded-closest top 1) y in
        rw (e, min-eq_left k) (rounds x a b B (le_trans m (mul-le-mul_right b l)) v)
    clamped x r a b B v (inr e) f g =
        let m : top * b ≤ a = down_to x t a b top B v h (subst (λ (z : Float). z ≤ᶠ x) e f) in
        let y = closest_mono top 1 a b (omega arith) B (omega arith) in
        let k : top ≤ rounded a b = rw (rounded-closest a b, ← whole_is top, rounded-closest top 1) y in
        rw (e, min-eq_right k) (rounds t top 1 (omega arith) (omega arith) (value_is t top 1 h) ∙ ap (λ (z : ℕ). c + z) (whole_is top))

    nil : (a b : ℕ) → 0 < b → a ≡ 0 → min (rounded a b) top ≡ 0
    nil a b B z =
        let k : rounded a b ≡ 0 = rounded-closest a b ∙ rw z (closest_same 0 b 0 1 B (omega arith) (omega arith)) in
        rw (k, min-eq_left {n = 0} {m = top} zero-le) refl

    past : (t' : Float) → HasValue t' false top 1 → inf false ≤ᶠ t' → ⊥
    unfolding le lt eq
    past nan v g = v
    past (inf s) v g = v
    past (fin s n d) v g = g

    -- x is the greater of q and 0, r the lesser of x and t
    module _ (x r : Float) (p : (r ≡ x) ⊎ (r ≡ t)) (f : NotNan x → r ≤ᶠ x) (g : r ≤ᶠ t) where
      held : (a b : ℕ) → 0 < b → (y : Float) → x ≡ y → Is y a b → NotNan y → to_bits binary32 (add binary32 r w) ≡ c + min (rounded a b) top
      held a b B y i v n = clamped x r a b B (subst (λ (z : Float). Is z a b) (sym i) v) p (f (subst NotNan (sym i) n)) g

      at_zero : (a b : ℕ) → 0 < b → a ≡ 0 → x ≡ of_bits binary32 0 → to_bits binary32 (add binary32 r w) ≡ c + min (rounded a b) top
      unfolding of_bits is_nan
      at_zero a b B z i = held a b B _ i (λ q. z, rw z (omega arith)) tt

      pub code-pattern : (q : Float) → (x ≡ q) ⊎ (x ≡ of_bits binary32 0) → (NotNan q → q ≤ᶠ x) → of_bits binary32 0 ≤ᶠ x
          → to_bits binary32 (add binary32 r w) ≡ c + rounded_code top q
      unfolding rounded_code of_bits le lt eq is_nan
      code-pattern nan (inl i) u v = absurd (subst (λ (z : Float). of_bits binary32 0 ≤ᶠ z) i v)
      code-pattern (inf true) (inl i) u v = absurd (subst (λ (z : Float). of_bits binary32 0 ≤ᶠ z) i v)
      code-pattern (inf false) (inl i) u v = at_top p
        where
          at_top : (r ≡ x) ⊎ (r ≡ t) → to_bits binary32 (add binary32 r w) ≡ c + top
          at_top (inl k) = absurd (past t h (subst (λ (z : Float). z ≤ᶠ t) (k ∙ i) g))
          at_top (inr k) = rw k (rounds t top 1 (omega arith) (omega arith) (value_is t top 1 h) ∙ ap (λ (z : ℕ). c + z) (whole_is top))
      code-pattern (inf false) (inr i) u v = absurd (subst (λ (z : Float). inf false ≤ᶠ z) i (u tt))
      code-pattern (fin false m e) (inl i) u v = held (m * up e) (down e) (down_pos e) _ i (λ q. absurd (subst T (sym q) tt), refl) tt
      code-pattern (fin false m e) (inr i) u v =
          let z = up_to (fin false m e) (of_bits binary32 0) (m * up e) (down e) 0 (down_pos e) (λ q. absurd (subst T (sym q) tt), refl) (refl, refl)
          (subst (λ (z : Float). fin false m e ≤ᶠ z) i (u tt)) in
          at_zero (m * up e) (down e) (down_pos e) (omega arith) i
      code-pattern (fin true m e) (inl i) u v =
          let k : 0 * 1 * down e ≡ m * up e * 1 = both _ _ _ (subst (λ (z : Float). of_bits binary32 0 ≤ᶠ z) i v) in
          let z : m * up e ≡ 0 = omega arith in
          held (m * up e) (down e) (down_pos e) _ i (λ q. z, refl) tt ∙ ap (λ (z : ℕ). c + z) (nil (m * up e) (down e) (down_pos e) z)
      code-pattern nan (inr i) u v = at_zero 0 1 (omega arith) refl i ∙ ap (λ (z : ℕ). c + z) (nil 0 1 (omega arith) refl)
      code-pattern (inf true) (inr i) u v = at_zero 0 1 (omega arith) refl i ∙ ap (λ (z : ℕ). c + z) (nil 0 1 (omega arith) refl)
      code-pattern (fin true m e) (inr i) u v = at_zero 0 1 (omega arith) refl i ∙ ap (λ (z : ℕ). c + z) (nil 0 1 (omega arith) refl)

pub code_le : (top : ℕ) (q : Float) → rounded_code top q ≤ top
unfolding rounded_code
code_le top nan = zero-le
code_le top (inf false) = le_refl top
code_le top (inf true) = zero-le
code_le top (fin false m e) = min-le_right (rounded (m * up e) (down e)) top
code_le top (fin true m e) = zero-le

-- a float whose pattern is below that of the infinity is no NaN
no_nan : (x : Float) → to_bits binary32 x < 0x7F80_0000 → T (not (is_nan x))
unfolding to_bits is_nan
no_nan nan h = absurd (omega arith)
no_nan (inf s) h = tt
no_nan (fin s m e) h = tt

-- ---- as the code works it out: with the largest code as a float, and w by its pattern

float_of : (top : ℕ) → top ≤ 255 → HasValue (of_int binary32 (pos top)) false top 1
unfolding of_int
float_of top l = round_whole binary32 false top (omega arith)

not_nan : (x : Float) (a : ℕ) → HasValue x false a 1 → NotNan x
unfolding is_nan
not_nan nan a h = absurd h
not_nan (inf s) a h = absurd h
not_nan (fin s m e) a h = tt

zero_number : NotNan (of_bits binary32 0)
unfolding of_bits is_nan
zero_number = tt

-- the greater of two is one of them, and so is the lesser
one_of : (b : Bool) (x y z : Float) → z ≡ cond b x y → (z ≡ x) ⊎ (z ≡ y)
one_of true x y z e = inl e
one_of false x y z e = inr e

other : {x y z : Float} → (z ≡ y) ⊎ (z ≡ x) → (z ≡ x) ⊎ (z ≡ y)
other (inl e) = inr e
other (inr e) = inl e

greater_of : (x y z : Float) → IsFloatMax x y z → (z ≡ x) ⊎ (z ≡ y)
greater_of x y z (inl e) = one_of _ x y z e
greater_of x y z (inr e) = other (one_of _ y x z e)

lesser_of : (x y z : Float) → IsFloatMin x y z → (z ≡ x) ⊎ (z ≡ y)
lesser_of x y z (inl e) = one_of _ x y z e
lesser_of x y z (inr e) = other (one_of _ y x z e)

-- x is q.max(0.0), and r is x.min(top)
module _ (top : ℕ) (q x r : Float) {c : ℕ} (l : top ≤ 255) (from : 0x4B00_0000 ≤ c) (to : c ≤ 0x4B7F_FF00) (even : c % 2 ≡ 0)
    (max : IsFloatMax q (of_bits binary32 0) x) (u : NotNan q → q ≤ᶠ x) (v : NotNan (of_bits binary32 0) → of_bits binary32 0 ≤ᶠ x)
    (min : IsFloatMin x (of_int binary32 (pos top)) r) (f : NotNan x → r ≤ᶠ x)
    (g : NotNan (of_int binary32 (pos top)) → r ≤ᶠ of_int binary32 (pos top)) where
  code_bits : to_bits binary32 (add binary32 r (of_bits binary32 c)) ≡ c + rounded_code top q
  code_bits =
      let t = of_int binary32 (pos top) in
      let h = float_of top l in
      code-pattern (of_bits binary32 c) c from to even (whole_float c from (omega arith)) t top l h x r (lesser_of x t r min) f (g (not_nan t top h))
      q (greater_of q (of_bits binary32 0) x max) u (v zero_number)

  pub sum_number : T (not (is_nan (add binary32 r (of_bits binary32 c))))
  sum_number = no_nan _ (omega (arith, code_bits, code_le top q))

  pub sum-from : c ≤ to_bits binary32 (add binary32 r (of_bits binary32 c))
  sum-from = omega (arith, code_bits)

  pub sum-code : to_bits binary32 (add binary32 r (of_bits binary32 c)) - c ≡ rounded_code top q
  sum-code = omega (arith, code_bits)
