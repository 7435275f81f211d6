-- The keys of two floats that are no NaN are in the order of the floats. Assumes nothing.
use mathlib.Core.Path.{◌≡◌, refl, sym, ap, subst, ◌∙◌}
use mathlib.Core.Logic.{◌⊎◌, inl, inr}
use mathlib.Core.Bool.{Bool, true, false, not, cond}
use Prim.Native.Nat.{ℕ, zero, suc, ◌+◌, ◌-◌, ◌*◌, ◌/◌, ◌%◌, ◌^◌, ◌<◌, ◌≤◌}
use native.Mathlib.Nat.{mul-lt-mul_of_pos_right, mul-le-mul_left, mul-le-mul_right, mul-pos, mul_assoc, mul_comm, mul_right_comm}
use native.Mathlib.Nat.{le_of_mul-le-mul_right, two-pow-succ}
use native.Mathlib.Decide.{dec_lt, ℕ_discrete}
use native.Mathlib.Omega.{arith}
use borrow.Author.Tests.{ltb-true, ltb-false, lt-ltb, le-ltb, le-leb, lt-leb, eqb-true, eqb-false}
use lib.Dec.{ltb, leb, eqb}
use lib.Pow.{pow_pos, pow_mono}
use lib.Ieee.{Float, nan, inf, fin, up, down, below, lt, nan_bits, odd, of_fields, of_bits, binary32}
use lib.Ieee.Bits.{nan_bits_above}
use lib.Ieee.Exact.{HasValue, odd_sign}
use lib.Ieee.Fits.{down_pos}
use Rattle.scan.specs.Parts.{key_of, no_key}

-- two tests that hold together
pub ltb_same : (a b c d : ℕ) → (a < b → c < d) → (b ≤ a → d ≤ c) → ltb a b ≡ ltb c d
ltb_same a b c d f g = go (ltb a b) refl
  where
    go : (t : Bool) → ltb a b ≡ t → t ≡ ltb c d
    go true e = sym (lt-ltb c d (f (ltb-true a b e)))
    go false e = sym (le-ltb c d (g (ltb-false a b e)))

-- ---- two finite floats of values A / c and B / c

-- X / k and Y / k are those values
scaled : (X Y A B c k : ℕ) → 0 < c → 0 < k → X * c ≡ A * k → Y * c ≡ B * k → ltb X Y ≡ ltb A B
scaled X Y A B c k pc pk p q =
    ltb_same X Y A B (λ h. lt_of k (omega (arith, mul-le-mul_right c h))) (λ h. le_of_mul-le-mul_right (omega (arith, mul-le-mul_right c h)) pk)
  where
    lt_of : (k : ℕ) → A * k < B * k → A < B
    lt_of k h = elim (dec_lt A B) [ yes l ↦ l | no g ↦ absurd (omega (arith, mul-le-mul_right k (not_less g))) ]
      where
        not_less : (A < B → ⊥) → B ≤ A
        not_less g = omega arith

below_values : (s t : Bool) (X Y A B c k : ℕ) → 0 < c → 0 < k → X * c ≡ A * k → Y * c ≡ B * k → below s X t Y ≡ below s A t B
below_values false false X Y A B c k pc pk p q = scaled X Y A B c k pc pk p q
below_values false true X Y A B c k pc pk p q = refl
below_values true false X Y A B c k pc pk p q = scaled 0 (X + Y) 0 (A + B) c k pc pk (omega arith) (omega arith)
below_values true true X Y A B c k pc pk p q = scaled Y X B A c k pc pk q p

lt_values : (x y : Float) (s t : Bool) (A B c : ℕ) → 0 < c → HasValue x s A c → HasValue y t B c → lt x y ≡ below s A t B
unfolding lt
lt_values nan y s t A B c pc h k = absurd h
lt_values (inf u) y s t A B c pc h k = absurd h
lt_values (fin u m e) nan s t A B c pc h k = absurd k
lt_values (fin u m e) (inf w) s t A B c pc h k = absurd k
lt_values (fin u m e) (fin w n d) s t A B c pc h k =
    rw (h.0, k.0) (below_values s t (m * up e * down d) (n * up d * down e) A B c (down e * down d) pc (mul-pos (down_pos e) (down_pos d))
    (mul_right_comm (m * up e) (down d) c ∙ ap (λ (z : ℕ). z * down d) h.1 ∙ mul_assoc A (down e) (down d))
    (mul_right_comm (n * up d) (down e) c ∙ ap (λ (z : ℕ). z * down e) k.1 ∙ mul_assoc B (down d) (down e)
    ∙ ap (λ (z : ℕ). B * z) (mul_comm (down d) (down e))))

-- ---- the value of a magnitude's bits, in units of the least subnormal: field x, digits t
value : ℕ → ℕ → ℕ
value zero t = t * 2 ^ 0
value (suc x) t = (0x80_0000 + t) * 2 ^ x

pow_0 : 2 ^ 0 ≡ 1
pow_0 = refl

value-high : (x t : ℕ) → t < 0x80_0000 → value x t < 0x80_0000 * 2 ^ x
unfolding value
value-high zero t h = omega (arith, pow_0)
value-high (suc x) t h = omega (arith, mul-lt-mul_of_pos_right {m = 0x80_0000 + t} {n = 0x100_0000} (omega arith) (pow_pos x), two-pow-succ x)

value_low : (x t : ℕ) → 0x80_0000 * 2 ^ x ≤ value (suc x) t
unfolding value
value_low x t = mul-le-mul_right (2 ^ x) (omega arith)

digits_less : (x t r : ℕ) → t < r → value x t < value x r
unfolding value
digits_less zero t r l = omega (arith, pow_0)
digits_less (suc x) t r l = omega (arith, mul-le-mul_right (2 ^ x) l, pow_pos x)

-- a larger field has a larger value, and in one field more digits do
value_less : (x t y r : ℕ) → t < 0x80_0000 → (x < y) ⊎ ((x ≡ y) × (t < r)) → value x t < value y r
value_less x t zero r h (inl l) = absurd (omega arith)
value_less x t (suc y) r h (inl l) =
    let p : 2 ^ x ≤ 2 ^ y = pow_mono (omega arith) in
    omega (arith, value-high x t h, value_low y r, mul-le-mul_left 0x80_0000 p)
value_less x t y r h (inr e) = subst (λ (z : ℕ). value x t < value z r) e.0 (digits_less x t r e.1)

magnitude : ℕ → ℕ
magnitude a = value (a / 0x80_0000) (a % 0x80_0000)

magnitude_less : (a b : ℕ) → a < b → magnitude a < magnitude b
unfolding magnitude
magnitude_less a b h =
    value_less (a / 0x80_0000) (a % 0x80_0000) (b / 0x80_0000) (b % 0x80_0000) (omega arith)
    (elim (dec_lt (a / 0x80_0000) (b / 0x80_0000)) [ yes l ↦ inl l | no g ↦ inr (omega arith, omega arith) ])

magnitude_same : (a b : ℕ) → ltb (magnitude a) (magnitude b) ≡ ltb a b
magnitude_same a b = sym (ltb_same a b (magnitude a) (magnitude b) (magnitude_less a b) back)
  where
    back : b ≤ a → magnitude b ≤ magnitude a
    back h = elim (ℕ_discrete b a) [ yes e ↦ omega (arith, ap magnitude e) | no g ↦ omega (arith, magnitude_less b a (omega arith)) ]

-- ---- what a pattern that is no NaN's reads: a is its magnitude's bits
Pattern : Float → Bool → ℕ → Type 0
Pattern x s a = (HasValue x s (magnitude a) (2 ^ 149) × (a < 0x7F80_0000)) ⊎ ((x ≡ inf s) × (a ≡ 0x7F80_0000))

fields : (s : Bool) (x t a : ℕ) → t < 0x80_0000 → a ≡ x * 0x80_0000 + t → a ≤ 0x7F80_0000 → Pattern (of_fields binary32 s x t) s a
unfolding of_fields magnitude value Pattern
fields s zero t a h e l =
    let d : a / 0x80_0000 ≡ 0 = omega arith in
    let r : a % 0x80_0000 ≡ t = omega arith in
    inl (rw (d, r) (odd_sign 24 s t 0 149), omega arith)
fields s (suc x) t a h e l = go (eqb (suc x) 255) refl
  where
    go : (b : Bool) → eqb (suc x) 255 ≡ b → Pattern (cond b (cond (eqb t 0) (inf s) nan) (odd 24 s (0x80_0000 + t) x 149)) s a
    go true q =
        let z : suc x ≡ 255 = eqb-true (suc x) 255 q in
        let w : t ≡ 0 = omega arith in
        inr (rw w refl, omega arith)
    go false q =
        let z : suc x ≡ 255 → ⊥ = eqb-false (suc x) 255 q in
        let d : a / 0x80_0000 ≡ suc x = omega arith in
        let r : a % 0x80_0000 ≡ t = omega arith in
        inl (rw (d, r) (odd_sign 24 s (0x80_0000 + t) x 149), omega arith)

pattern : (u : ℕ) → nan_bits binary32 u ≡ false → Pattern (of_bits binary32 u) (leb 0x8000_0000 u) (u % 0x8000_0000)
unfolding of_bits
pattern u n =
    let h : u % 0x8000_0000 ≤ 0x7F80_0000 = ltb-false _ _ (sym (nan_bits_above binary32 u) ∙ n) in
    fields (leb 0x8000_0000 u) (u % 0x8000_0000 / 0x80_0000) (u % 0x80_0000) (u % 0x8000_0000) (omega arith) (omega arith) h

-- their order, by their signs and magnitudes
zero-magnitude : magnitude 0 ≡ 0
unfolding magnitude value
zero-magnitude = refl

sum-magnitude : (a b : ℕ) → ltb 0 (magnitude a + magnitude b) ≡ ltb 0 (a + b)
sum-magnitude a b =
    sym (ltb_same 0 (a + b) 0 (magnitude a + magnitude b)
    (λ h. elim (dec_lt 0 a) [ yes l ↦ omega (arith, magnitude_less 0 a l) | no g ↦ omega (arith, magnitude_less 0 b (omega arith)) ])
    (λ h. let p : a ≡ 0 = omega arith in let q : b ≡ 0 = omega arith in omega (arith, ap magnitude p, ap magnitude q, zero-magnitude)))

below_same : (s t : Bool) (a b : ℕ) → below s (magnitude a) t (magnitude b) ≡ below s a t b
below_same false false a b = magnitude_same a b
below_same false true a b = refl
below_same true false a b = sum-magnitude a b
below_same true true a b = magnitude_same b a

finite_infinite : (x : Float) (s t : Bool) (A c a : ℕ) → HasValue x s A c → a < 0x7F80_0000 → lt x (inf t) ≡ below s a t 0x7F80_0000
unfolding lt
finite_infinite nan s t A c a h l = absurd h
finite_infinite (inf u) s t A c a h l = absurd h
finite_infinite (fin u m e) s t A c a h l = go s t
  where
    go : (s t : Bool) → not t ≡ below s a t 0x7F80_0000
    go false false = sym (lt-ltb a 0x7F80_0000 l)
    go false true = refl
    go true false = sym (lt-ltb 0 (a + 0x7F80_0000) (omega arith))
    go true true = sym (le-ltb 0x7F80_0000 a (omega arith))

infinite_finite : (y : Float) (s t : Bool) (B c b : ℕ) → HasValue y t B c → b < 0x7F80_0000 → lt (inf s) y ≡ below s 0x7F80_0000 t b
unfolding lt
infinite_finite nan s t B c b h l = absurd h
infinite_finite (inf u) s t B c b h l = absurd h
infinite_finite (fin u m e) s t B c b h l = go s t
  where
    go : (s t : Bool) → s ≡ below s 0x7F80_0000 t b
    go false false = sym (le-ltb 0x7F80_0000 b (omega arith))
    go false true = refl
    go true false = sym (lt-ltb 0 (0x7F80_0000 + b) (omega arith))
    go true true = sym (lt-ltb b 0x7F80_0000 l)

infinite_both : (s t : Bool) → lt (inf s) (inf t) ≡ below s 0x7F80_0000 t 0x7F80_0000
unfolding lt
infinite_both false false = refl
infinite_both false true = refl
infinite_both true false = refl
infinite_both true true = refl

pattern_less : (x y : Float) (s t : Bool) (a b : ℕ) → Pattern x s a → Pattern y t b → lt x y ≡ below s a t b
unfolding Pattern
pattern_less x y s t a b (inl p) (inl q) = lt_values x y s t (magnitude a) (magnitude b) (2 ^ 149) (pow_pos 149) p.0 q.0 ∙ below_same s t a b
pattern_less x y s t a b (inl p) (inr q) = rw (q.0, q.1) (finite_infinite x s t (magnitude a) (2 ^ 149) a p.0 p.1)
pattern_less x y s t a b (inr p) (inl q) = rw (p.0, p.1) (infinite_finite y s t (magnitude b) (2 ^ 149) b q.0 q.1)
pattern_less x y s t a b (inr p) (inr q) = rw (p.0, p.1, q.0, q.1) (infinite_both s t)

-- ---- the keys
signed : Bool → ℕ → ℕ
signed true a = 0x8000_0000 - a
signed false a = 0x8000_0000 + a

signed_less : (s t : Bool) (a b : ℕ) → a ≤ 0x8000_0000 → b ≤ 0x8000_0000 → below s a t b ≡ ltb (signed s a) (signed t b)
unfolding signed
signed_less false false a b h k = ltb_same a b (0x8000_0000 + a) (0x8000_0000 + b) (λ l. omega arith) (λ l. omega arith)
signed_less false true a b h k = sym (le-ltb (0x8000_0000 + a) (0x8000_0000 - b) (omega arith))
signed_less true false a b h k = ltb_same 0 (a + b) (0x8000_0000 - a) (0x8000_0000 + b) (λ l. omega arith) (λ l. omega arith)
signed_less true true a b h k = ltb_same b a (0x8000_0000 - a) (0x8000_0000 - b) (λ l. omega arith) (λ l. omega arith)

key_signed : (u : ℕ) → key_of u ≡ signed (leb 0x8000_0000 u) (u % 0x8000_0000)
unfolding key_of signed
key_signed u = elim (dec_lt u 0x8000_0000) [
  | yes l ↦ let e : u % 0x8000_0000 ≡ u = omega arith in rw (lt-ltb u 0x8000_0000 l, lt-leb 0x8000_0000 u l, e)
  | no g ↦ rw (le-ltb u 0x8000_0000 (omega arith), le-leb 0x8000_0000 u (omega arith))
]

-- the order of two floats that are no NaN is that of their keys
pub key_less : (u v : ℕ) → nan_bits binary32 u ≡ false → nan_bits binary32 v ≡ false → lt (of_bits binary32 u) (of_bits binary32 v) ≡ ltb (key_of u) (key_of v)
key_less u v n m =
    pattern_less (of_bits binary32 u) (of_bits binary32 v) (leb 0x8000_0000 u) (leb 0x8000_0000 v) (u % 0x8000_0000) (v % 0x8000_0000)
    (pattern u n) (pattern v m)
    ∙ signed_less (leb 0x8000_0000 u) (leb 0x8000_0000 v) (u % 0x8000_0000) (v % 0x8000_0000) (omega arith) (omega arith)
    ∙ rw (key_signed u, key_signed v)

-- and no such key is that of nothing
pub key_high : (u : ℕ) → nan_bits binary32 u ≡ false → key_of u < no_key
key_high u n =
    let h : u % 0x8000_0000 ≤ 0x7F80_0000 = ltb-false _ _ (sym (nan_bits_above binary32 u) ∙ n) in
    rw (key_signed u) (go (leb 0x8000_0000 u) h)
  where
    go : (s : Bool) → u % 0x8000_0000 ≤ 0x7F80_0000 → signed s (u % 0x8000_0000) < no_key
    go true h = unfold signed in omega arith
    go false h = unfold signed in omega arith
