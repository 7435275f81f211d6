-- The order of floats that are no NaN: `lt` is a strict weak order on them, with -0 level with +0. Assumes nothing.
use mathlib.Core.Path.{◌≡◌, refl, sym, subst}
use mathlib.Core.Logic.{◌⊎◌, inl, inr}
use mathlib.Core.Bool.{Bool, true, false, not}
use Prim.Native.Nat.{ℕ, ◌+◌, ◌*◌, ◌≤◌, ◌<◌}
use native.Mathlib.Nat.{eq-zero-or-pos, mul-le-mul_right, mul-lt-mul_of_pos_right, mul-pos}
use native.Mathlib.Decide.{dec_lt}
use native.Mathlib.Omega.{arith}
use lib.Dec.{T, ltb→lt, lt→ltb}
use denote.Floats.{passes}
use lib.Ieee.Bits.{is_true}
use lib.Ieee.Fits.{down_pos}
use lib.Ieee.Positive.{first_pos}
use lib.Ieee.{Float, nan, inf, fin, up, down, below, lt, is_nan}

-- ---- tests
pub false_of : (b : Bool) → (b ≡ true → ⊥) → b ≡ false
false_of true f = absurd (f refl)
false_of false f = refl

pub true-false : (b : Bool) → b ≡ true → b ≡ false → ⊥
true-false b p q = let z : ◌≡◌ {A = Bool} true false = cc in subst {A = Bool} (λ (x : Bool). T x) z tt

-- ---- fractions A / a, B / b, C / c
co_fractions : (A B C a b c : ℕ) → 0 < b → A * c < C * a → (A * b < B * a) ⊎ (B * c < C * b)
co_fractions A B C a b c pb h =
    elim (dec_lt (A * b) (B * a)) [
      | yes p ↦ inl p
      | no f ↦ elim (dec_lt (B * c) (C * b)) [ yes q ↦ inr q | no g ↦ absurd (clash f g) ]
    ]
  where
    clash : ¬ (A * b < B * a) → ¬ (B * c < C * b) → ⊥
    clash f g =
        let f1 : B * a ≤ A * b = omega arith in
        let g1 : C * b ≤ B * c = omega arith in
        omega (arith, mul-lt-mul_of_pos_right h pb, mul-le-mul_right c f1, mul-le-mul_right a g1)

-- the same with signs: what `lt` asks of two finite values
co-below : (s u t : Bool) (A B C a b c : ℕ) → 0 < a → 0 < b → 0 < c
    → T (below s (A * c) t (C * a)) → T (below s (A * b) u (B * a)) ⊎ T (below u (B * c) t (C * b))
co-below false false false A B C a b c pa pb pc h =
    elim (co_fractions A B C a b c pb (ltb→lt (A * c) (C * a) h)) [
      | inl p ↦ inl (lt→ltb (A * b) (B * a) p)
      | inr q ↦ inr (lt→ltb (B * c) (C * b) q)
    ]
co-below false false true A B C a b c pa pb pc h = absurd h
co-below false true false A B C a b c pa pb pc h =
    inr (lt→ltb 0 (B * c + C * b) (omega (arith, mul-pos (first_pos C a (omega (arith, ltb→lt (A * c) (C * a) h))) pb)))
co-below false true true A B C a b c pa pb pc h = absurd h
co-below true false false A B C a b c pa pb pc h =
    elim (eq-zero-or-pos A) [
      | inr p ↦ inl (lt→ltb 0 (A * b + B * a) (omega (arith, mul-pos p pb)))
      | inl e ↦ elim (eq-zero-or-pos B) [
        | inr p ↦ inl (lt→ltb 0 (A * b + B * a) (omega (arith, mul-pos p pa)))
        | inl z ↦ inr (lt→ltb (B * c) (C * b) (at_zero e z))
      ]
    ]
  where
    at_zero : A ≡ 0 → B ≡ 0 → B * c < C * b
    at_zero e z =
        let p : 0 < C = first_pos C a (omega (arith, subst (λ (x : ℕ). 0 < x * c + C * a) e (ltb→lt 0 (A * c + C * a) h))) in
        subst (λ (x : ℕ). x * c < C * b) (sym z) (omega (arith, mul-pos p pb))
co-below true false true A B C a b c pa pb pc h =
    inl (lt→ltb 0 (A * b + B * a) (omega (arith, mul-pos (first_pos A c (omega (arith, ltb→lt (C * a) (A * c) h))) pb)))
co-below true true false A B C a b c pa pb pc h =
    elim (eq-zero-or-pos B) [
      | inr p ↦ inr (lt→ltb 0 (B * c + C * b) (omega (arith, mul-pos p pc)))
      | inl z ↦ elim (eq-zero-or-pos C) [
        | inr p ↦ inr (lt→ltb 0 (B * c + C * b) (omega (arith, mul-pos p pb)))
        | inl e ↦ inl (lt→ltb (B * a) (A * b) (at_zero e z))
      ]
    ]
  where
    at_zero : C ≡ 0 → B ≡ 0 → B * a < A * b
    at_zero e z =
        let p : 0 < A = first_pos A c (omega (arith, subst (λ (x : ℕ). 0 < A * c + x * a) e (ltb→lt 0 (A * c + C * a) h))) in
        subst (λ (x : ℕ). x * a < A * b) (sym z) (omega (arith, mul-pos p pb))
co-below true true true A B C a b c pa pb pc h =
    elim (co_fractions C B A c b a pb (ltb→lt (C * a) (A * c) h)) [
      | inl p ↦ inr (lt→ltb (C * b) (B * c) p)
      | inr q ↦ inl (lt→ltb (B * a) (A * b) q)
    ]

-- ---- the laws
co : (x y z : Float) → T (not (is_nan y)) → T (lt x z) → T (lt x y) ⊎ T (lt y z)
unfolding lt is_nan
co nan y z n h = absurd h
co (inf s) nan z n h = absurd n
co (inf s) (inf u) nan n h = absurd h
co (inf true) (inf true) (inf true) n h = absurd h
co (inf true) (inf true) (inf false) n h = inr tt
co (inf true) (inf false) (inf t) n h = inl tt
co (inf false) (inf u) (inf t) n h = absurd h
co (inf true) (inf true) (fin t k d) n h = inr tt
co (inf true) (inf false) (fin t k d) n h = inl tt
co (inf false) (inf u) (fin t k d) n h = absurd h
co (inf s) (fin u m e) nan n h = absurd h
co (inf true) (fin u m e) (inf t) n h = inl tt
co (inf false) (fin u m e) (inf t) n h = absurd h
co (inf true) (fin u m e) (fin t k d) n h = inl tt
co (inf false) (fin u m e) (fin t k d) n h = absurd h
co (fin s m e) nan z n h = absurd n
co (fin s m e) (inf u) nan n h = absurd h
co (fin s m e) (inf true) (inf true) n h = absurd h
co (fin s m e) (inf true) (inf false) n h = inr tt
co (fin s m e) (inf false) (inf t) n h = inl tt
co (fin s m e) (inf true) (fin t k d) n h = inr tt
co (fin s m e) (inf false) (fin t k d) n h = inl tt
co (fin s m e) (fin u j i) nan n h = absurd h
co (fin s m e) (fin u j i) (inf true) n h = absurd h
co (fin s m e) (fin u j i) (inf false) n h = inr tt
co (fin s m e) (fin u j i) (fin t k d) n h =
    co-below s u t (m * up e) (j * up i) (k * up d) (down e) (down i) (down d) (down_pos e) (down_pos i) (down_pos d) h

asym-below : (s t : Bool) (a b : ℕ) → T (below s a t b) → T (below t b s a) → ⊥
asym-below false false a b p q = omega (arith, ltb→lt a b p, ltb→lt b a q)
asym-below false true a b p q = p
asym-below true false a b p q = q
asym-below true true a b p q = omega (arith, ltb→lt b a p, ltb→lt a b q)

asym : (x y : Float) → T (lt x y) → T (lt y x) → ⊥
unfolding lt
asym nan y p q = p
asym (inf s) nan p q = p
asym (inf true) (inf true) p q = p
asym (inf true) (inf false) p q = q
asym (inf false) (inf t) p q = p
asym (inf true) (fin t n d) p q = q
asym (inf false) (fin t n d) p q = p
asym (fin s m e) nan p q = p
asym (fin s m e) (inf true) p q = p
asym (fin s m e) (inf false) p q = q
asym (fin s m e) (fin t n d) p q = asym-below s t (m * up e * down d) (n * up d * down e) p q

-- As equations, which is how a program's tests are known. `Num x`: x is no NaN.
abbrev pub Num : Float → Type 0
Num x = is_nan x ≡ false

abbrev pub Less : Float → Float → Type 0
Less x y = lt x y ≡ true

-- x is not below y: y comes first or is level, where both are numbers
abbrev pub NotLess : Float → Float → Type 0
NotLess x y = lt x y ≡ false

num_T : (x : Float) → Num x → T (not (is_nan x))
num_T x e = subst {A = Bool} (λ (b : Bool). T (not b)) (sym e) tt

pub less_asym : (x y : Float) → Less x y → NotLess y x
less_asym x y p = false_of (lt y x) (λ q. asym x y (passes (lt x y) p) (passes (lt y x) q))

pub less_irrefl : (x : Float) → NotLess x x
less_irrefl x = false_of (lt x x) (λ q. asym x x (passes (lt x x) q) (passes (lt x x) q))

pub less_co : (x y z : Float) → Num y → Less x z → Less x y ⊎ Less y z
less_co x y z n h = elim (co x y z (num_T y n) (passes (lt x z) h)) [ inl p ↦ inl (is_true (lt x y) p) | inr q ↦ inr (is_true (lt y z) q) ]

-- `not below` is transitive through a number
pub NotLess_trans : (x y z : Float) → Num y → NotLess x y → NotLess y z → NotLess x z
NotLess_trans x y z n p q =
    false_of (lt x z) (λ h. elim (less_co x y z n h) [ inl r ↦ true-false (lt x y) r p | inr r ↦ true-false (lt y z) r q ])
