-- Laws of specs/Digits, each proved once over the width: codes joined in a number, read back out of it, and out of the
-- packed bytes. Assumes nothing.
use Prim.Native.Nat.{ℕ, ◌+◌, ◌-◌, ◌*◌, ◌/◌, ◌%◌, ◌^◌, ◌<◌, ◌≤◌}
use mathlib.Core.Bool.{Bool, true, false, ◌||◌}
use mathlib.Core.List.{List}
use mathlib.Core.Path.{◌≡◌, refl, sym, ap, ◌∙◌, subst}
use native.Mathlib.Omega.{arith}
use native.Mathlib.Nat.{div-add-mod', mod-lt, zero-div, zero-mod}
use lib.Dec.{T, eqb, ltb}
use lib.Pow.{pow_pos}
use lib.ListN.{get_or, length, get_or-eq_default}
use borrow.Author.Tests.{eqb-true, ltb-true, ltb-false}
use Rattle.words.specs.Digits.{join}
use Rattle.words.specs.Lists.{any_above}
use Rattle.words.proofs.DigitLaws.{digit_more, join_pad, join_digit}
use Rattle.words.proofs.ListLaws.{none_above, length-tabulate, tabulate-at}
use Rattle.digits.specs.Digits.{is_width, levels, top, per_byte, packed_size, digit_at, packed_byte, packed}

-- ---- the four widths

-- what holds at 1, 2, 4 and 8 holds at every width
pub by_width : (P : ℕ → Type 0) → P 1 → P 2 → P 4 → P 8 → (w : ℕ) → is_width w ≡ true → P w
unfolding is_width
by_width P p₁ p₂ p₄ p₈ w h = go (eqb w 1) (eqb w 2) (eqb w 4) (eqb w 8) (eqb-true w 1) (eqb-true w 2) (eqb-true w 4) (eqb-true w 8) h
  where
    go : (a b c d : Bool) → (a ≡ true → w ≡ 1) → (b ≡ true → w ≡ 2) → (c ≡ true → w ≡ 4) → (d ≡ true → w ≡ 8) → (a || b || c || d) ≡ true → P w
    go true b c d f g k l e = rw (f refl) p₁
    go false true c d f g k l e = rw (g refl) p₂
    go false false true d f g k l e = rw (k refl) p₄
    go false false false true f g k l e = rw (l refl) p₈
    go false false false false f g k l e = absurd (subst T (sym e) tt)

pub width_le : (w : ℕ) → is_width w ≡ true → w ≤ 8
width_le w h = by_width (λ w. w ≤ 8) (omega arith) (omega arith) (omega arith) (omega arith) w h

pub only_eight : (w : ℕ) → is_width w ≡ true → (w ≡ 1 → ⊥) → (w ≡ 2 → ⊥) → (w ≡ 4 → ⊥) → w ≡ 8
only_eight w h = by_width (λ w. (w ≡ 1 → ⊥) → (w ≡ 2 → ⊥) → (w ≡ 4 → ⊥) → w ≡ 8) (λ a b c. absurd (a refl)) (λ a b c. absurd (b refl))
    (λ a b c. absurd (c refl)) (λ a b c. refl) w h

-- the byte of a digit is within the packed bytes
pub within : (w i dims : ℕ) → is_width w ≡ true → i < dims → i / per_byte w < packed_size w dims
within w i dims h l =
    by_width (λ w. i / per_byte w < packed_size w dims) (omega arith) (omega arith) (omega arith) (omega arith) w h

pub digit_place : (w i : ℕ) → is_width w ≡ true → (i * w / 8 ≡ i / per_byte w) × (i * w ≤ i * 8)
digit_place w i h = by_width (λ w. (i * w / 8 ≡ i / per_byte w) × (i * w ≤ i * 8))
    (omega arith, omega arith) (omega arith, omega arith) (omega arith, omega arith) (omega arith, omega arith) w h

-- a digit by the place of its first bit
pub digit_from : (w : ℕ) (s : List ℕ) (i : ℕ) → is_width w ≡ true → get_or s (i * w / 8) 0 / 2 ^ (i * w % 8) % levels w ≡ digit_at w s i
unfolding digit_at
digit_from w s i h =
    let a : i * w / 8 ≡ i / per_byte w = by_width (λ w. i * w / 8 ≡ i / per_byte w) (omega arith) (omega arith) (omega arith) (omega arith) w h in
    let b : i * w % 8 ≡ w * (i % per_byte w) = by_width (λ w. i * w % 8 ≡ w * (i % per_byte w)) (omega arith) (omega arith) (omega arith) (omega arith) w h in
    rw (a, b) refl

-- ---- codes in one byte

-- a turn of the loop that joins codes in a byte
pub join-turn : (w j p x y : ℕ) (f : ℕ → ℕ) → is_width w ≡ true → ((j : ℕ) → f j < 2 ^ w) → j < per_byte w → p ≡ w * j → x ≡ join w j f → y ≡ f j
    → (x + y * 2 ^ p % 256 ≡ join w (j + 1) f) × (x + y * 2 ^ p % 256 < 256)
join-turn w j p x y f h small l =
    digit_more w 8 j p x y f small
    (by_width (λ w. j < per_byte w → w * j + w ≤ 8) (λ k. omega arith) (λ k. omega arith) (λ k. omega arith) (λ k. omega arith) w h l)

-- ---- packed codes

-- where no code is above the top one, each is below the number of levels, the zeros past the last one too
pub small : (w : ℕ) (codes : List ℕ) → any_above (top w) codes ≡ false → (i : ℕ) → get_or codes i 0 < 2 ^ w
small w codes h i = omega (arith, none_above (top w) codes h i, pow_pos w)

pub packed-at : (w : ℕ) (codes : List ℕ) (k : ℕ) → k < packed_size w (length codes) → get_or (packed w codes) k 0 ≡ packed_byte w codes k
unfolding packed
packed-at w codes k l = tabulate-at (packed_size w (length codes)) (packed_byte w codes) k l

pub packed-length : (w : ℕ) (codes : List ℕ) → length (packed w codes) ≡ packed_size w (length codes)
unfolding packed
packed-length w codes = length-tabulate (packed_size w (length codes)) (packed_byte w codes)

pub per_pos : (w : ℕ) → is_width w ≡ true → 0 < per_byte w
per_pos w h = by_width (λ w. 0 < per_byte w) (omega arith) (omega arith) (omega arith) (omega arith) w h

pub per_le : (w : ℕ) → is_width w ≡ true → per_byte w ≤ 8
per_le w h = by_width (λ w. per_byte w ≤ 8) (omega arith) (omega arith) (omega arith) (omega arith) w h

-- THE LAW OF MODULE 1: reading digit i of what was packed gives code i, and past the last code 0: the fill bits are zero
pub read_packed : (w : ℕ) (codes : List ℕ) → is_width w ≡ true → any_above (top w) codes ≡ false
    → (i : ℕ) → digit_at w (packed w codes) i ≡ get_or codes i 0
unfolding digit_at packed_byte
read_packed w codes h fits i = go (ltb (i / per_byte w) (packed_size w (length codes))) refl
  where
    go : (b : Bool) → ltb (i / per_byte w) (packed_size w (length codes)) ≡ b → digit_at w (packed w codes) i ≡ get_or codes i 0
    go true e =
        rw (packed-at w codes (i / per_byte w) (ltb-true _ _ e))
        (join_digit w (per_byte w) (i % per_byte w) (λ j. get_or codes (i / per_byte w * per_byte w + j) 0)
        (λ j. small w codes fits (i / per_byte w * per_byte w + j)) (mod-lt i (per_pos w h))
        ∙ ap (λ (k : ℕ). get_or codes k 0) (div-add-mod' i (per_byte w)))
    go false e =
        let out : packed_size w (length codes) ≤ i / per_byte w = ltb-false _ _ e in
        let past : length codes ≤ i =
        by_width (λ w. packed_size w (length codes) ≤ i / per_byte w → length codes ≤ i) (λ k. omega arith) (λ k. omega arith) (λ k. omega arith)
        (λ k. omega arith) w h out in
        let z : get_or (packed w codes) (i / per_byte w) 0 ≡ 0 = get_or-eq_default (packed w codes) 0 (rw (packed-length w codes) out) in
        rw (z, get_or-eq_default codes 0 past) (rw (zero-div, zero-mod) refl)

-- ---- the loop that packs n codes: a byte a turn, and then the codes that are left

module _ (w n : ℕ) (h : is_width w ≡ true) where
  -- byte k of the whole ones
  pub whole_byte : (k : ℕ) → k < n / per_byte w → (k * per_byte w + per_byte w ≤ n) × (k < packed_size w n)
  whole_byte k = by_width (λ w. k < n / per_byte w → (k * per_byte w + per_byte w ≤ n) × (k < packed_size w n))
      (λ l. (omega arith, omega arith)) (λ l. (omega arith, omega arith)) (λ l. (omega arith, omega arith)) (λ l. (omega arith, omega arith)) w h

  -- how many bytes there are, by whether codes are left
  pub whole_fits : n / per_byte w ≤ packed_size w n
  whole_fits = by_width (λ w. n / per_byte w ≤ packed_size w n) (omega arith) (omega arith) (omega arith) (omega arith) w h

  pub none_left : n ≤ n / per_byte w * per_byte w → packed_size w n ≡ n / per_byte w
  none_left = by_width (λ w. n ≤ n / per_byte w * per_byte w → packed_size w n ≡ n / per_byte w)
      (λ l. omega arith) (λ l. omega arith) (λ l. omega arith) (λ l. omega arith) w h

  pub some_left : n / per_byte w * per_byte w < n → (packed_size w n ≡ n / per_byte w + 1) × (n - n / per_byte w * per_byte w ≤ per_byte w)
  some_left = by_width (λ w. n / per_byte w * per_byte w < n → (packed_size w n ≡ n / per_byte w + 1) × (n - n / per_byte w * per_byte w ≤ per_byte w))
      (λ l. (omega arith, omega arith)) (λ l. (omega arith, omega arith)) (λ l. (omega arith, omega arith)) (λ l. (omega arith, omega arith)) w h

-- the byte of n codes from its first place on: a full one, or the last one, past which the codes are 0
pub full_byte : (w k : ℕ) (codes : List ℕ) → join w (per_byte w) (λ j. get_or codes (k * per_byte w + j) 0) ≡ packed_byte w codes k
unfolding packed_byte
full_byte w k codes = refl

pub last_byte : (w k n : ℕ) (codes : List ℕ) → n ≤ per_byte w → k * per_byte w + n ≡ length codes
    → join w n (λ j. get_or codes (k * per_byte w + j) 0) ≡ packed_byte w codes k
last_byte w k n codes l f =
    sym (join_pad w n (per_byte w) (λ j. get_or codes (k * per_byte w + j) 0) l (λ j m. get_or-eq_default codes 0 (omega arith)))
    ∙ full_byte w k codes
