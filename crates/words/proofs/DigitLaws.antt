-- Laws of specs/Digits: a number put together from digits and taken apart again, once over the width; the binary digits of a number;
-- and the count of the binary digits that two numbers share. Assumes nothing.
use mathlib.Core.Path.{◌≡◌, refl, sym, ap, ap₂, ◌∙◌, subst}
use mathlib.Core.Logic.{◌⊎◌, inl, inr, ⊎_elim}
use mathlib.Core.Bool.{Bool, true, false}
use Prim.Native.Nat.{ℕ, zero, suc, ◌+◌, ◌*◌, ◌/◌, ◌%◌, ◌^◌, ◌-◌, ◌<◌, ◌≤◌, min}
use native.Mathlib.Nat.{add-zero, zero-add, add_comm, mod-lt, zero-lt-suc, pow-suc, one-mul, mul_comm, mul_assoc, mul_left_comm, mul-suc, mul-zero}
use native.Mathlib.Nat.{zero-mul, zero-min, not-suc-le-zero, le_of_suc-le-suc, min-le_left, min-eq_left, min-eq_right, mod-one, mod-eq_of_lt}
use native.Mathlib.Nat.{div-eq_of_lt, lt_of_le_of_lt, lt_of_lt_of_le, eq-or-lt_of_le, mul-le-mul_right, add-mul-div_right, add-mul-mod_self_right}
use native.Mathlib.Numerals.{one-add, add-one}
use native.Mathlib.Omega.{arith}
use borrow.Author.Tests.{lt-ltb, le-ltb, ltb-true, ltb-false}
use lib.Dec.{ltb}
use lib.Arith.{lt-one, digits_mod}
use lib.Pow.{shr-shr, shl_exact, pow-add, pow_pos, pow_mono, high, mod-pow-add}
use lib.Bits.{bit_and, and_step, and_shr, and_le_l}
use lib.Count.{ones, ones_step, ones-le}
use Rattle.words.specs.Sums.{sum_to}
use Rattle.words.specs.Digits.{bit, join, kept}
use Rattle.words.proofs.SumLaws.{sum_ext, sum_front, sum-none, sum_more, sum_pad}

-- ---- a number put together from digits of w bits

step : (w n : ℕ) → 2 ^ (w * suc n) ≡ 2 ^ w * 2 ^ (w * n)
step w n = ap (λ (k : ℕ). 2 ^ k) (mul-suc w n ∙ add_comm (w * n) w) ∙ pow-add 2 w (w * n)

pub join-none : (w : ℕ) (f : ℕ → ℕ) → join w 0 f ≡ 0
unfolding join
join-none w f = sum-none (λ j. f j * 2 ^ (w * j))

pub join_more : (w n : ℕ) (f : ℕ → ℕ) → join w (n + 1) f ≡ join w n f + f n * 2 ^ (w * n)
unfolding join
join_more w n f = sum_more n (λ j. f j * 2 ^ (w * j))

join-suc : (w n : ℕ) (f : ℕ → ℕ) → join w (suc n) f ≡ join w n f + f n * 2 ^ (w * n)
unfolding join sum_to
join-suc w n f = refl

pub join_ext : (w n : ℕ) (f g : ℕ → ℕ) → ((j : ℕ) → j < n → f j ≡ g j) → join w n f ≡ join w n g
unfolding join
join_ext w n f g h = sum_ext n (λ j. f j * 2 ^ (w * j)) (λ j. g j * 2 ^ (w * j)) (λ j l. ap (λ (x : ℕ). x * 2 ^ (w * j)) (h j l))

-- codes past n that are 0 add nothing
pub join_pad : (w n m : ℕ) (f : ℕ → ℕ) → n ≤ m → ((j : ℕ) → n ≤ j → f j ≡ 0) → join w m f ≡ join w n f
unfolding join
join_pad w n m f l h = sum_pad n m (λ j. f j * 2 ^ (w * j)) l (λ j k. ap (λ (x : ℕ). x * 2 ^ (w * j)) (h j k) ∙ omega arith)

pub join-lt : (w n : ℕ) (f : ℕ → ℕ) → ((j : ℕ) → f j < 2 ^ w) → join w n f < 2 ^ (w * n)
join-lt w zero f h = rw (join-none w f, mul-zero w) (omega arith)
join-lt w (suc n) f h =
    rw (join-suc w n f, step w n) (omega (arith, join-lt w n f h, mul-le-mul_right (2 ^ (w * n)) (h n)))

-- one digit more, shifted to its place p in a number of m bits: nothing is shifted out, and the sum fits
pub digit_more : (w m n p x y : ℕ) (f : ℕ → ℕ) → ((j : ℕ) → f j < 2 ^ w) → w * n + w ≤ m → p ≡ w * n → x ≡ join w n f → y ≡ f n
    → (x + y * 2 ^ p % 2 ^ m ≡ join w (n + 1) f) × (x + y * 2 ^ p % 2 ^ m < 2 ^ m)
digit_more w m n p x y f h l e ex ey = (sum, rw sum (lt_of_lt_of_le (join-lt w (n + 1) f h) (pow_mono {i = w * (n + 1)} {j = m} (omega arith))))
  where
    sum : x + y * 2 ^ p % 2 ^ m ≡ join w (n + 1) f
    sum = rw (e, ex, ey, shl_exact w (w * n) m (h n) (omega arith)) (sym (join_more w n f))

split : (w j d : ℕ) → 2 ^ (w * (suc j + d)) ≡ 2 ^ (w * d) * 2 ^ w * 2 ^ (w * j)
split w j d =
    let e : w * (suc j + d) ≡ w * d + w + w * j = omega arith in
    ap (λ (k : ℕ). 2 ^ k) e ∙ pow-add 2 (w * d + w) (w * j) ∙ ap (λ (x : ℕ). x * 2 ^ (w * j)) (pow-add 2 (w * d) w)

regroup : (a b c d : ℕ) → a * (b * c * d) ≡ a * b * c * d
regroup a b c d = sym (mul_assoc a (b * c) d) ∙ ap (λ (x : ℕ). x * d) (sym (mul_assoc a b c))

-- the number of n codes, divided by the place of code j, leaves code j
pub join_digit : (w n j : ℕ) (f : ℕ → ℕ) → ((j : ℕ) → f j < 2 ^ w) → j < n → join w n f / 2 ^ (w * j) % 2 ^ w ≡ f j
join_digit w zero j f h l = absurd (not-suc-le-zero l)
join_digit w (suc n) j f h l =
    rw (join-suc w n f)
    (elim (eq-or-lt_of_le l) [
      | inl e ↦
          let z : j ≡ n = omega arith in
          rw (z, add-mul-div_right (join w n f) (f n) (pow_pos (w * n)), div-eq_of_lt (join-lt w n f h), zero-add) (mod-eq_of_lt (h n))
      | inr k ↦
          let d : ℕ = n - suc j in
          let z : n ≡ suc j + d = omega arith in
          let p : f n * 2 ^ (w * n) ≡ f n * 2 ^ (w * d) * 2 ^ w * 2 ^ (w * j) =
          ap (λ (x : ℕ). f n * 2 ^ (w * x)) z ∙ ap (λ (x : ℕ). f n * x) (split w j d) ∙ regroup (f n) (2 ^ (w * d)) (2 ^ w) (2 ^ (w * j)) in
          rw (p, add-mul-div_right (join w n f) (f n * 2 ^ (w * d) * 2 ^ w) (pow_pos (w * j)), add-mul-mod_self_right)
          (join_digit w n j f h (omega arith))
    ])

-- ---- the binary digits of a number

pub bit_first : (n : ℕ) → bit n 0 ≡ n % 2
unfolding bit
bit_first n = omega arith

pub bit-next : (n i : ℕ) → bit n (suc i) ≡ bit (n / 2) i
unfolding bit
bit-next n i = ap (λ (k : ℕ). n / 2 ^ k % 2) (sym (one-add i)) ∙ ap (λ (k : ℕ). k % 2) (sym (shr-shr n 1 i))

pub bit-lt : (n i : ℕ) → bit n i < 2
unfolding bit
bit-lt n i = mod-lt (n / 2 ^ i) (zero-lt-suc 1)

-- a number below 16 is its four digits
pub bit-four : (n : ℕ) → n < 16 → bit n 0 + 2 * bit n 1 + 4 * bit n 2 + 8 * bit n 3 ≡ n
bit-four n h =
    omega (
      arith,
      bit_first n,
      bit-next n 0,
      bit_first (n / 2),
      bit-next n 1,
      bit-next (n / 2) 0,
      bit_first (n / 2 / 2),
      bit-next n 2,
      bit-next (n / 2) 1,
      bit-next (n / 2 / 2) 0,
      bit_first (n / 2 / 2 / 2),
    )

-- ---- binary digits put together

at_one : (f : ℕ → ℕ) (i : ℕ) → f i * 2 ^ (1 * i) ≡ f i * 2 ^ i
at_one f i = ap (λ (k : ℕ). f i * 2 ^ k) (one-mul i)

pub bits_lt : (n : ℕ) (f : ℕ → ℕ) → ((i : ℕ) → f i < 2) → join 1 n f < 2 ^ n
bits_lt n f h = subst (λ (k : ℕ). join 1 n f < 2 ^ k) (one-mul n) (join-lt 1 n f h)

pub bit-join : (n i : ℕ) (f : ℕ → ℕ) → ((i : ℕ) → f i < 2) → i < n → bit (join 1 n f) i ≡ f i
unfolding bit
bit-join n i f h l = ap (λ (k : ℕ). join 1 n f / 2 ^ k % 2) (sym (one-mul i)) ∙ join_digit 1 n i f h l

-- a number of 8 digits is two of 4
pub join_halves : (f : ℕ → ℕ) → join 1 8 f ≡ join 1 4 f + 16 * join 1 4 (λ i. f (4 + i))
unfolding join sum_to
join_halves f = omega arith

-- ---- the digits that two numbers share

min-mul : (x y : ℕ) → x < 2 → y < 2 → min x y ≡ x * y
min-mul zero y hx hy = zero-min y ∙ sym (zero-mul y)
min-mul (suc zero) zero hx hy = refl
min-mul (suc zero) (suc zero) hx hy = refl
min-mul (suc zero) (suc (suc y)) hx hy = absurd (not-suc-le-zero (le_of_suc-le-suc (le_of_suc-le-suc hy)))
min-mul (suc (suc x)) y hx hy = absurd (not-suc-le-zero (le_of_suc-le-suc (le_of_suc-le-suc hx)))

and_first : (a b : ℕ) → bit_and a b % 2 ≡ bit a 0 * bit b 0
and_first a b =
    ap (λ (x : ℕ). x % 2) (and_step a b) ∙ digits_mod (bit_and (a / 2) (b / 2)) (lt_of_le_of_lt (min-le_left (a % 2) (b % 2)) (omega arith))
    ∙ min-mul (a % 2) (b % 2) (omega arith) (omega arith) ∙ ap₂ (λ (x y : ℕ). x * y) (sym (bit_first a)) (sym (bit_first b))

ones-zero : ones 0 ≡ 0
unfolding ones
ones-zero = refl

-- the count of ones of a word and another is the sum over the digits of both
pub ones_and : (k a b : ℕ) → a < 2 ^ k → ones (bit_and a b) ≡ sum_to k (λ i. bit a i * bit b i)
ones_and zero a b h = ap (λ (x : ℕ). ones (bit_and x b)) (lt-one h) ∙ ones-zero ∙ sym (sum-none (λ i. bit a i * bit b i))
ones_and (suc k) a b h =
    ones_step (bit_and a b)
    ∙ ap₂ (λ (x y : ℕ). x + ones y) (and_first a b) (and_shr a b 1)
    ∙ ap (λ (x : ℕ). bit a 0 * bit b 0 + x) (ones_and k (a / 2) (b / 2) (omega (arith, pow-suc 2 k))
    ∙ sum_ext k (λ i. bit (a / 2) i * bit (b / 2) i) (λ i. bit a (suc i) * bit b (suc i))
    (λ i l. ap₂ (λ (x y : ℕ). x * y) (sym (bit-next a i)) (sym (bit-next b i))))
    ∙ sym (sum_front k (λ i. bit a i * bit b i))

-- two words share at most 64 digits
pub shared_le : (a b : ℕ) → a < 2 ^ 64 → ones (bit_and a b) ≤ 64
shared_le a b h = ones-le 64 (bit_and a b) (lt_of_le_of_lt (and_le_l a b) h)

-- ---- a number in two parts, a below and y from digit k up

pub bit-low : (k i a y : ℕ) → i < k → bit (a + 2 ^ k * y) i ≡ bit a i
bit-low zero i a y l = absurd (not-suc-le-zero l)
bit-low (suc k) zero a y l =
    bit_first (a + 2 ^ suc k * y) ∙ omega (arith, ap (λ (x : ℕ). x * y) (pow-suc 2 k), mul_assoc (2 ^ k) 2 y, mul_left_comm (2 ^ k) 2 y) ∙ sym (bit_first a)
bit-low (suc k) (suc i) a y l =
    bit-next (a + 2 ^ suc k * y) i
    ∙ ap (λ (x : ℕ). bit x i) (omega (arith, ap (λ (x : ℕ). x * y) (pow-suc 2 k), mul_assoc (2 ^ k) 2 y, mul_left_comm (2 ^ k) 2 y))
    ∙ bit-low k i (a / 2) y (le_of_suc-le-suc l) ∙ sym (bit-next a i)

pub bit_high : (k i a y : ℕ) → a < 2 ^ k → bit (a + 2 ^ k * y) (k + i) ≡ bit y i
unfolding bit
bit_high k i a y l =
    ap (λ (x : ℕ). x % 2) (sym (shr-shr (a + 2 ^ k * y) k i))
    ∙ ap (λ (x : ℕ). x / 2 ^ k / 2 ^ i % 2) (add_comm a (2 ^ k * y) ∙ ap (λ (x : ℕ). x + a) (mul_comm (2 ^ k) y))
    ∙ ap (λ (x : ℕ). x / 2 ^ i % 2) (high y k l)

-- ---- digits that are kept, and the digits of one number in two parts

-- a number is below another or not
pub lt_or_ge : (a b : ℕ) → (a < b) ⊎ (b ≤ a)
lt_or_ge a b = go (ltb a b) refl
  where
    go : (x : Bool) → ltb a b ≡ x → (a < b) ⊎ (b ≤ a)
    go true e = inl (ltb-true a b e)
    go false e = inr (ltb-false a b e)

pub kept_in : (n : ℕ) (f : ℕ → ℕ) (i : ℕ) → i < n → kept n f i ≡ f i
unfolding kept
kept_in n f i h = rw (lt-ltb i n h)

pub kept_out : (n : ℕ) (f : ℕ → ℕ) (i : ℕ) → n ≤ i → kept n f i ≡ 0
unfolding kept
kept_out n f i h = rw (le-ltb i n h)

pub kept_ext : (n : ℕ) (f g : ℕ → ℕ) → ((i : ℕ) → i < n → f i ≡ g i) → (i : ℕ) → kept n f i ≡ kept n g i
kept_ext n f g h i =
    ⊎_elim (λ l. kept_in n f i l ∙ h i l ∙ sym (kept_in n g i l)) (λ l. kept_out n f i l ∙ sym (kept_out n g i l)) (lt_or_ge i n)

pub kept-lt : (n : ℕ) (f : ℕ → ℕ) → ((i : ℕ) → f i < 2) → (i : ℕ) → kept n f i < 2
kept-lt n f h i = ⊎_elim (λ l. omega (arith, kept_in n f i l, h i)) (λ l. omega (arith, kept_out n f i l)) (lt_or_ge i n)

-- the digits of y from 0 on, those of the dimensions at, at + 1, .. that are kept: y cut to as many digits
pub join_kept : (n most at y : ℕ) (b : ℕ → ℕ) → ((j : ℕ) → j < n → b (at + j) ≡ bit y j)
    → join 1 n (λ j. kept most b (at + j)) ≡ y % 2 ^ min n (most - at)
unfolding bit
join_kept zero most at y b h =
    join-none 1 (λ j. kept most b (at + j)) ∙ sym (ap (λ (k : ℕ). y % 2 ^ k) (zero-min (most - at)) ∙ mod-one y)
join_kept (suc n) most at y b h =
    ap (λ (k : ℕ). join 1 k (λ j. kept most b (at + j))) (sym (add-one n)) ∙ join_more 1 n (λ j. kept most b (at + j)) ∙ ap
    (λ (x : ℕ). join 1 n (λ j. kept most b (at + j)) + x) (at_one (λ j. kept most b (at + j)) n)
    ∙ ap (λ (x : ℕ). x + kept most b (at + n) * 2 ^ n) (join_kept n most at y b (λ j l. h j (omega arith)))
    ∙ ⊎_elim inside outside (lt_or_ge (at + n) most)
  where
    cut : ℕ → ℕ
    cut k = y % 2 ^ k

    inside : at + n < most → cut (min n (most - at)) + kept most b (at + n) * 2 ^ n ≡ cut (min (suc n) (most - at))
    inside l =
        ap₂ (λ (k x : ℕ). cut k + x * 2 ^ n) (min-eq_left (omega arith)) (kept_in most b (at + n) l ∙ h n (omega arith))
        ∙ add_comm (cut n) (y / 2 ^ n % 2 * 2 ^ n) ∙ sym (mod-pow-add y 1 n) ∙ ap cut (one-add n) ∙ sym (ap cut (min-eq_left (omega arith)))

    outside : most ≤ at + n → cut (min n (most - at)) + kept most b (at + n) * 2 ^ n ≡ cut (min (suc n) (most - at))
    outside l =
        ap₂ (λ (k x : ℕ). cut k + x * 2 ^ n) (min-eq_right (omega arith)) (kept_out most b (at + n) l)
        ∙ ap (λ (x : ℕ). cut (most - at) + x) (zero-mul (2 ^ n)) ∙ add-zero (cut (most - at)) ∙ sym (ap cut (min-eq_right (omega arith)))

-- n digits that are those of y below 2 ^ n, where the digits from dimension most on are 0, are y
pub join-whole : (n most at y : ℕ) (b : ℕ → ℕ) → y < 2 ^ n → ((j : ℕ) → j < n → b (at + j) ≡ bit y j)
    → ((j : ℕ) → j < n → most ≤ at + j → b (at + j) ≡ 0) → join 1 n (λ j. kept most b (at + j)) ≡ y
join-whole n most at y b small digit pad =
    join_ext 1 n (λ j. kept most b (at + j)) (λ j. kept (at + n) b (at + j)) (λ j l. ⊎_elim (inside j l) (outside j l) (lt_or_ge (at + j) most))
    ∙ join_kept n (at + n) at y b digit ∙ ap (λ (k : ℕ). y % 2 ^ k) (min-eq_left (omega arith)) ∙ mod-eq_of_lt small
  where
    whole : (j : ℕ) → j < n → kept (at + n) b (at + j) ≡ b (at + j)
    whole j l = kept_in (at + n) b (at + j) (omega arith)

    inside : (j : ℕ) → j < n → at + j < most → kept most b (at + j) ≡ kept (at + n) b (at + j)
    inside j l h = kept_in most b (at + j) h ∙ sym (whole j l)

    outside : (j : ℕ) → j < n → most ≤ at + j → kept most b (at + j) ≡ kept (at + n) b (at + j)
    outside j l h = kept_out most b (at + j) h ∙ sym (whole j l ∙ pad j l h)
