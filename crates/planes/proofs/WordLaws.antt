-- How the words of a plane are made, and what the code counts in them. Assumes nothing.
use mathlib.Core.Path.{◌≡◌, sym, ap, ◌∙◌}
use Prim.Native.Nat.{ℕ, ◌+◌, ◌-◌, ◌*◌, ◌/◌, ◌%◌, ◌^◌, ◌<◌, ◌≤◌, min}
use mathlib.Core.Logic.{⊎_elim}
use mathlib.Core.List.{List}
use native.Mathlib.Omega.{arith}
use native.Mathlib.Nat.{add_assoc, add-zero, mul_comm, mul_left_comm}
use native.Mathlib.Nat.{zero-div, le_of_lt, min-eq_left, min-eq_right, min-le_left}
use lib.ListN.{length, get_or, take, drop, replicate, get_or-replicate, length-replicate, length-take, get_or-eq_default}
use lib.Seq.{get_or-take, get_or-drop, length-take-le}
use lib.ListN.{length-drop}
use borrow.Rule.Slice.PartMut.{put_mid}
use Rattle.std.proofs.Common.{rules, ◌++◌, length-append}
use Rattle.std.proofs.Math.ListN.{get_or-append}
use Rattle.std.proofs.lemmas.List.{places}
use Rattle.std.proofs.lemmas.Slice.{overwrites}
use lib.Bits.{bit_and}
use lib.Count.{ones}
use lib.Pow.{pow-add}
use Rattle.words.specs.Bytes.{num_at}
use Rattle.words.specs.Digits.{bit, join}
use Rattle.words.specs.Sums.{sum_to}
use Rattle.words.proofs.SumLaws.{sum_ext, sum_times, sum_blocks}
use Rattle.words.proofs.DigitLaws.{lt_or_ge}
use Rattle.code.specs.Code.{code_words, words_bit}
use Rattle.sums.specs.Sums.{plain_sum, plane_word, plane_ones, plane_count, QueryCodes}
use Rattle.sums.proofs.PlaneLaws.{planes_plain}
use Rattle.planes.specs.Parts.{IsPlane, PlaneAt, Planes}

-- ---- a word of a plane

pub bit-none : (p : ℕ) → bit 0 p ≡ 0
unfolding bit
bit-none p = ap (λ (x : ℕ). x % 2) (zero-div (2 ^ p))

pub zeros_at : (n i : ℕ) → get_or {A = ℕ} (replicate n 0) i 0 ≡ 0
zeros_at n i =
    ⊎_elim
    (λ l. get_or-replicate {A = ℕ} n i 0 0 l)
    (λ l. get_or-eq_default {A = ℕ} (replicate n 0) 0 {n = i} (omega (arith, length-replicate {A = ℕ} n 0)))
    (lt_or_ge i n)

-- the codes of a word, as a part of the query's
pub part_at : (qs : List ℕ) (at end i : ℕ) → end ≡ min (at + 64) (length qs) → i < 64 → get_or (take (end - at) (drop at qs)) i 0 ≡ get_or qs (at + i) 0
part_at qs at end i e h = ⊎_elim inside outside (lt_or_ge i (end - at))
  where
    inside : i < end - at → get_or (take (end - at) (drop at qs)) i 0 ≡ get_or qs (at + i) 0
    inside l = get_or-take (end - at) (drop at qs) i 0 l ∙ get_or-drop at qs i 0

    outside : end - at ≤ i → get_or (take (end - at) (drop at qs)) i 0 ≡ get_or qs (at + i) 0
    outside l =
        let over : length qs ≤ at + i = ⊎_elim (λ (k : length qs < at + 64). omega (arith, min-eq_right (le_of_lt k)))
        (λ (k : at + 64 ≤ length qs). absurd (omega (arith, min-eq_left k))) (lt_or_ge (length qs) (at + 64)) in
        get_or-eq_default (take (end - at) (drop at qs)) 0 {n = i}
        (omega (arith, length-take (end - at) (drop at qs), min-le_left (end - at) (length (drop at qs))))
        ∙ sym (get_or-eq_default qs 0 {n = at + i} over)

-- four digits in a byte each, gathered by one product
pub fold_four : (b₀ b₁ b₂ b₃ : ℕ) → b₀ < 2 → b₁ < 2 → b₂ < 2 → b₃ < 2
    → (b₀ + 256 * (b₁ + 256 * (b₂ + 256 * b₃))) * 0x20_4081 / 0x20_0000 % 16 ≡ b₀ + 2 * b₁ + 4 * b₂ + 8 * b₃
fold_four b₀ b₁ b₂ b₃ h₀ h₁ h₂ h₃ =
    let low = 16513 * b₀ + 33024 * b₁ + 65536 * b₂ in
    let high = 16 * b₁ + 4128 * b₂ + 1056832 * b₃ in
    let e : (b₀ + 256 * (b₁ + 256 * (b₂ + 256 * b₃))) * 0x20_4081 ≡ low + 0x20_0000 * (b₀ + 2 * b₁ + 4 * b₂ + 8 * b₃ + 16 * high) = omega arith in
    ap (λ (x : ℕ). x / 0x20_0000 % 16) e ∙ between low (b₀ + 2 * b₁ + 4 * b₂ + 8 * b₃) high (omega arith) (omega arith)
  where
    between : (l x h : ℕ) → l < 0x20_0000 → x < 16 → (l + 0x20_0000 * (x + 16 * h)) / 0x20_0000 % 16 ≡ x
    between l x h a b = omega arith

-- four bytes as a number, and four digits
pub four_bytes : (s : List ℕ) (i : ℕ) → num_at 4 s i ≡ get_or s i 0 + 256 * (get_or s (i + 1) 0 + 256 * (get_or s (i + 2) 0 + 256 * get_or s (i + 3) 0))
unfolding num_at
four_bytes s i = simp add_assoc (omega arith)

pub four_digits : (s : List ℕ) (i : ℕ) → get_or s i 0 + 2 * get_or s (i + 1) 0 + 4 * get_or s (i + 2) 0 + 8 * get_or s (i + 3) 0 ≡ join 1 4 (λ j. get_or s (i + j) 0)
unfolding join sum_to
four_digits s i = simp add-zero (omega arith)

-- four digits at a time
pub join_nibbles : (n : ℕ) (f : ℕ → ℕ) → join 4 n (λ k. join 1 4 (λ j. f (4 * k + j))) ≡ join 1 (4 * n) f
unfolding join
join_nibbles n f =
    sum_ext n (λ k. sum_to 4 (λ j. f (4 * k + j) * 2 ^ (1 * j)) * 2 ^ (4 * k)) (λ k. sum_to 4 (λ j. term (4 * k + j)))
    (λ k _. mul_comm (sum_to 4 (λ j. f (4 * k + j) * 2 ^ (1 * j))) (2 ^ (4 * k)) ∙ sym (sum_times (2 ^ (4 * k)) 4 (λ j. f (4 * k + j) * 2 ^ (1 * j)))
    ∙ sum_ext 4 (λ j. 2 ^ (4 * k) * (f (4 * k + j) * 2 ^ (1 * j))) (λ j. term (4 * k + j)) (λ j _. placed k j))
    ∙ sum_blocks 4 n term
  where
    term : ℕ → ℕ
    term i = f i * 2 ^ (1 * i)

    placed : (k j : ℕ) → 2 ^ (4 * k) * (f (4 * k + j) * 2 ^ (1 * j)) ≡ term (4 * k + j)
    placed k j =
        let e : 4 * k + 1 * j ≡ 1 * (4 * k + j) = omega arith in
        mul_left_comm (2 ^ (4 * k)) (f (4 * k + j)) (2 ^ (1 * j))
        ∙ ap (λ (x : ℕ). f (4 * k + j) * x) (sym (pow-add 2 (4 * k) (1 * j)) ∙ ap (λ (x : ℕ). 2 ^ x) e)

-- ---- the counts

pub counts_plain : (qs words : List ℕ) → QueryCodes qs → ((k : ℕ) → get_or words k 0 < 256) → {r₀ r₁ r₂ r₃ : ℕ}
    → r₀ ≡ plane_ones qs words 0 → r₁ ≡ plane_ones qs words 1 → r₂ ≡ plane_ones qs words 2 → r₃ ≡ plane_ones qs words 3
    → r₀ + 2 * r₁ + 4 * r₂ + 8 * r₃ ≡ plain_sum qs (words_bit words)
unfolding plane_count
counts_plain qs words q bytes e₀ e₁ e₂ e₃ = omega (arith, planes_plain qs words q bytes)

-- a count of a plane, which the code holds from place at to place e
pub held-ones : (qs words t : List ℕ) (p at e : ℕ) → e ≡ at + code_words (length qs) → e ≤ length t → PlaneAt qs p t at → let part = take (e - at) (drop at t) in
    sum_to (length part) (λ w. ones (bit_and (num_at 8 words (8 * w)) (get_or part w 0))) ≡ plane_ones qs words p
unfolding plane_ones
held-ones qs words t p at e is l plane =
    let part = take (e - at) (drop at t) in
    let long : length part ≡ code_words (length qs) = omega (arith, length-take-le (e - at) (drop at t), length-drop at t) in
    ap (λ (n : ℕ). sum_to n (λ w. ones (bit_and (num_at 8 words (8 * w)) (get_or part w 0)))) long
    ∙ sum_ext (code_words (length qs)) (λ w. ones (bit_and (num_at 8 words (8 * w)) (get_or part w 0)))
    (λ w. ones (bit_and (num_at 8 words (8 * w)) (plane_word qs p w)))
    (λ w h. ap (λ (x : ℕ). ones (bit_and (num_at 8 words (8 * w)) x)) (get_or-take (e - at) (drop at t) w 0 (omega arith) ∙ get_or-drop at t w 0 ∙ plane w h))

-- ---- the planes, one written after the other

module _ (a k : ℕ) (xs ys : List ℕ) (fits : a + k ≤ length xs) (long : length ys ≡ k) where
  put_length : length (put_mid a k xs ys) ≡ length xs
  put_length = search (rules, overwrites)

  put_inside : (w : ℕ) → w < k → get_or (put_mid a k xs ys) (a + w) 0 ≡ get_or ys w 0
  put_inside w l = search (rules, places)

  put_below : (i : ℕ) → i < a → get_or (put_mid a k xs ys) i 0 ≡ get_or xs i 0
  put_below i l = search (rules, places)

pub planes_put : (qs rest p₀ p₁ p₂ p₃ : List ℕ) → 3 * code_words (length qs) ≤ length rest → IsPlane qs 0 p₀ → IsPlane qs 1 p₁ → IsPlane qs 2 p₂
    → IsPlane qs 3 p₃ → let n = code_words (length qs) in
    Planes qs (put_mid (3 * n) (4 * n - 3 * n) (put_mid (2 * n) (3 * n - 2 * n) (put_mid n (2 * n - n) (p₀ ++ rest) p₁) p₂) p₃)
planes_put qs rest p₀ p₁ p₂ p₃ r a b c d = record {
  room = omega (arith, long₀, long₁, long₂, long₃);
  one = λ w l.
      let e : 0 + w ≡ w = omega arith in
      ap (λ (i : ℕ). get_or t₃ i 0) e ∙ put_below (3 * n) k₃ t₂ p₃ fit₃ l₃ w (omega arith) ∙ put_below (2 * n) k₂ t₁ p₂ fit₂ l₂ w (omega arith)
      ∙ put_below n k₁ t₀ p₁ fit₁ l₁ w l ∙ get_or-append p₀ rest 0 w (omega (arith, a.0)) ∙ a.1 w (omega (arith, a.0));
  two = λ w l.
      put_below (3 * n) k₃ t₂ p₃ fit₃ l₃ (n + w) (omega arith) ∙ put_below (2 * n) k₂ t₁ p₂ fit₂ l₂ (n + w) (omega arith)
      ∙ put_inside n k₁ t₀ p₁ fit₁ l₁ w (omega arith) ∙ b.1 w (omega (arith, b.0));
  four = λ w l.
      put_below (3 * n) k₃ t₂ p₃ fit₃ l₃ (2 * n + w) (omega arith) ∙ put_inside (2 * n) k₂ t₁ p₂ fit₂ l₂ w (omega arith) ∙ c.1 w (omega (arith, c.0));
  eight = λ w l. put_inside (3 * n) k₃ t₂ p₃ fit₃ l₃ w (omega arith) ∙ d.1 w (omega (arith, d.0));
}
  where
    n : ℕ
    n = code_words (length qs)

    k₁ : ℕ
    k₁ = 2 * n - n

    k₂ : ℕ
    k₂ = 3 * n - 2 * n

    k₃ : ℕ
    k₃ = 4 * n - 3 * n

    t₀ : List ℕ
    t₀ = p₀ ++ rest

    long₀ : length t₀ ≡ n + length rest
    long₀ = omega (arith, length-append p₀ rest, a.0)

    fit₁ : n + k₁ ≤ length t₀
    fit₁ = omega (arith, long₀)

    l₁ : length p₁ ≡ k₁
    l₁ = omega (arith, b.0)

    t₁ : List ℕ
    t₁ = put_mid n k₁ t₀ p₁

    long₁ : length t₁ ≡ length t₀
    long₁ = put_length n k₁ t₀ p₁ fit₁ l₁

    fit₂ : 2 * n + k₂ ≤ length t₁
    fit₂ = omega (arith, long₀, long₁)

    l₂ : length p₂ ≡ k₂
    l₂ = omega (arith, c.0)

    t₂ : List ℕ
    t₂ = put_mid (2 * n) k₂ t₁ p₂

    long₂ : length t₂ ≡ length t₁
    long₂ = put_length (2 * n) k₂ t₁ p₂ fit₂ l₂

    fit₃ : 3 * n + k₃ ≤ length t₂
    fit₃ = omega (arith, long₀, long₁, long₂)

    l₃ : length p₃ ≡ k₃
    l₃ = omega (arith, d.0)

    t₃ : List ℕ
    t₃ = put_mid (3 * n) k₃ t₂ p₃

    long₃ : length t₃ ≡ length t₂
    long₃ = put_length (3 * n) k₃ t₂ p₃ fit₃ l₃
