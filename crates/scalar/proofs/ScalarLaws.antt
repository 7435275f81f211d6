-- Laws of specs/Code and specs/Table that the workers' proofs cite. Assumes nothing.
use Prim.Native.Nat.{ℕ, zero, suc, ◌+◌, ◌-◌, ◌*◌, ◌/◌, ◌%◌, ◌^◌, ◌≤◌, ◌<◌}
use mathlib.Core.Bool.{true}
use mathlib.Core.List.{List}
use mathlib.Core.Path.{◌≡◌, refl, sym, ap, ap₂, ◌∙◌}
use native.Mathlib.Omega.{arith}
use native.Mathlib.Nat.{mul_comm, add_assoc, le_of_eq}
use lib.ListN.{length, get_or, take, drop, length-drop}
use lib.Seq.{sets, get_or-drop, take_all}
use lib.Pow.{pow_pos}
use lib.Ieee.{Float, to_bits, binary32}
use Rattle.words.specs.Bytes.{num_at, f32_at, floats_of}
use Rattle.words.specs.Digits.{join}
use Rattle.words.specs.Floats.{◌⊕◌, plus_zero, added_to}
use Rattle.words.specs.Limits.{most_scalar_dims}
use Rattle.words.specs.Lists.{joined}
use Rattle.words.proofs.ByteLaws.{sets_append}
use Rattle.words.proofs.DigitLaws.{join_ext}
use Rattle.words.proofs.FloatLaws.{added_on}
use Rattle.words.proofs.ListLaws.{length-tabulate, tabulate-at, joined_more, length-joined, filled}
use Rattle.words.proofs.WordsLaws.{length-words_of}
use Rattle.digits.specs.Digits.{is_width, levels, top, per_byte, packed_size, digit_at, packed_byte, packed}
use Rattle.digits.proofs.DigitLaws.{by_width, full_byte, last_byte}
use Rattle.scalar.specs.Code.{quotient, dimension_code, codes_of, scalar_code}
use Rattle.scalar.specs.Table.{term_at}
use Rattle.scalar.proofs.RoundLaws.{code_le}

-- ---- codes

pub code-small : (w t : ℕ) → t ≡ top w → (v lo hi : List ℕ) (i : ℕ) → dimension_code t v lo hi i < 2 ^ w
unfolding dimension_code
code-small w t e v lo hi i = omega (arith, code_le t (quotient t (f32_at v i) (f32_at lo i) (f32_at hi i)), pow_pos w)

module _ (w dims : ℕ) (v lo hi : List ℕ) where
  pub count_codes : length (codes_of (top w) dims v lo hi) ≡ dims
  unfolding codes_of
  count_codes = length-tabulate dims (dimension_code (top w) v lo hi)

  listed : (at n : ℕ) → at + n ≤ dims
      → join w n (λ j. dimension_code (top w) v lo hi (at + j)) ≡ join w n (λ j. get_or (codes_of (top w) dims v lo hi) (at + j) 0)
  unfolding codes_of
  listed at n h = join_ext w n _ _ (λ j l. sym (tabulate-at dims (dimension_code (top w) v lo hi) (at + j) (omega arith)))

  -- byte k of the code, whole and at the end
  pub whole_codes : (k : ℕ) → k * per_byte w + per_byte w ≤ dims
      → join w (per_byte w) (λ j. dimension_code (top w) v lo hi (k * per_byte w + j)) ≡ packed_byte w (codes_of (top w) dims v lo hi) k
  whole_codes k h = listed (k * per_byte w) (per_byte w) h ∙ full_byte w k (codes_of (top w) dims v lo hi)

  pub last_codes : (k n : ℕ) → n ≤ per_byte w → k * per_byte w + n ≡ dims
      → join w n (λ j. dimension_code (top w) v lo hi (k * per_byte w + j)) ≡ packed_byte w (codes_of (top w) dims v lo hi) k
  last_codes k n l h = listed (k * per_byte w) n (omega arith) ∙ last_byte w k n (codes_of (top w) dims v lo hi) l (h ∙ sym count_codes)

  pub scalar_filled : (s : List ℕ) → length s ≡ packed_size w dims
      → ((k : ℕ) → k < packed_size w dims → get_or s k 0 ≡ packed_byte w (codes_of (top w) dims v lo hi) k) → s ≡ scalar_code w dims v lo hi
  unfolding scalar_code packed
  scalar_filled s e h = rw count_codes (filled (packed_size w dims) (packed_byte w (codes_of (top w) dims v lo hi)) s e h)

-- ---- rows

pub length-row : (n : ℕ) (entry : ℕ → Float) → length (floats_of n entry) ≡ n * 4
length-row n entry = length-words_of n (λ j. to_bits binary32 (entry j)) ∙ mul_comm 4 n

pub levels_le : (w : ℕ) → is_width w ≡ true → levels w ≤ 256
levels_le w h = by_width (λ w. levels w ≤ 256) (omega arith) (omega arith) (omega arith) (omega arith) w h

-- the loops that write pieces of m bytes one after the other
pub piece_more : (m : ℕ) (g : ℕ → List ℕ) → ((i : ℕ) → length (g i) ≡ m) → (l : List ℕ) (at k p : ℕ) → p ≡ at + k * m
    → sets (sets l at (joined k g)) p (g k) ≡ sets l at (joined (k + 1) g)
piece_more m g h l at k p e =
    let f : p ≡ at + length (joined k g) = e ∙ ap (λ (z : ℕ). at + z) (sym (length-joined m k g (λ i q. h i))) in
    rw f (sets_append l at (joined k g) (g k)) ∙ ap (sets l at) (sym (joined_more k g))

-- ---- the loop that adds the entries at the digits: k groups of eight dimensions are done

num_drop : (n a : ℕ) (s : List ℕ) (i : ℕ) → num_at n (drop a s) i ≡ num_at n s (a + i)
unfolding num_at
num_drop zero a s i = refl
num_drop (suc n) a s i = rw (get_or-drop a s i 0, num_drop n a s (i + 1), add_assoc) refl

f32_drop : (a m i : ℕ) (s : List ℕ) → a ≡ 4 * m → f32_at (drop a s) i ≡ f32_at s (m + i)
unfolding f32_at
f32_drop a m i s e = let p : a + 4 * i ≡ 4 * (m + i) = omega arith in rw (num_drop 4 a s (4 * i), p) refl

digit_drop : (w k j : ℕ) (code : List ℕ) → is_width w ≡ true → digit_at w (drop (k * w) code) j ≡ digit_at w code (k * 8 + j)
unfolding digit_at
digit_drop w k j code h =
    let a : k * w + j / per_byte w ≡ (k * 8 + j) / per_byte w =
    by_width (λ w. k * w + j / per_byte w ≡ (k * 8 + j) / per_byte w) (omega arith) (omega arith) (omega arith) (omega arith) w h in
    let b : j % per_byte w ≡ (k * 8 + j) % per_byte w =
    by_width (λ w. j % per_byte w ≡ (k * 8 + j) % per_byte w) (omega arith) (omega arith) (omega arith) (omega arith) w h in
    rw (get_or-drop (k * w) code (j / per_byte w) 0, a, b) refl

-- the part of a buffer from a on
rest : (a : ℕ) (s : List ℕ) → take (length s - a) (drop a s) ≡ drop a s
rest a s = take_all (length s - a) (drop a s) (le_of_eq (length-drop a s))

pub rest_long : (a n : ℕ) (s : List ℕ) → n ≤ length s - a → n ≤ length (take (length s - a) (drop a s))
rest_long a n s h = rw (rest a s, length-drop a s) h

term_drop : (w k a j : ℕ) (table code : List ℕ) → is_width w ≡ true → a ≡ k * (4 * (8 * levels w))
    → term_at w (drop a table) (drop (k * w) code) j ≡ term_at w table code (k * 8 + j)
unfolding term_at
term_drop w k a j table code h e =
    let p : k * 8 * levels w + (j * levels w + digit_at w code (k * 8 + j)) ≡ (k * 8 + j) * levels w + digit_at w code (k * 8 + j) = omega arith in
    rw (digit_drop w k j code h, f32_drop a (k * 8 * levels w) (j * levels w + digit_at w code (k * 8 + j)) table (omega arith), p) refl

added_ext : (s : Float) (n : ℕ) (f g : ℕ → Float) → ((j : ℕ) → f j ≡ g j) → added_to s n f ≡ added_to s n g
unfolding added_to
added_ext s zero f g h = refl
added_ext s (suc n) f g h = ap₂ (λ (x y : Float). x ⊕ y) (added_ext s n f g h) (h n)

-- the terms of the next n dimensions, read in what is left of the table and of the code
pub added_part : (w k n a : ℕ) (s : Float) (table code : List ℕ) → is_width w ≡ true → a ≡ k * (4 * (8 * levels w))
    → s ≡ added_to plus_zero (k * 8) (term_at w table code)
    → added_to s n (term_at w (take (length table - a) (drop a table)) (take (length code - k * w) (drop (k * w) code)))
    ≡ added_to plus_zero (k * 8 + n) (term_at w table code)
added_part w k n a s table code h e f =
    rw (rest a table, rest (k * w) code, f)
    (added_ext _ n _ _ (λ j. term_drop w k a j table code h e) ∙ added_on plus_zero (k * 8) n (term_at w table code))

-- what the loop counts fits
pub rows_fit : (w i : ℕ) → is_width w ≡ true → i ≤ most_scalar_dims → i * levels w + levels w ≤ 0x100_0000
rows_fit w i h l = by_width (λ w. i * levels w + levels w ≤ 0x100_0000) (omega arith) (omega arith) (omega arith) (omega arith) w h

-- n dimensions after k whole groups: where they begin in the table and in the code, and what is left there
module _ (w k n dims a : ℕ) (table code : List ℕ) (h : is_width w ≡ true) (l : k * 8 + n ≤ dims) (e : a ≡ k * (4 * (8 * levels w)))
    (t : length table ≡ 4 * (dims * levels w)) (c : length code ≡ packed_size w dims) where
  pub table_left : (a ≤ length table) × (4 * (n * levels w) ≤ length table - a)
  table_left =
      rw (e, t)
      (by_width (λ w. (k * (4 * (8 * levels w)) ≤ 4 * (dims * levels w)) × (4 * (n * levels w) ≤ 4 * (dims * levels w) - k * (4 * (8 * levels w))))
      (omega arith, omega arith) (omega arith, omega arith) (omega arith, omega arith) (omega arith, omega arith) w h)

  pub code_left : (k * w ≤ length code) × (packed_size w n ≤ length code - k * w)
  code_left =
      rw c
      (by_width (λ w. (k * w ≤ packed_size w dims) × (packed_size w n ≤ packed_size w dims - k * w)) (omega arith, omega arith) (omega arith, omega arith)
      (omega arith, omega arith) (omega arith, omega arith) w h)
