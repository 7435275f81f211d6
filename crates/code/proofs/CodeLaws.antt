-- Laws of the single code's layout. Assumes nothing.
use mathlib.Core.Path.{◌≡◌, sym, ap, ap₂, ◌∙◌}
use Prim.Native.Nat.{ℕ, zero, suc, ◌+◌, ◌-◌, ◌*◌, ◌/◌, ◌%◌, ◌^◌, ◌<◌, ◌≤◌}
use mathlib.Core.List.{List}
use native.Mathlib.Omega.{arith}
use native.Mathlib.Nat.{not-suc-le-zero, le_of_suc-le-suc, add-zero, zero-add}
use mathlib.Core.Logic.{⊎_elim}
use lib.ListN.{length, get_or, drop}
use lib.Seq.{get_or-drop}
use lib.Dec.{ltb}
use mir.Val.{bool_byte}
use borrow.Author.Tests.{lt-ltb, le-ltb}
use Rattle.words.specs.Bytes.{num_at}
use Rattle.words.specs.Digits.{bit, join, kept}
use Rattle.words.proofs.ListLaws.{length-tabulate, tabulate-at, tabulate_ext, filled}
use Rattle.words.proofs.DigitLaws.{bit-lt, bit-low, bit_high, bit-join, lt_or_ge, kept_in, kept_out, kept_ext, kept-lt, join_ext, join-whole}
use Rattle.code.specs.Code.{sign_clear, code_words, code_size, code_word, code_bit, words_bit, code_byte, code_of, cleared_code}

pub code-bit-lt : (code : List ℕ) (d : ℕ) → code_bit code d < 2
unfolding code_bit
code-bit-lt code d = bit-lt (get_or code (16 + d / 8) 0) (d % 8)

-- bit 8 j + i of a number in n bytes is bit i of byte j
num-bit : (n j i : ℕ) (s : List ℕ) (at : ℕ) → ((k : ℕ) → get_or s k 0 < 256) → j < n → i < 8 → bit (num_at n s at) (8 * j + i) ≡ bit (get_or s (at + j) 0) i
unfolding num_at
num-bit zero j i s at h lj li = absurd (not-suc-le-zero lj)
num-bit (suc n) zero i s at h lj li =
    let e : 8 * 0 + i ≡ i = omega arith in
    ap (bit (get_or s at 0 + 256 * num_at n s (at + 1))) e ∙ bit-low 8 i (get_or s at 0) (num_at n s (at + 1)) li
    ∙ ap (λ (x : ℕ). bit (get_or s x 0) i) (sym (add-zero at))
num-bit (suc n) (suc j) i s at h lj li =
    let e : 8 * suc j + i ≡ 8 + (8 * j + i) = omega arith in
    let next : at + 1 + j ≡ at + suc j = omega arith in
    ap (bit (get_or s at 0 + 256 * num_at n s (at + 1))) e ∙ bit_high 8 (8 * j + i) (get_or s at 0) (num_at n s (at + 1)) (h at)
    ∙ num-bit n j i s (at + 1) h (le_of_suc-le-suc lj) li
    ∙ ap (λ (x : ℕ). bit (get_or s x 0) i) next

-- bit i of the 64-bit word at place at + 8 w is bit i % 8 of byte i / 8 of it
word_digit : (s : List ℕ) → ((k : ℕ) → get_or s k 0 < 256) → (at w i : ℕ) → i < 64
    → bit (num_at 8 s (at + 8 * w)) i ≡ bit (get_or s (at + (64 * w + i) / 8) 0) ((64 * w + i) % 8)
word_digit s h at w i l =
    let e : i ≡ 8 * (i / 8) + i % 8 = omega arith in
    let place : at + 8 * w + i / 8 ≡ at + (64 * w + i) / 8 = omega arith in
    let digit : i % 8 ≡ (64 * w + i) % 8 = omega arith in
    ap (bit (num_at 8 s (at + 8 * w))) e ∙ num-bit 8 (i / 8) (i % 8) s (at + 8 * w) h (omega arith) (omega arith)
    ∙ ap₂ (λ (x y : ℕ). bit (get_or s x 0) y) place digit

-- bit i of word w is dimension 64 w + i
pub word_bit : (code : List ℕ) → ((k : ℕ) → get_or code k 0 < 256) → (w i : ℕ) → i < 64 → bit (code_word code w) i ≡ code_bit code (64 * w + i)
unfolding code_word code_bit
word_bit code h w i l = word_digit code h 16 w i l

-- and so in the word bytes alone
pub words_bit_lem : (words : List ℕ) → ((k : ℕ) → get_or words k 0 < 256) → (w i : ℕ) → i < 64 → bit (num_at 8 words (8 * w)) i ≡ words_bit words (64 * w + i)
unfolding words_bit
words_bit_lem words h w i l =
    ap (λ (x : ℕ). bit (num_at 8 words x) i) (sym (zero-add (8 * w))) ∙ word_digit words h 0 w i l
    ∙ ap (λ (x : ℕ). bit (get_or words x 0) ((64 * w + i) % 8)) (zero-add ((64 * w + i) / 8))

-- the bits of a code are those of its word bytes
pub code-words_bit : (code : List ℕ) (d : ℕ) → code_bit code d ≡ words_bit (drop 16 code) d
unfolding code_bit words_bit
code-words_bit code d = ap (λ (x : ℕ). bit x (d % 8)) (sym (get_or-drop 16 code (d / 8) 0))

-- bit j of byte x of the words is dimension 8 x + j
pub byte_bit : (code : List ℕ) (x j : ℕ) → j < 8 → code_bit code (8 * x + j) ≡ bit (get_or code (16 + x) 0) j
unfolding code_bit
byte_bit code x j l =
    let at : (8 * x + j) / 8 ≡ x = omega arith in
    let digit : (8 * x + j) % 8 ≡ j = omega arith in
    ap₂ (λ (a b : ℕ). bit (get_or code (16 + a) 0) b) at digit

-- ---- a code made of factor bytes and bits

pub byte_factor : (dims : ℕ) (f b : ℕ → ℕ) (i : ℕ) → i < 16 → code_byte dims f b i ≡ f i
unfolding code_byte
byte_factor dims f b i l = rw (lt-ltb i 16 l)

pub byte_digits : (dims : ℕ) (f b : ℕ → ℕ) (i : ℕ) → 16 ≤ i → code_byte dims f b i ≡ join 1 8 (λ j. kept dims b (8 * (i - 16) + j))
unfolding code_byte
byte_digits dims f b i l = rw (le-ltb i 16 l)

-- it goes by the 16 factor bytes and the bits of the dims alone
pub code_ext : (dims : ℕ) (f f' b b' : ℕ → ℕ) → ((i : ℕ) → i < 16 → f i ≡ f' i) → ((d : ℕ) → d < dims → b d ≡ b' d) → code_of dims f b ≡ code_of dims f' b'
unfolding code_of
code_ext dims f f' b b' ef eb = tabulate_ext (code_size dims) (code_byte dims f b) (code_byte dims f' b') (λ i _. ⊎_elim (factor i) (digits i) (lt_or_ge i 16))
  where
    factor : (i : ℕ) → i < 16 → code_byte dims f b i ≡ code_byte dims f' b' i
    factor i l = byte_factor dims f b i l ∙ ef i l ∙ sym (byte_factor dims f' b' i l)

    digits : (i : ℕ) → 16 ≤ i → code_byte dims f b i ≡ code_byte dims f' b' i
    digits i l =
        byte_digits dims f b i l
        ∙ join_ext 1 8 (λ j. kept dims b (8 * (i - 16) + j)) (λ j. kept dims b' (8 * (i - 16) + j)) (λ j _. kept_ext dims b b' eb (8 * (i - 16) + j))
        ∙ sym (byte_digits dims f' b' i l)

pub length-code : (dims : ℕ) (f b : ℕ → ℕ) → length (code_of dims f b) ≡ code_size dims
unfolding code_of
length-code dims f b = length-tabulate (code_size dims) (code_byte dims f b)

-- and they are read back from it
pub factor_of_code : (dims : ℕ) (f b : ℕ → ℕ) (i : ℕ) → i < 16 → get_or (code_of dims f b) i 0 ≡ f i
unfolding code_of
factor_of_code dims f b i l = tabulate-at (code_size dims) (code_byte dims f b) i (omega arith) ∙ byte_factor dims f b i l

digit_of_code : (dims : ℕ) (f b : ℕ → ℕ) → ((d : ℕ) → b d < 2) → (d : ℕ) → d < 64 * code_words dims → code_bit (code_of dims f b) d ≡ kept dims b d
unfolding code_bit code_of
digit_of_code dims f b two d l =
    let back : 8 * (16 + d / 8 - 16) + d % 8 ≡ d = omega arith in
    ap (λ (x : ℕ). bit x (d % 8)) (tabulate-at (code_size dims) (code_byte dims f b) (16 + d / 8) (omega arith) ∙ byte_digits dims f b (16 + d / 8) (omega arith))
    ∙ bit-join 8 (d % 8) (λ j. kept dims b (8 * (16 + d / 8 - 16) + j)) (λ j. kept-lt dims b two (8 * (16 + d / 8 - 16) + j)) (omega arith)
    ∙ ap (kept dims b) back

pub bit_of_code : (dims : ℕ) (f b : ℕ → ℕ) → ((d : ℕ) → b d < 2) → (d : ℕ) → d < dims → code_bit (code_of dims f b) d ≡ b d
bit_of_code dims f b two d l = digit_of_code dims f b two d (omega arith) ∙ kept_in dims b d l

-- its pad bits are 0
pub pad_of_code : (dims : ℕ) (f b : ℕ → ℕ) → ((d : ℕ) → b d < 2) → (d : ℕ) → dims ≤ d → d < 64 * code_words dims → code_bit (code_of dims f b) d ≡ 0
pad_of_code dims f b two d l h = digit_of_code dims f b two d h ∙ kept_out dims b d l

-- ---- a code with its pad bits 0

-- one whose pad bits are 0 is left alone
pub code_cleared : (dims : ℕ) (code : List ℕ) → length code ≡ code_size dims → ((i : ℕ) → get_or code i 0 < 256)
    → ((d : ℕ) → dims ≤ d → d < 64 * code_words dims → code_bit code d ≡ 0) → cleared_code dims code ≡ code
unfolding cleared_code code_of
code_cleared dims code size byte pad =
    sym (filled (code_size dims) (code_byte dims (λ i. get_or code i 0) (code_bit code)) code size (λ i l. ⊎_elim (factor i) (digits i l) (lt_or_ge i 16)))
  where
    factor : (i : ℕ) → i < 16 → get_or code i 0 ≡ code_byte dims (λ i. get_or code i 0) (code_bit code) i
    factor i l = sym (byte_factor dims (λ i. get_or code i 0) (code_bit code) i l)

    digits : (i : ℕ) → i < code_size dims → 16 ≤ i → get_or code i 0 ≡ code_byte dims (λ i. get_or code i 0) (code_bit code) i
    digits i h l =
        sym (byte_digits dims (λ i. get_or code i 0) (code_bit code) i l
        ∙ join-whole 8 dims (8 * (i - 16)) (get_or code i 0) (code_bit code) (byte i)
        (λ j lj. byte_bit code (i - 16) j lj ∙ ap (λ (x : ℕ). bit (get_or code x 0) j) (omega arith))
        (λ j lj p. pad (8 * (i - 16) + j) p (omega arith)))

pub sign_lt : (v : List ℕ) (d : ℕ) → sign_clear v d < 2
unfolding sign_clear
sign_lt v d = omega arith

-- ---- a byte of a code that is made of a vector

pub sign_kept : (v : List ℕ) (dims d x : ℕ) → x < 2 ^ 32 → d < dims → x ≡ num_at 4 v (4 * d)
    → (bool_byte (ltb x 0x8000_0000) ≡ kept dims (sign_clear v) d) × (bool_byte (ltb x 0x8000_0000) < 2)
unfolding sign_clear
sign_kept v dims d x h l e = rw (kept_in dims (sign_clear v) d l, ← e) (⊎_elim (λ a. rw (lt-ltb x 0x8000_0000 a) (omega arith, omega arith)) (λ a. rw (le-ltb x 0x8000_0000 a) (omega arith, omega arith)) (lt_or_ge x 0x8000_0000))
