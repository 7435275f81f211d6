-- A block built from single codes: what each byte is of the codes' bytes. Assumes nothing.
use mathlib.Core.Path.{◌≡◌, sym, ap, ap₂, ◌∙◌}
use mathlib.Core.Logic.{⊎_elim}
use Prim.Native.Nat.{ℕ, ◌+◌, ◌-◌, ◌*◌, ◌/◌, ◌%◌, ◌^◌, ◌<◌, ◌≤◌, min}
use mathlib.Core.List.{List}
use native.Mathlib.Omega.{arith}
use lib.ListN.{get_or}
use borrow.Author.Tests.{lt-ltb, le-ltb}
use Rattle.words.specs.Digits.{bit, join, kept}
use Rattle.words.specs.Lists.{record_of}
use Rattle.words.proofs.DigitLaws.{lt_or_ge, kept-lt, bits_lt, join_ext, join_kept, join_halves}
use Rattle.code.specs.Code.{code_size, code_bit}
use Rattle.code.proofs.CodeLaws.{code-bit-lt, byte_bit}
use Rattle.block.specs.Block.{group_nibble, group_byte, block_byte}
use Rattle.block.specs.Parts.{packed_block_byte}

-- the half of eight digits that belongs to group g is four of them
half-join : (f : ℕ → ℕ) → ((i : ℕ) → f i < 2) → (g : ℕ) → join 1 8 f / 16 ^ (g % 2) % 16 ≡ join 1 4 (λ i. f (4 * (g % 2) + i))
half-join f two g =
    ⊎_elim
    (λ h. let e : g % 2 ≡ 0 = omega arith in
    ap (λ (x : ℕ). join 1 8 f / 16 ^ x % 16) e ∙ omega (arith, join_halves f, bits_lt 4 f two)
    ∙ join_ext 1 4 f (λ i. f (4 * (g % 2) + i)) (λ i _. ap f (zero i e)))
    (λ h. let e : g % 2 ≡ 1 = omega arith in
    ap (λ (x : ℕ). join 1 8 f / 16 ^ x % 16) e ∙ omega (arith, join_halves f, bits_lt 4 f two, bits_lt 4 (λ i. f (4 + i)) (λ i. two (4 + i)))
    ∙ join_ext 1 4 (λ i. f (4 + i)) (λ i. f (4 * (g % 2) + i)) (λ i _. ap f (four i e)))
    (lt_or_ge (g % 2) 1)
  where
    zero : (i : ℕ) → g % 2 ≡ 0 → i ≡ 4 * (g % 2) + i
    zero i e = omega arith

    four : (i : ℕ) → g % 2 ≡ 1 → 4 + i ≡ 4 * (g % 2) + i
    four i e = omega arith

-- the nibble of code k in group g, from the byte of the code's words that holds it
pub nibble_of : (dims : ℕ) (codes : List ℕ) (g k y : ℕ) → y ≡ get_or (record_of (code_size dims) codes k) (16 + g / 2) 0
    → y % 2 ^ min 8 (dims - 8 * (g / 2)) / 16 ^ (g % 2) % 16 ≡ group_nibble dims (λ k. code_bit (record_of (code_size dims) codes k)) g k
unfolding group_nibble
nibble_of dims codes g k y e =
    ap (λ (x : ℕ). x / 16 ^ (g % 2) % 16) (sym (join_kept 8 dims (8 * (g / 2)) y b digits))
    ∙ half-join (λ j. kept dims b (8 * (g / 2) + j)) (λ j. kept-lt dims b (code-bit-lt (record_of (code_size dims) codes k)) (8 * (g / 2) + j)) g
    ∙ join_ext 1 4 (λ i. kept dims b (8 * (g / 2) + (4 * (g % 2) + i))) (λ i. kept dims b (4 * g + i)) (λ i _. ap (kept dims b) (place i))
  where
    b : ℕ → ℕ
    b = code_bit (record_of (code_size dims) codes k)

    digits : (j : ℕ) → j < 8 → b (8 * (g / 2) + j) ≡ bit y j
    digits j h = byte_bit (record_of (code_size dims) codes k) (g / 2) j h ∙ ap (λ (x : ℕ). bit x j) (sym e)

    place : (i : ℕ) → 8 * (g / 2) + (4 * (g % 2) + i) ≡ 4 * g + i
    place i = omega arith

-- the two kinds of bytes of a block
pub packed_factor : (dims : ℕ) (codes : List ℕ) (i : ℕ) → i < 512
    → packed_block_byte dims codes i ≡ get_or (record_of (code_size dims) codes (i % 128 / 4)) (4 * (i / 128) + i % 4) 0
unfolding packed_block_byte block_byte
packed_factor dims codes i l = rw (lt-ltb i 512 l)

pub packed_group : (dims : ℕ) (codes : List ℕ) (g j : ℕ) → j < 16
    → packed_block_byte dims codes (512 + 16 * g + j) ≡ group_nibble dims (λ k. code_bit (record_of (code_size dims) codes k)) g j
    + 16 * group_nibble dims (λ k. code_bit (record_of (code_size dims) codes k)) g (j + 16)
unfolding packed_block_byte block_byte group_byte
packed_group dims codes g j l =
    let past : 512 ≤ 512 + 16 * g + j = omega arith in
    let group : (512 + 16 * g + j - 512) / 16 ≡ g = omega arith in
    let lane : (512 + 16 * g + j - 512) % 16 ≡ j = omega arith in
    rw (le-ltb (512 + 16 * g + j) 512 past) (ap₂ (group_byte dims (λ k. code_bit (record_of (code_size dims) codes k))) group lane)
