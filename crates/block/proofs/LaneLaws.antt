-- What a block has of a lane: its nibbles and its bits. Assumes nothing.
use mathlib.Core.Path.{◌≡◌, sym, ap, ap₂, ◌∙◌}
use Prim.Native.Nat.{ℕ, ◌+◌, ◌*◌, ◌/◌, ◌%◌, ◌^◌, ◌-◌, ◌<◌, ◌≤◌, min}
use mathlib.Core.List.{List}
use mathlib.Core.Logic.{⊎_elim}
use native.Mathlib.Omega.{arith}
use native.Mathlib.Nat.{mod-lt, div-one, mod-eq_of_lt}
use lib.Dec.{lit<}
use lib.ListN.{get_or}
use borrow.Author.Tests.{lt-ltb, le-ltb}
use Rattle.words.specs.Digits.{bit}
use Rattle.words.proofs.DigitLaws.{bit-lt, bit-low, bit_high, lt_or_ge, join_kept}
use Rattle.code.specs.Code.{code_byte}
use Rattle.block.specs.Block.{lane_factor, lane_nibble, lane_bit}

pub nibble_lt : (block : List ℕ) (k g : ℕ) → lane_nibble block k g < 16
unfolding lane_nibble
nibble_lt block k g = mod-lt (get_or block (512 + 16 * g + k % 16) 0 / 16 ^ (k / 16)) (lit< tt)

pub lane_bit-lt : (block : List ℕ) (k d : ℕ) → lane_bit block k d < 2
unfolding lane_bit
lane_bit-lt block k d = bit-lt (lane_nibble block k (d / 4)) (d % 4)

-- bit j of the nibble of group g is dimension 4 g + j
pub lane_bit-at : (block : List ℕ) (k g j : ℕ) → j < 4 → lane_bit block k (4 * g + j) ≡ bit (lane_nibble block k g) j
unfolding lane_bit
lane_bit-at block k g j l =
    let group : (4 * g + j) / 4 ≡ g = omega arith in
    let digit : (4 * g + j) % 4 ≡ j = omega arith in
    ap₂ (λ (a c : ℕ). bit (lane_nibble block k a) c) group digit

-- the halves of byte j of a group are the nibbles of lanes j and j + 16
pub nibble_low : (block : List ℕ) (j g : ℕ) → j < 16 → lane_nibble block j g ≡ get_or block (512 + 16 * g + j) 0 % 16
unfolding lane_nibble
nibble_low block j g h =
    let at : j % 16 ≡ j = omega arith in
    let low : j / 16 ≡ 0 = omega arith in
    ap₂ (λ (x y : ℕ). get_or block (512 + 16 * g + x) 0 / 16 ^ y % 16) at low ∙ ap (λ (x : ℕ). x % 16) (div-one _)

pub nibble_high : (block : List ℕ) (j g : ℕ) → j < 16 → get_or block (512 + 16 * g + j) 0 < 256
    → lane_nibble block (j + 16) g ≡ get_or block (512 + 16 * g + j) 0 / 16
unfolding lane_nibble
nibble_high block j g h byte =
    let at : (j + 16) % 16 ≡ j = omega arith in
    let high : (j + 16) / 16 ≡ 1 = omega arith in
    ap₂ (λ (x y : ℕ). get_or block (512 + 16 * g + x) 0 / 16 ^ y % 16) at high ∙ mod-eq_of_lt {n = get_or block (512 + 16 * g + j) 0 / 16} (omega arith)

-- ---- the bytes of a lane as a single code

pub lane_factor_lem : (dims : ℕ) (block : List ℕ) (k i : ℕ) → i < 16
    → code_byte dims (lane_factor block k) (lane_bit block k) i ≡ get_or block (128 * (i / 4) + 4 * k + i % 4) 0
unfolding code_byte lane_factor
lane_factor_lem dims block k i l = rw (lt-ltb i 16 l)

-- two nibbles of the lane, cut to the dims
pub lane_octet : (dims : ℕ) (block : List ℕ) (k i y : ℕ) → 16 ≤ i → y ≡ lane_nibble block k (2 * (i - 16)) + 16 * lane_nibble block k (2 * (i - 16) + 1)
    → code_byte dims (lane_factor block k) (lane_bit block k) i ≡ y % 2 ^ min 8 (dims - 8 * (i - 16))
unfolding code_byte
lane_octet dims block k i y l e = rw (le-ltb i 16 l) (join_kept 8 dims (8 * x) y (lane_bit block k) digits)
  where
    x : ℕ
    x = i - 16

    digits : (j : ℕ) → j < 8 → lane_bit block k (8 * x + j) ≡ bit y j
    digits j h = ⊎_elim low high (lt_or_ge j 4)
      where
        low : j < 4 → lane_bit block k (8 * x + j) ≡ bit y j
        low l4 =
            let at : 8 * x + j ≡ 4 * (2 * x) + j = omega arith in
            ap (lane_bit block k) at ∙ lane_bit-at block k (2 * x) j l4
            ∙ sym (bit-low 4 j (lane_nibble block k (2 * x)) (lane_nibble block k (2 * x + 1)) l4) ∙ ap (λ (z : ℕ). bit z j) (sym e)

        high : 4 ≤ j → lane_bit block k (8 * x + j) ≡ bit y j
        high l4 =
            let at : 8 * x + j ≡ 4 * (2 * x + 1) + (j - 4) = omega arith in
            let back : 4 + (j - 4) ≡ j = omega arith in
            ap (lane_bit block k) at ∙ lane_bit-at block k (2 * x + 1) (j - 4) (omega arith)
            ∙ sym (bit_high 4 (j - 4) (lane_nibble block k (2 * x)) (lane_nibble block k (2 * x + 1)) (nibble_lt block k (2 * x)))
            ∙ ap₂ bit (sym e) back
