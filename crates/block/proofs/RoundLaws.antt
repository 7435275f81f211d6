-- Demand 2's round trip, both ways: lane k of a packed block is code k with its pad bits 0, and the lanes of a block, packed, are the block with
-- its pad bits 0. Assumes nothing.
use mathlib.Core.Path.{◌≡◌, refl, sym, ap, ap₂, ◌∙◌}
use mathlib.Core.Logic.{⊎_elim}
use Prim.Native.Nat.{ℕ, ◌+◌, ◌-◌, ◌*◌, ◌/◌, ◌%◌, ◌<◌, ◌≤◌}
use mathlib.Core.List.{List}
use native.Mathlib.Omega.{arith}
use lib.ListN.{length, get_or}
use borrow.Author.Tests.{lt-ltb, le-ltb}
use Rattle.words.specs.Digits.{bit, kept}
use Rattle.words.specs.Lists.{record_of}
use Rattle.words.proofs.ListLaws.{joined_at, tabulate-at, tabulate_ext, filled}
use Rattle.words.proofs.DigitLaws.{join-whole, lt_or_ge, kept_in, kept_out, kept-lt, kept_ext, bits_lt, join_ext, bit-join}
use Rattle.code.specs.Code.{code_size, code_bit, cleared_code}
use Rattle.code.proofs.CodeLaws.{code-bit-lt, code_ext, length-code, factor_of_code, bit_of_code}
use Rattle.block.specs.Block.{block_groups, block_size, lane_factor, lane_nibble, lane_bit, lane_code, group_nibble, group_byte, block_byte, block_of}
use Rattle.block.specs.Block.{packed_block, cleared_block, lanes_of}
use Rattle.block.proofs.LaneLaws.{lane_bit-lt, lane_bit-at, nibble_lt, nibble_low, nibble_high}

-- ---- a block made of factor bytes and bits

module _ (dims : ℕ) (f b : ℕ → ℕ → ℕ) where
  byte_factor : (i : ℕ) → i < 512 → block_byte dims f b i ≡ f (i % 128 / 4) (4 * (i / 128) + i % 4)
  unfolding block_byte
  byte_factor i l = rw (lt-ltb i 512 l)

  byte_group : (i : ℕ) → 512 ≤ i → block_byte dims f b i ≡ group_byte dims b ((i - 512) / 16) ((i - 512) % 16)
  unfolding block_byte
  byte_group i l = rw (le-ltb i 512 l)

  -- the factor bytes are read back from it
  pub factor_of_block : (k i : ℕ) → k < 32 → i < 16 → lane_factor (block_of dims f b) k i ≡ f k i
  unfolding lane_factor block_of
  factor_of_block k i hk hi =
      let at = 128 * (i / 4) + 4 * k + i % 4 in
      tabulate-at (block_size dims) (block_byte dims f b) at (omega arith) ∙ byte_factor at (omega arith) ∙ ap₂ f (omega arith) (omega arith)

  module _ (two : (k d : ℕ) → b k d < 2) where
    nibble_two : (g k i : ℕ) → kept dims (b k) (4 * g + i) < 2
    nibble_two g k i = kept-lt dims (b k) (two k) (4 * g + i)

    group_nibble-lt : (g k : ℕ) → group_nibble dims b g k < 16
    unfolding group_nibble
    group_nibble-lt g k = bits_lt 4 (λ i. kept dims (b k) (4 * g + i)) (nibble_two g k)

    group_at : (g j : ℕ) → g < block_groups dims → j < 16
        → get_or (block_of dims f b) (512 + 16 * g + j) 0 ≡ group_nibble dims b g j + 16 * group_nibble dims b g (j + 16)
    unfolding block_of group_byte
    group_at g j hg hj =
        let i = 512 + 16 * g + j in
        tabulate-at (block_size dims) (block_byte dims f b) i (omega arith) ∙ byte_group i (omega arith) ∙ ap₂ (group_byte dims b) (omega arith) (omega arith)

    nibble_of_block : (g k : ℕ) → g < block_groups dims → k < 32 → lane_nibble (block_of dims f b) k g ≡ group_nibble dims b g k
    nibble_of_block g k hg hk = ⊎_elim low high (lt_or_ge k 16)
      where
        low : k < 16 → lane_nibble (block_of dims f b) k g ≡ group_nibble dims b g k
        low l = nibble_low (block_of dims f b) k g l ∙ omega (arith, group_at g k hg l, group_nibble-lt g k)

        high : 16 ≤ k → lane_nibble (block_of dims f b) k g ≡ group_nibble dims b g k
        high l =
            let back : k - 16 + 16 ≡ k = omega arith in
            let e = group_at g (k - 16) hg (omega arith) in
            ap (λ (x : ℕ). lane_nibble (block_of dims f b) x g) (sym back)
            ∙ nibble_high (block_of dims f b) (k - 16) g (omega arith) (omega (arith, e, group_nibble-lt g (k - 16), group_nibble-lt g (k - 16 + 16)))
            ∙ omega (arith, e, group_nibble-lt g (k - 16)) ∙ ap (group_nibble dims b g) back

    digit_of_block : (k d : ℕ) → k < 32 → d < 4 * block_groups dims → lane_bit (block_of dims f b) k d ≡ kept dims (b k) d
    unfolding lane_bit group_nibble
    digit_of_block k d hk hd =
        let back : 4 * (d / 4) + d % 4 ≡ d = omega arith in
        ap (λ (x : ℕ). bit x (d % 4)) (nibble_of_block (d / 4) k (omega arith) hk)
        ∙ bit-join 4 (d % 4) (λ i. kept dims (b k) (4 * (d / 4) + i)) (nibble_two (d / 4) k) (omega arith) ∙ ap (kept dims (b k)) back

    -- and so are the bits, and the pad bits are 0
    pub bit_of_block : (k d : ℕ) → k < 32 → d < dims → lane_bit (block_of dims f b) k d ≡ b k d
    bit_of_block k d hk hd = digit_of_block k d hk (omega arith) ∙ kept_in dims (b k) d hd

    pad_of_block : (k d : ℕ) → k < 32 → dims ≤ d → d < 4 * block_groups dims → lane_bit (block_of dims f b) k d ≡ 0
    pad_of_block k d hk l hd = digit_of_block k d hk hd ∙ kept_out dims (b k) d l

nibble_ext : (dims : ℕ) (b b' : ℕ → ℕ → ℕ) (g k : ℕ) → ((d : ℕ) → d < dims → b k d ≡ b' k d) → group_nibble dims b g k ≡ group_nibble dims b' g k
unfolding group_nibble
nibble_ext dims b b' g k h =
    join_ext 1 4 (λ i. kept dims (b k) (4 * g + i)) (λ i. kept dims (b' k) (4 * g + i)) (λ i _. kept_ext dims (b k) (b' k) h (4 * g + i))

byte_ext : (dims : ℕ) (b b' : ℕ → ℕ → ℕ) (g j : ℕ) → group_nibble dims b g j ≡ group_nibble dims b' g j
    → group_nibble dims b g (j + 16) ≡ group_nibble dims b' g (j + 16) → group_byte dims b g j ≡ group_byte dims b' g j
unfolding group_byte
byte_ext dims b b' g j low high = ap₂ (λ (x y : ℕ). x + 16 * y) low high

-- it goes by the factor bytes and the bits of the 32 lanes alone
pub block_ext : (dims : ℕ) (f f' b b' : ℕ → ℕ → ℕ) → ((k i : ℕ) → k < 32 → i < 16 → f k i ≡ f' k i) → ((k d : ℕ) → k < 32 → d < dims → b k d ≡ b' k d)
    → block_of dims f b ≡ block_of dims f' b'
unfolding block_of
block_ext dims f f' b b' ef eb = tabulate_ext (block_size dims) (block_byte dims f b) (block_byte dims f' b') (λ i l. ⊎_elim (factor i) (group i) (lt_or_ge i 512))
  where
    factor : (i : ℕ) → i < 512 → block_byte dims f b i ≡ block_byte dims f' b' i
    factor i l = byte_factor dims f b i l ∙ ef (i % 128 / 4) (4 * (i / 128) + i % 4) (omega arith) (omega arith) ∙ sym (byte_factor dims f' b' i l)

    nibble : (g k : ℕ) → k < 32 → group_nibble dims b g k ≡ group_nibble dims b' g k
    nibble g k h = nibble_ext dims b b' g k (λ d l. eb k d h l)

    group : (i : ℕ) → 512 ≤ i → block_byte dims f b i ≡ block_byte dims f' b' i
    group i l =
        byte_group dims f b i l
        ∙ byte_ext dims b b' ((i - 512) / 16) ((i - 512) % 16) (nibble ((i - 512) / 16) ((i - 512) % 16) (omega arith))
        (nibble ((i - 512) / 16) ((i - 512) % 16 + 16) (omega arith))
        ∙ sym (byte_group dims f' b' i l)

factor_at : (block : List ℕ) (k i n : ℕ) → 128 * (i / 4) + 4 * k + i % 4 ≡ n → lane_factor block k i ≡ get_or block n 0
unfolding lane_factor
factor_at block k i n e = ap (λ (x : ℕ). get_or block x 0) e

-- the nibble of a group of which the pad bits are 0
nibble_whole : (dims : ℕ) (block : List ℕ) (g k : ℕ) → ((j : ℕ) → j < 4 → dims ≤ 4 * g + j → lane_bit block k (4 * g + j) ≡ 0)
    → group_nibble dims (lane_bit block) g k ≡ lane_nibble block k g
unfolding group_nibble
nibble_whole dims block g k pad =
    join-whole 4 dims (4 * g) (lane_nibble block k g) (lane_bit block k) (nibble_lt block k g) (λ j l. lane_bit-at block k g j l) pad

byte_of : (dims : ℕ) (b : ℕ → ℕ → ℕ) (g j : ℕ) → group_byte dims b g j ≡ group_nibble dims b g j + 16 * group_nibble dims b g (j + 16)
unfolding group_byte
byte_of dims b g j = refl

-- ---- the round trip

pub lane_of_packed : (dims : ℕ) (codes : List ℕ) (k : ℕ) → k < 32
    → lane_code dims (packed_block dims codes) k ≡ cleared_code dims (record_of (code_size dims) codes k)
unfolding lane_code packed_block cleared_code
lane_of_packed dims codes k h =
    code_ext dims (lane_factor (packed_block dims codes) k) (λ i. get_or (record_of (code_size dims) codes k) i 0)
    (lane_bit (packed_block dims codes) k) (code_bit (record_of (code_size dims) codes k))
    (λ i l. factor_of_block dims factors bits k i h l) (λ d l. bit_of_block dims factors bits (λ k d. code-bit-lt (record_of (code_size dims) codes k) d) k d h l)
  where
    factors : ℕ → ℕ → ℕ
    factors k i = get_or (record_of (code_size dims) codes k) i 0

    bits : ℕ → ℕ → ℕ
    bits k = code_bit (record_of (code_size dims) codes k)

-- code k of the lanes laid end to end is lane k
pub code_of_lanes : (dims : ℕ) (block : List ℕ) (k : ℕ) → k < 32 → record_of (code_size dims) (lanes_of dims block) k ≡ lane_code dims block k
unfolding record_of lanes_of lane_code
code_of_lanes dims block k h =
    joined_at (code_size dims) 32 k (lane_code dims block) (λ k _. length-code dims (lane_factor block k) (lane_bit block k)) h

pub packed_of_lanes : (dims : ℕ) (block : List ℕ) → packed_block dims (lanes_of dims block) ≡ cleared_block dims block
unfolding packed_block cleared_block lane_code
packed_of_lanes dims block =
    block_ext dims (λ k i. get_or (record_of (code_size dims) lanes k) i 0) (lane_factor block) (λ k. code_bit (record_of (code_size dims) lanes k)) (lane_bit block)
    (λ k i h l. ap (λ (c : List ℕ). get_or c i 0) (code_of_lanes dims block k h) ∙ factor_of_code dims (lane_factor block k) (lane_bit block k) i l)
    (λ k d h l. ap (λ (c : List ℕ). code_bit c d) (code_of_lanes dims block k h)
    ∙ bit_of_code dims (lane_factor block k) (lane_bit block k) (lane_bit-lt block k) d l)
  where
    lanes : List ℕ
    lanes = lanes_of dims block

-- a packed block's pad bits are 0, whatever its codes have there
pub pad_of_packed : (dims : ℕ) (codes : List ℕ) (k d : ℕ) → k < 32 → dims ≤ d → d < 4 * block_groups dims → lane_bit (packed_block dims codes) k d ≡ 0
unfolding packed_block
pad_of_packed dims codes =
    pad_of_block dims (λ k i. get_or (record_of (code_size dims) codes k) i 0) (λ k. code_bit (record_of (code_size dims) codes k))
    (λ k d. code-bit-lt (record_of (code_size dims) codes k) d)

-- a block whose pad bits are 0 is what `cleared_block` leaves alone
pub block_cleared : (dims : ℕ) (block : List ℕ) → length block ≡ block_size dims → ((i : ℕ) → get_or block i 0 < 256)
    → ((k d : ℕ) → k < 32 → dims ≤ d → d < 4 * block_groups dims → lane_bit block k d ≡ 0) → cleared_block dims block ≡ block
unfolding cleared_block block_of
block_cleared dims block size byte pad =
    sym (filled (block_size dims) (block_byte dims (lane_factor block) (lane_bit block)) block size (λ i l. ⊎_elim (factor i) (group i l) (lt_or_ge i 512)))
  where
    factor : (i : ℕ) → i < 512 → get_or block i 0 ≡ block_byte dims (lane_factor block) (lane_bit block) i
    factor i l = sym (byte_factor dims (lane_factor block) (lane_bit block) i l ∙ factor_at block (i % 128 / 4) (4 * (i / 128) + i % 4) i (omega arith))

    nibble : (g k : ℕ) → g < block_groups dims → k < 32 → group_nibble dims (lane_bit block) g k ≡ lane_nibble block k g
    nibble g k hg hk =
        nibble_whole dims block g k (λ j l p. pad k (4 * g + j) hk p (omega arith))

    group : (i : ℕ) → i < block_size dims → 512 ≤ i → get_or block i 0 ≡ block_byte dims (lane_factor block) (lane_bit block) i
    group i h l =
        let g = (i - 512) / 16 in
        let j = (i - 512) % 16 in
        let at : 512 + 16 * g + j ≡ i = omega arith in
        sym (byte_group dims (lane_factor block) (lane_bit block) i l ∙ byte_of dims (lane_bit block) g j
        ∙ omega (
          arith,
          nibble g j (omega arith) (omega arith),
          nibble g (j + 16) (omega arith) (omega arith),
          nibble_low block j g (omega arith),
          nibble_high block j g (omega arith) (byte (512 + 16 * g + j)),
        )
        ∙ ap (λ (x : ℕ). get_or block x 0) at)
