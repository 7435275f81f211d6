-- Module 5, the block of 32 codes: its layout.
use Rattle.std.specs.Prelude.{ℕ, ◌+◌, ◌-◌, ◌*◌, ◌/◌, ◌%◌, ◌^◌, cond, List, get_or, ltb}
use Rattle.words.specs.Digits.{bit, join, kept}
use Rattle.words.specs.Lists.{tabulate, joined, record_of}
use Rattle.code.specs.Code.{code_size, code_bit, code_of}

-- 512 bytes of factors, then 16 bytes for each group of four dimensions
abbrev pub block_groups : ℕ → ℕ
block_groups dims = (dims + 3) / 4

abbrev pub block_size : ℕ → ℕ
block_size dims = 512 + 16 * block_groups dims

-- ---- what a block has of lane k

-- byte i of the lane's 16 factor bytes: 32 dis_u_2, 32 factor_ppc, 32 factor_ip, 32 factor_err
unfoldable pub lane_factor : List ℕ → ℕ → ℕ → ℕ
lane_factor block k i = get_or block (128 * (i / 4) + 4 * k + i % 4) 0

-- byte j of group g has lane j in its low half and lane j + 16 in its high half
unfoldable pub lane_nibble : List ℕ → ℕ → ℕ → ℕ
lane_nibble block k g = get_or block (512 + 16 * g + k % 16) 0 / 16 ^ (k / 16) % 16

-- bit b of a nibble is dimension 4g + b
unfoldable pub lane_bit : List ℕ → ℕ → ℕ → ℕ
lane_bit block k d = bit (lane_nibble block k (d / 4)) (d % 4)

-- lane k as a single code
unfoldable pub lane_code : ℕ → List ℕ → ℕ → List ℕ
lane_code dims block k = code_of dims (lane_factor block k) (lane_bit block k)

-- ---- the block whose lane k has the factor bytes f k and the bits b k: pad bits are 0

-- the nibble of lane k in group g
unfoldable pub group_nibble : ℕ → (ℕ → ℕ → ℕ) → ℕ → ℕ → ℕ
group_nibble dims b g k = join 1 4 (λ i. kept dims (b k) (4 * g + i))

-- byte j of group g
unfoldable pub group_byte : ℕ → (ℕ → ℕ → ℕ) → ℕ → ℕ → ℕ
group_byte dims b g j = group_nibble dims b g j + 16 * group_nibble dims b g (j + 16)

-- byte i: of the factors, or of the groups
unfoldable pub block_byte : ℕ → (ℕ → ℕ → ℕ) → (ℕ → ℕ → ℕ) → ℕ → ℕ
block_byte dims f b i =
    cond (ltb i 512) (f (i % 128 / 4) (4 * (i / 128) + i % 4)) (group_byte dims b ((i - 512) / 16) ((i - 512) % 16))

unfoldable pub block_of : ℕ → (ℕ → ℕ → ℕ) → (ℕ → ℕ → ℕ) → List ℕ
block_of dims f b = tabulate (block_size dims) (block_byte dims f b)

-- the block built from 32 codes laid end to end
unfoldable pub packed_block : ℕ → List ℕ → List ℕ
packed_block dims codes =
    block_of dims (λ k i. get_or (record_of (code_size dims) codes k) i 0) (λ k. code_bit (record_of (code_size dims) codes k))

-- a block with its pad bits 0
unfoldable pub cleared_block : ℕ → List ℕ → List ℕ
cleared_block dims block = block_of dims (lane_factor block) (lane_bit block)

-- the 32 lanes of a block as single codes, end to end
unfoldable pub lanes_of : ℕ → List ℕ → List ℕ
lanes_of dims block = joined 32 (lane_code dims block)
