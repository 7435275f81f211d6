-- Demand 2: the counts equal the plain sum, packing codes and reading them back gives them again, pad bits 0, a lane of a block is its single
-- code, and a walk over blocks is the walk over the codes they were packed from. (That the answers equal the original's is the harness's to show.)
use Rattle.std.specs.Prelude.{◌≡◌, ℕ, ◌+◌, ◌*◌, ◌<◌, ◌≤◌, true, false, cond, List, ◌++◌, length, get_or, take, drop}
use Rattle.std.specs.Float.Ieee.{is_nan}
use Rattle.words.specs.Bytes.{f32_at}
use Rattle.words.specs.Digits.{bit}
use Rattle.words.specs.Lists.{any_above, record_of}
use Rattle.words.specs.declared.metric.Metric.{Metric}
use Rattle.digits.specs.Digits.{is_width, levels, top, digit_at, packed}
use Rattle.scalar.specs.Table.{table_bytes, entry_at}
use Rattle.code.specs.Code.{code_words, code_size, code_word, code_bit, code_of, cleared_code, sign_clear}
use Rattle.block.specs.Block.{block_groups, block_size, lane_nibble, lane_bit, lane_code, packed_block, cleared_block, lanes_of}
use Rattle.sums.specs.Sums.{QueryCodes, plain_sum, plane_count, words_nibble, table_of, table_count, fast_count}
use Rattle.estimate.specs.declared.Asked.{Asked}
use Rattle.estimate.specs.declared.Query.{Query}
use Rattle.estimate.specs.Calls.{code_answer, block_answer}
use Rattle.walk.specs.Walk.{blocks_of, walk_answer}
use Rattle.walk.specs.Packed.{packed_blocks}

-- a list of bytes
abbrev pub Bytes : List ℕ → Type 0
Bytes s = (i : ℕ) → get_or s i 0 < 256

-- the pad bits of a single code are 0, and those of every lane of a block: the dimensions from dims up
abbrev pub ZeroPads : ℕ → List ℕ → Type 0
ZeroPads dims code = (d : ℕ) → dims ≤ d → d < 64 * code_words dims → code_bit code d ≡ 0

abbrev pub ZeroBlockPads : ℕ → List ℕ → Type 0
ZeroBlockPads dims block = (k d : ℕ) → k < 32 → dims ≤ d → d < 4 * block_groups dims → lane_bit block k d ≡ 0

pub record Demand2 : Type 0 where
  -- digits: reading digit i of what was packed gives code i, and 0 past the last
  pub digits : (w : ℕ) (codes : List ℕ) → is_width w ≡ true → any_above (top w) codes ≡ false
      → (i : ℕ) → digit_at w (packed w codes) i ≡ get_or codes i 0
  -- a scalar table: entry j of dimension i reads back as the entry of the definition
  pub entries : (m : Metric) (w dims : ℕ) (vector lo hi : List ℕ) (i j : ℕ) → i < dims → j < levels w
      → f32_at (table_bytes m w dims vector lo hi) (i * levels w + j) ≡ entry_at m w vector lo hi i j
  -- the bit-plane count and the nibble-table count of a single code are the plain sum, which is at most 65,535
  pub planes : (query code : List ℕ) → QueryCodes query → Bytes code → plane_count query (drop 16 code) ≡ plain_sum query (code_bit code)
  pub table : (query code : List ℕ) → QueryCodes query → Bytes code
      → table_count (table_of query) (words_nibble (drop 16 code)) (block_groups (length query)) ≡ plain_sum query (code_bit code)
  pub most : (query code : List ℕ) → QueryCodes query → Bytes code → plain_sum query (code_bit code) ≤ 65535
  -- and so are the fast count and the nibble-table count of every lane of a block
  pub lanes : (query block : List ℕ) (k : ℕ) → QueryCodes query → fast_count query (lane_nibble block k) ≡ plain_sum query (lane_bit block k)
  pub lane_table : (query block : List ℕ) (k : ℕ) → QueryCodes query
      → table_count (table_of query) (lane_nibble block k) (block_groups (length query)) ≡ plain_sum query (lane_bit block k)
  pub lane_most : (query block : List ℕ) (k : ℕ) → QueryCodes query → plain_sum query (lane_bit block k) ≤ 65535
  -- lane k of 32 packed codes has the sum of code k
  pub packed_sums : (query codes : List ℕ) (k : ℕ) → k < 32
      → plain_sum query (lane_bit (packed_block (length query) codes) k) ≡ plain_sum query (code_bit (record_of (code_size (length query)) codes k))
  -- bit i of word w of a single code is dimension 64 w + i
  pub word_bits : (code : List ℕ) (w i : ℕ) → Bytes code → i < 64 → bit (code_word code w) i ≡ code_bit code (64 * w + i)
  -- packing 32 codes and reading lane k back gives code k, pad bits zero; packing the lanes of a block gives the block, pad bits zero
  pub lane_back : (dims : ℕ) (codes : List ℕ) (k : ℕ) → k < 32 → lane_code dims (packed_block dims codes) k ≡ cleared_code dims (record_of (code_size dims) codes k)
  pub block_back : (dims : ℕ) (block : List ℕ) → packed_block dims (lanes_of dims block) ≡ cleared_block dims block
  -- so a code whose pad bits are 0 comes back as it was, and so does a block
  pub code_again : (dims : ℕ) (codes : List ℕ) (k : ℕ) → length codes ≡ 32 * code_size dims → Bytes codes → k < 32
      → ZeroPads dims (record_of (code_size dims) codes k) → lane_code dims (packed_block dims codes) k ≡ record_of (code_size dims) codes k
  pub block_again : (dims : ℕ) (block : List ℕ) → length block ≡ block_size dims → Bytes block → ZeroBlockPads dims block
      → packed_block dims (lanes_of dims block) ≡ block
  -- and these have pad bits 0: a lane that is read back, a block that is packed, and every code that encode makes, from these factors and this vector
  pub lane_pads : (dims : ℕ) (block : List ℕ) (k : ℕ) → ZeroPads dims (lane_code dims block k)
  pub packed_pads : (dims : ℕ) (codes : List ℕ) → ZeroBlockPads dims (packed_block dims codes)
  pub encoded_pads : (dims : ℕ) (factors vector : List ℕ) → ZeroPads dims (code_of dims (λ i. get_or factors i 0) (sign_clear vector))
  -- a lane of a block gives the estimate of its single code: the same bits, or a NaN where the single call refuses with 8
  pub lane_estimate_lem : (asked : Asked) (metric dims : ℕ) (v : Query) (query block out lanes one : List ℕ) (k : ℕ)
      → block_answer asked metric dims v query block out ≡ (0, lanes) → length one ≡ 4 → k < 32
      → code_answer asked metric dims v query (lane_code dims block k) one ≡ cond (is_nan (f32_at lanes k)) (8, one) (0, take 4 (drop (4 * k) lanes))
  -- n codes packed 32 at a time, the last block filled up with any codes: the walk over the blocks (layout 2) is the walk over the codes (layout 1)
  pub walks : (metric dims : ℕ) (v : Query) (query codes fill : List ℕ) (n start end : ℕ) (ids bounds marks count : List ℕ)
      → length codes ≡ n * code_size dims
      → walk_answer metric 2 dims v query (packed_blocks dims (codes ++ fill) (blocks_of n)) n start end ids bounds marks count
      ≡ walk_answer metric 1 dims v query codes n start end ids bounds marks count
