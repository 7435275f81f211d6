-- What the workers of module 5 ask and promise. No public promise cites this file.
use Rattle.std.specs.Prelude.{ℕ, List, get_or}
use Rattle.words.specs.Lists.{record_of}
use Rattle.code.specs.Code.{code_size, code_bit}
use Rattle.block.specs.Block.{block_byte}

-- lane k of a block of dims dimensions
pub record LaneOf : Type 0 where
  pub dims : ℕ
  pub block : List ℕ
  pub k : ℕ

-- byte i of the block built from 32 codes laid end to end
unfoldable pub packed_block_byte : ℕ → List ℕ → ℕ → ℕ
packed_block_byte dims codes =
    block_byte dims (λ k i. get_or (record_of (code_size dims) codes k) i 0) (λ k. code_bit (record_of (code_size dims) codes k))
