-- Single codes packed 32 at a time.
use Rattle.std.specs.Prelude.{ℕ, ◌*◌, List}
use Rattle.words.specs.Lists.{joined, record_of}
use Rattle.code.specs.Code.{code_size}
use Rattle.block.specs.Block.{packed_block}

-- count blocks, block b of the codes from 32 b on
unfoldable pub packed_blocks : ℕ → List ℕ → ℕ → List ℕ
packed_blocks dims codes count = joined count (λ b. packed_block dims (record_of (32 * code_size dims) codes b))
