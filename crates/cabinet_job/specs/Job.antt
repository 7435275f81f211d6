-- What the parts of the job promise each other.
use Rattle.std.specs.Prelude.{ℕ}

-- the bytes of the block buffer: those of a block of the most dims
abbrev pub most_block : ℕ
most_block = 18000
