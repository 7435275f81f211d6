-- The loops' invariant: the first bytes are those of the block.
use mathlib.Core.Path.{◌≡◌}
use Prim.Native.Nat.{ℕ, ◌+◌, ◌*◌, ◌<◌}
use mathlib.Core.List.{List}
use lib.ListN.{length, get_or}
use Rattle.block.specs.Block.{block_size}
use Rattle.code.specs.Parts.{OfDims}
use Rattle.block.specs.Parts.{packed_block_byte}
use Rattle.block.proofs.codes.Codes.pack.Given as goal

-- the first n bytes of block are those of the codes' block
abbrev pub Packed : OfDims → ℕ → List ℕ → Type 0
Packed s n block = (length block ≡ block_size s.dims) × ((i : ℕ) → i < n → get_or block i 0 ≡ packed_block_byte s.dims s.bytes i)

abbrev pub invariant-loop-i : goal.invariant-loop-i
invariant-loop-i l = (length l.byte-items ≡ 512) × ((j : ℕ) → j < l.i → get_or l.byte-items j 0 ≡ packed_block_byte l.self.dims l.self.bytes j)

abbrev pub invariant-loop-g : goal.invariant-loop-g
invariant-loop-g l = Packed l.self (512 + 16 * l.g) l.block

abbrev pub invariant-loop-j : goal.invariant-loop-j
invariant-loop-j l = Packed l.self (512 + 16 * l.g + l.j) l.block
