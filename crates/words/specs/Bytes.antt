-- Numbers in little-endian bytes. Every layout of the library is read and written by these.
use Rattle.std.specs.Prelude.{ℕ, zero, suc, ◌+◌, ◌*◌, ◌/◌, ◌%◌, List, [], ◌∷◌, get_or, Float}
use Rattle.std.specs.Float.Ieee.{of_bits, to_bits}
use Rattle.std.specs.Float.{binary32}
use Rattle.words.specs.Lists.{joined}

-- the number that the n bytes of s from place i on write, lowest byte first
unfoldable pub num_at : ℕ → List ℕ → ℕ → ℕ
num_at zero s i = 0
num_at (suc n) s i = get_or s i 0 + 256 * num_at n s (i + 1)

-- the n bytes that write x, lowest first
unfoldable pub bytes_of : ℕ → ℕ → List ℕ
bytes_of zero x = []
bytes_of (suc n) x = x % 256 ∷ bytes_of n (x / 256)

-- the numbers f 0, .., f (n - 1) in four bytes each
unfoldable pub words_of : ℕ → (ℕ → ℕ) → List ℕ
unfolding joined
words_of n f = joined n (λ i. bytes_of 4 (f i))

-- the float that the four bytes of place i write: every NaN pattern is nan
unfoldable pub f32_at : List ℕ → ℕ → Float
f32_at s i = of_bits binary32 (num_at 4 s (4 * i))

-- the four bytes that write the float x: a NaN is written as 0x7FC0_0000
unfoldable pub float_bytes : Float → List ℕ
float_bytes x = bytes_of 4 (to_bits binary32 x)

-- the floats f 0, .., f (n - 1) so written
abbrev pub floats_of : ℕ → (ℕ → Float) → List ℕ
floats_of n f = words_of n (λ i. to_bits binary32 (f i))
