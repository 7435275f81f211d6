-- Module 1, digits: codes of w bits, 8/w to a byte, lowest bits first.
use Rattle.std.specs.Prelude.{ℕ, ◌+◌, ◌-◌, ◌*◌, ◌/◌, ◌%◌, ◌^◌, Bool, ◌||◌, List, eqb, get_or, length}
use Rattle.words.specs.Digits.{join}
use Rattle.words.specs.Lists.{tabulate}
use Rattle.digits.specs.declared.Width.{Width}
use Rattle.digits.specs.declared.Width.TheVariants.{One, Two, Four, Eight}

-- how many bits a code of the width has
abbrev pub bits_of : Width → ℕ
bits_of One = 1
bits_of Two = 2
bits_of Four = 4
bits_of Eight = 8

-- the numbers of bits that are a width's
unfoldable pub is_width : ℕ → Bool
is_width w = eqb w 1 || eqb w 2 || eqb w 4 || eqb w 8

-- of w bits: how many codes there are, the greatest, and how many stand in a byte
abbrev pub levels : ℕ → ℕ
levels w = 2 ^ w

abbrev pub top : ℕ → ℕ
top w = 2 ^ w - 1

abbrev pub per_byte : ℕ → ℕ
per_byte w = 8 / w

-- how many bytes dims codes take: ceil(dims x w / 8)
abbrev pub packed_size : ℕ → ℕ → ℕ
packed_size w dims = (dims * w + 7) / 8

-- digit i of the packed bytes s
unfoldable pub digit_at : ℕ → List ℕ → ℕ → ℕ
digit_at w s i = get_or s (i / per_byte w) 0 / 2 ^ (w * (i % per_byte w)) % levels w

-- byte k of the packed codes; past the last code it is filled with zeros
unfoldable pub packed_byte : ℕ → List ℕ → ℕ → ℕ
unfolding join
packed_byte w codes k = join w (per_byte w) (λ j. get_or codes (k * per_byte w + j) 0)

-- the codes packed, each byte of them
unfoldable pub packed : ℕ → List ℕ → List ℕ
unfolding packed_byte tabulate
packed w codes = tabulate (packed_size w (length codes)) (packed_byte w codes)
