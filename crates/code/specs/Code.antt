-- Module 4, the single code: its layout.
use Rattle.std.specs.Prelude.{ℕ, ◌+◌, ◌-◌, ◌*◌, ◌/◌, ◌%◌, ◌^◌, cond, List, get_or, ltb}
use Rattle.words.specs.Bytes.{num_at}
use Rattle.words.specs.Digits.{bit, join, kept}
use Rattle.words.specs.Lists.{tabulate}

-- ceil(dims / 64) words of 64 bits
abbrev pub code_words : ℕ → ℕ
code_words dims = (dims + 63) / 64

-- bytes 0..15 are the four factors, then come the words
abbrev pub code_size : ℕ → ℕ
code_size dims = 16 + 8 * code_words dims

-- word w of a code
unfoldable pub code_word : List ℕ → ℕ → ℕ
code_word code w = num_at 8 code (16 + 8 * w)

-- the bit of dimension d: bit d % 8 of byte 16 + d / 8, which is bit d % 64 of word d / 64 (`word_bit` of proofs/CodeLaws)
unfoldable pub code_bit : List ℕ → ℕ → ℕ
code_bit code d = bit (get_or code (16 + d / 8) 0) (d % 8)

-- the same bit from the word bytes alone, those after the factors
unfoldable pub words_bit : List ℕ → ℕ → ℕ
words_bit words d = bit (get_or words (d / 8) 0) (d % 8)

-- byte i of the code of dims dimensions whose factor bytes are f and whose bits are b: pad bits are 0
unfoldable pub code_byte : ℕ → (ℕ → ℕ) → (ℕ → ℕ) → ℕ → ℕ
code_byte dims f b i = cond (ltb i 16) (f i) (join 1 8 (λ j. kept dims b (8 * (i - 16) + j)))

unfoldable pub code_of : ℕ → (ℕ → ℕ) → (ℕ → ℕ) → List ℕ
code_of dims f b = tabulate (code_size dims) (code_byte dims f b)

-- a code with its pad bits 0
unfoldable pub cleared_code : ℕ → List ℕ → List ℕ
cleared_code dims code = code_of dims (λ i. get_or code i 0) (code_bit code)

-- the bit that encode gives dimension d of a vector: 1 where the sign bit of its float, bit 31, is clear. So -0.0 gives 0
unfoldable pub sign_clear : List ℕ → ℕ → ℕ
sign_clear vector d = 1 - num_at 4 vector (4 * d) / 2 ^ 31
