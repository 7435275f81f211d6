-- The paper's numbers that are to be proved, in one statement. A row is what the definitions give, and what the paper says.
use Rattle.std.specs.Prelude.{ℕ, ◌+◌, ◌*◌, ◌≡◌, List, [], ◌∷◌, map, get_or, length, replicate, Float, Some}
use Rattle.std.specs.Float.{binary32}
use Rattle.std.specs.Float.Ieee.{of_bits}
use Rattle.words.specs.Bytes.{words_of}
use Rattle.words.specs.Lists.{tabulate}
use Rattle.digits.specs.Digits.{digit_at, packed}
use Rattle.scalar.specs.Code.{scalar_code}
use Rattle.root.specs.Root.{root_of}
use Rattle.code.specs.Code.{code_words, code_size, code_word, code_bit, code_of, words_bit}
use Rattle.code.specs.Reader.{words_at}
use Rattle.block.specs.Block.{block_size}
use Rattle.sums.specs.Sums.{plain_sum, query_sum, plane_word, plane_count}
use Rattle.rerank.specs.Rerank.{Event, asked, supply, gave, done}
use Rattle.rerank.specs.Demand.{fresh, numbers, heard, turns}

-- the sizes of a single code and of a block
abbrev pub sizes : ℕ → List ℕ
sizes dims = code_size dims ∷ block_size dims ∷ []

-- the single code with these bits. Its factors are 0
abbrev pub code_with : List ℕ → List ℕ
code_with bits = code_of (length bits) (λ i. 0) (λ d. get_or bits d 0)

abbrev pub query : List ℕ
query = 3 ∷ 0 ∷ 15 ∷ 8 ∷ 1 ∷ []

abbrev pub code : List ℕ
code = code_with (1 ∷ 0 ∷ 1 ∷ 1 ∷ 0 ∷ [])

-- the bits of the floats 1, 2, 2.5, 3, 3.5, 6, 7, 8, 9, 15, 99 and -1. (Those of 0 are 0.)
abbrev pub f1 : ℕ
f1 = 0x3F80_0000

abbrev pub f2 : ℕ
f2 = 0x4000_0000

abbrev pub f2½ : ℕ
f2½ = 0x4020_0000

abbrev pub f3 : ℕ
f3 = 0x4040_0000

abbrev pub f3½ : ℕ
f3½ = 0x4060_0000

abbrev pub f6 : ℕ
f6 = 0x40C0_0000

abbrev pub f7 : ℕ
f7 = 0x40E0_0000

abbrev pub f8 : ℕ
f8 = 0x4100_0000

abbrev pub f9 : ℕ
f9 = 0x4110_0000

abbrev pub f15 : ℕ
f15 = 0x4170_0000

abbrev pub f99 : ℕ
f99 = 0x42C6_0000

abbrev pub minus1 : ℕ
minus1 = 0xBF80_0000

-- the float of these bits, and the bytes of several
abbrev pub f32 : ℕ → Float
f32 = of_bits binary32

abbrev pub floats : List ℕ → List ℕ
floats bits = words_of (length bits) (λ i. get_or bits i 0)

-- the codes that a vector's scalar code holds, at the width w and one min and max for every dimension
abbrev pub scalar_codes : ℕ → ℕ → ℕ → List ℕ → List ℕ
scalar_codes w lo hi vector =
    let dims = length vector in
    let bytes = scalar_code w dims (floats vector) (floats (replicate dims lo)) (floats (replicate dims hi)) in
    tabulate dims (digit_at w bytes)

-- a whole run over fresh lists, by a caller that supplies these distances: the numbers that its calls return, and what is heard
abbrev pub run : List ℕ → List ℕ → List ℕ × List Event
run estimates distances =
    let n = length estimates in
    let lists = fresh n (floats estimates) (floats (replicate n 0)) in
    let calls = turns (2 * n + 1) (λ p. get_or distances p 0) lists in
    (numbers lists calls, heard lists calls)

pub record Table : Type 0 where
  -- dims 1: 24 and 528 bytes
  pub dims_1 : sizes 1 ≡ 24 ∷ 528 ∷ []
  -- dims 65: 32 and 784
  pub dims_65 : sizes 65 ≡ 32 ∷ 784 ∷ []
  -- dims 4,369: 568 and 18,000
  pub dims_4369 : sizes 4369 ≡ 568 ∷ 18000 ∷ []
  -- query codes 3, 0, 15, 8, 1, bits 1, 0, 1, 1, 0: planes 21, 5, 4, 12
  pub planes : map (λ p. plane_word query p 0) (0 ∷ 1 ∷ 2 ∷ 3 ∷ []) ≡ 21 ∷ 5 ∷ 4 ∷ 12 ∷ []
  -- word 13
  pub word : code_word code 0 ≡ 13
  -- sum 26: the plain sum, and the sum by planes
  pub sum : plain_sum query (code_bit code) ≡ 26
  pub sum-by_planes : plane_count query (words_at code) ≡ 26
  -- Q 27
  pub query-sum : query_sum query ≡ 27
  -- 4,369 codes of 15, all bits set: 65,535. (The bits are given as the words alone: the sum reads no factor)
  pub greatest_sum : plain_sum (replicate 4369 15) (words_bit (replicate (8 * code_words 4369) 255)) ≡ 65535
  -- width 4, codes 1, 2, 3: bytes 0x21, 0x03
  pub width_4 : packed 4 (1 ∷ 2 ∷ 3 ∷ []) ≡ 0x21 ∷ 0x03 ∷ []
  -- width 2, codes 1, 2, 3, 0, 1: 0x39, 0x01
  pub width_2 : packed 2 (1 ∷ 2 ∷ 3 ∷ 0 ∷ 1 ∷ []) ≡ 0x39 ∷ 0x01 ∷ []
  -- width 4, min 0, max 15: 2.5 gives 2; 3.5 gives 4; -1 gives 0; 99 gives 15
  pub rounding : scalar_codes 4 0 f15 (f2½ ∷ f3½ ∷ minus1 ∷ f99 ∷ []) ≡ 2 ∷ 4 ∷ 0 ∷ 15 ∷ []
  -- min = max = 7: 6 gives 0, 7 gives 0, 8 gives 15
  pub no_room : scalar_codes 4 f7 f7 (f6 ∷ f7 ∷ f8 ∷ []) ≡ 0 ∷ 0 ∷ 15 ∷ []
  -- root of 2.0: 0x3FB504F3
  pub root_of_2 : root_of (f32 f2) ≡ Some (f32 0x3FB5_04F3)
  -- root of the least subnormal: 0x1A3504F3
  pub root_of-least : root_of (f32 1) ≡ Some (f32 0x1A35_04F3)
  -- estimates 1, 2, 3, distances 2.5, 2, 9, whole run: Ask 0, Ask 1, Give 1, Give 0, Ask 2, Give 2, Done. Every call is accepted
  pub first_run : run (f1 ∷ f2 ∷ f3 ∷ []) (f2½ ∷ f2 ∷ f9 ∷ [])
      ≡ (
        replicate 10 0,
        asked 0 ∷ supply 0 (f32 f2½) ∷ asked 1 ∷ supply 1 (f32 f2) ∷ gave 1 (f32 f2) ∷ gave 0 (f32 f2½)
            ∷ asked 2 ∷ supply 2 (f32 f9) ∷ gave 2 (f32 f9) ∷ done ∷ [],
      )
  -- estimates 1, 2, distances 2, 2: Ask 0, Give 0, Ask 1, Give 1, Done
  pub second_run : run (f1 ∷ f2 ∷ []) (f2 ∷ f2 ∷ [])
      ≡ (
        replicate 7 0,
        asked 0 ∷ supply 0 (f32 f2) ∷ gave 0 (f32 f2) ∷ asked 1 ∷ supply 1 (f32 f2) ∷ gave 1 (f32 f2) ∷ done ∷ [],
      )
