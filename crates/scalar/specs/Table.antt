-- Module 2, scalar quantizer: the table of a query, and the distance of a code by it.
use Rattle.std.specs.Prelude.{ℕ, ◌+◌, ◌*◌, List, pos, Float}
use Rattle.std.specs.Float.Ieee.{neg, of_int}
use Rattle.std.specs.Float.{binary32}
use Rattle.words.specs.Bytes.{f32_at, floats_of}
use Rattle.words.specs.Floats.{◌⊕◌, ◌⊖◌, ◌⊗◌, plus_zero, added_to}
use Rattle.words.specs.Lists.{joined}
use Rattle.words.specs.declared.metric.Metric.{Metric}
use Rattle.words.specs.declared.metric.Metric.TheVariants.{L2, Dot}
use Rattle.digits.specs.Digits.{levels, top, digit_at}
use Rattle.scalar.specs.Code.{del_of}

-- what x and y add to a distance: x*y for dot, (x - y)*(x - y) for L2
unfoldable pub apart : Metric → Float → Float → Float
apart L2 x y = (x ⊖ y) ⊗ (x ⊖ y)
apart Dot x y = x ⊗ y

-- entry j of a dimension: y = min + j x del
unfoldable pub entry_of : Metric → Float → Float → Float → ℕ → Float
entry_of m x lo del j = apart m x (lo ⊕ of_int binary32 (pos j) ⊗ del)

-- entry j of dimension i
unfoldable pub entry_at : Metric → ℕ → List ℕ → List ℕ → List ℕ → ℕ → ℕ → Float
entry_at m w vector lo hi i j = entry_of m (f32_at vector i) (f32_at lo i) (del_of (top w) (f32_at lo i) (f32_at hi i)) j

-- the entries of each dimension: entry j of dimension i stands at i * 2^w + j
unfoldable pub table_bytes : Metric → ℕ → ℕ → List ℕ → List ℕ → List ℕ → List ℕ
unfolding joined
table_bytes m w dims vector lo hi = joined dims (λ i. floats_of (levels w) (entry_at m w vector lo hi i))

-- a table has dims x 2^w floats
abbrev pub table_size : ℕ → ℕ → ℕ
table_size w dims = 4 * (dims * levels w)

-- the table entry at digit i of the code
unfoldable pub term_at : ℕ → List ℕ → List ℕ → ℕ → Float
term_at w table code i = f32_at table (i * levels w + digit_at w code i)

-- the table entries at the code's digits, added from the left starting at +0.0
unfoldable pub sum_of : ℕ → ℕ → List ℕ → List ℕ → Float
unfolding added_to
sum_of w dims table code = added_to plus_zero dims (term_at w table code)

-- a distance is the sum, negated for dot
unfoldable pub distance_of : Metric → Float → Float
distance_of L2 s = s
distance_of Dot s = neg s
