-- The table reads back: entry j of dimension i is the float of place i * 2 ^ w + j, a NaN entry too. Assumes nothing.
use Prim.Native.Nat.{ℕ, ◌+◌, ◌*◌, ◌<◌}
use mathlib.Core.List.{List}
use mathlib.Core.Path.{◌≡◌, sym, ap, ◌∙◌}
use native.Mathlib.Nat.{mul_comm, le_of_eq}
use native.Mathlib.Omega.{arith}
use lib.Dec.{T}
use lib.ListN.{take, drop}
use lib.Seq.{take_all}
use lib.Ieee.{Float, of_bits, fits, binary32}
use lib.Ieee.Fits.{mul-fits}
use Rattle.words.specs.Bytes.{num_at, f32_at, floats_of}
use Rattle.words.specs.declared.metric.Metric.{Metric}
use Rattle.words.specs.declared.metric.Metric.TheVariants.{L2, Dot}
use Rattle.words.proofs.ByteLaws.{num_part_from}
use Rattle.words.proofs.ListLaws.{joined_at}
use Rattle.words.proofs.WordsLaws.{floats_back}
use Rattle.digits.specs.Digits.{levels}
use Rattle.scalar.specs.Table.{apart, entry_of, entry_at, table_bytes}
use Rattle.scalar.proofs.ScalarLaws.{length-row}

apart_fits : (m : Metric) (x y : Float) → T (fits binary32 (apart m x y))
unfolding apart
apart_fits L2 x y = mul-fits binary32 _ _
apart_fits Dot x y = mul-fits binary32 x y

entry_fits : (m : Metric) (w : ℕ) (v lo hi : List ℕ) (i j : ℕ) → T (fits binary32 (entry_at m w v lo hi i j))
unfolding entry_at entry_of
entry_fits m w v lo hi i j = apart_fits m _ _

-- entry j of a row
row_back : (n : ℕ) (entry : ℕ → Float) (j : ℕ) → ((j : ℕ) → T (fits binary32 (entry j))) → j < n → f32_at (floats_of n entry) j ≡ entry j
row_back n entry j h l =
    let all : take (4 * n) (floats_of n entry) ≡ floats_of n entry = take_all (4 * n) (floats_of n entry) (le_of_eq (length-row n entry ∙ mul_comm n 4)) in
    floats_back (floats_of n entry) n j entry all (h j) l

pub table_back : (m : Metric) (w dims : ℕ) (v lo hi : List ℕ) (i j : ℕ) → i < dims → j < levels w
    → f32_at (table_bytes m w dims v lo hi) (i * levels w + j) ≡ entry_at m w v lo hi i j
unfolding table_bytes f32_at
table_back m w dims v lo hi i j h l =
    let n = levels w in
    let t = table_bytes m w dims v lo hi in
    let row = floats_of n (entry_at m w v lo hi i) in
    let here : take (n * 4) (drop (n * 4 * i) t) ≡ row = joined_at (n * 4) dims i _ (λ k q. length-row n _) h in
    let place : 4 * (i * n + j) ≡ n * 4 * i + 4 * j = omega arith in
    ap (λ (k : ℕ). of_bits binary32 (num_at 4 t k)) place
    ∙ ap (of_bits binary32) (sym (num_part_from 4 (n * 4) (n * 4 * i) t (4 * j) (omega arith)))
    ∙ ap (λ (s : List ℕ). of_bits binary32 (num_at 4 s (4 * j))) here
    ∙ row_back n (entry_at m w v lo hi i) j (entry_fits m w v lo hi i) l
