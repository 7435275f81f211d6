-- `scalar::parts::vectors::Vectors::at` meets its contract. Assumes nothing.
use Prim.Native.Nat.{ℕ, ◌*◌, ◌+◌, ◌<◌, ◌≤◌}
use mathlib.Core.Bool.{false}
use mathlib.Core.List.{List}
use mathlib.Core.Path.{◌≡◌, sym, ap}
use native.Mathlib.Omega.{arith}
use lib.ListN.{length}
use lib.Ieee.{is_nan}
use Rattle.words.specs.Bytes.{f32_at}
use Rattle.words.specs.Floats.{missing}
use Rattle.words.proofs.FloatLaws.{none-missing}
use Rattle.scalar.specs.Parts.{Ranged}
use Rattle.scalar.proofs.parts.vectors.Vectors.at.Goals as goal

-- a place of a buffer in which nothing is missing
there : (s : List ℕ) (dims n i : ℕ) → length s ≡ 4 * dims → missing dims s ≡ false → i < n → n ≡ dims
    → (4 * i + 4 ≤ length s) × (is_nan (f32_at s i) ≡ false)
there s dims n i e m l f = (omega arith, none-missing dims s m i (omega arith))

pub number_at-requires : goal.number_at-requires
number_at-requires c =
    let f = c.self.invariant in there _ _ _ _ f.vector_long f.vector_there c.requires (sym (ap (λ (v : Ranged). v.dims) c.self.view_is))

pub number_at-requires-2 : goal.number_at-requires-2
number_at-requires-2 c =
    let f = c.self.invariant in there _ _ _ _ f.lo_long f.lo_there c.requires (sym (ap (λ (v : Ranged). v.dims) c.self.view_is))

pub number_at-requires-3 : goal.number_at-requires-3
number_at-requires-3 c =
    let f = c.self.invariant in there _ _ _ _ f.hi_long f.hi_there c.requires (sym (ap (λ (v : Ranged). v.dims) c.self.view_is))
