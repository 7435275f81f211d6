-- What the workers of module 2 ask of their callers. No public promise cites this file.
use Rattle.std.specs.Prelude.{ℕ, ◌*◌, false, List, ◌≡◌, length}
use Rattle.words.specs.Floats.{missing}

-- vectors that were judged: of the right lengths, and nothing missing in them
pub record FineVectors (dims : ℕ) (vector lo hi : List ℕ) : Type 0 where
  pub vector_long : length vector ≡ 4 * dims
  pub lo_long : length lo ≡ 4 * dims
  pub hi_long : length hi ≡ 4 * dims
  pub vector_there : missing dims vector ≡ false
  pub lo_there : missing dims lo ≡ false
  pub hi_there : missing dims hi ≡ false

-- a vector with the min and the max of each dimension
pub record Ranged : Type 0 where
  pub dims : ℕ
  pub vector : List ℕ
  pub lo : List ℕ
  pub hi : List ℕ
