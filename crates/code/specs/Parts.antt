-- What the workers of module 4 ask and promise. No public promise cites this file.
use Rattle.std.specs.Prelude.{ℕ, List}

-- bytes whose number goes by the dims
pub record OfDims : Type 0 where
  pub dims : ℕ
  pub bytes : List ℕ
