-- What the workers of the planes ask and promise. No public promise cites this file.
use Rattle.std.specs.Prelude.{ℕ, ◌+◌, ◌*◌, ◌≤◌, ◌<◌, ◌≡◌, List, length, get_or}
use Rattle.code.specs.Code.{code_words}
use Rattle.sums.specs.Sums.{plane_word}

-- s is plane p of a query
abbrev pub IsPlane : List ℕ → ℕ → List ℕ → Type 0
IsPlane qs p s = (length s ≡ code_words (length qs)) × ((w : ℕ) → w < length s → get_or s w 0 ≡ plane_word qs p w)

-- plane p of a query stands in t from place at on
abbrev pub PlaneAt : List ℕ → ℕ → List ℕ → ℕ → Type 0
PlaneAt qs p t at = (w : ℕ) → w < code_words (length qs) → get_or t (at + w) 0 ≡ plane_word qs p w

-- the four planes one after the other, in a buffer that may be longer
pub record Planes (qs t : List ℕ) : Type 0 where
  pub room : 4 * code_words (length qs) ≤ length t
  pub one : PlaneAt qs 0 t 0
  pub two : PlaneAt qs 1 t (code_words (length qs))
  pub four : PlaneAt qs 2 t (2 * code_words (length qs))
  pub eight : PlaneAt qs 3 t (3 * code_words (length qs))
