-- The lists of a call of the reranker. No public promise cites this file.
use Rattle.std.specs.Prelude.{◌≡◌, List, ℕ, ◌*◌, ◌≤◌, length}
use Rattle.words.specs.Limits.{most_places}

-- a place has 4 bytes of the estimates, 4 of the distances and 1 of the marks
pub record Places : Type 0 where
  pub estimates : List ℕ
  pub distances : List ℕ
  pub marks : List ℕ

abbrev pub places : List ℕ → List ℕ → List ℕ → Places
places e d m = record { estimates = e; distances = d; marks = m }

-- lists of the right lengths
pub record Sized (l : Places) : Type 0 where
  pub most : length l.marks ≤ most_places
  pub estimates : length l.estimates ≡ 4 * length l.marks
  pub distances : length l.distances ≡ 4 * length l.marks
