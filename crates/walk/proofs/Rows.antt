-- The paper's ranges, as the walk writes their ids: 31..33 has 31 and 32; 0..0, 5..5 and 64..32 have none, and then the whole answer is
-- `empty_range` of AnswerLaws. Assumes nothing.
use mathlib.Core.Path.{◌≡◌, refl}
use mathlib.Core.List.{[], ◌∷◌, map}
use Prim.Native.Nat.{ℕ}
use Rattle.words.specs.Bytes.{bytes_of, words_of}
use Rattle.words.specs.Lists.{joined}
use Rattle.walk.specs.Walk.{id_words}

pub ranges : map (λ (r : ℕ × ℕ). id_words r.0 r.1) ((31, 33) ∷ (0, 0) ∷ (5, 5) ∷ (64, 32) ∷ [])
    ≡ ((31 ∷ 0 ∷ 0 ∷ 0 ∷ 32 ∷ 0 ∷ 0 ∷ 0 ∷ []) ∷ [] ∷ [] ∷ [] ∷ [])
unfolding words_of joined bytes_of
ranges = refl
