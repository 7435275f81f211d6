-- Lists by what stands at each place.
use Rattle.std.specs.Prelude.{ℕ, zero, suc, ◌*◌, Bool, false, ◌||◌, List, [], ◌∷◌, ◌++◌, ltb, length, get_or, take, drop}

-- p holds at some place below n
unfoldable pub any_below : ℕ → (ℕ → Bool) → Bool
any_below zero p = false
any_below (suc n) p = any_below n p || p n

-- a number of the list is above top
unfoldable pub any_above : ℕ → List ℕ → Bool
any_above top s = any_below (length s) (λ i. ltb top (get_or s i 0))

-- f 0 ++ f 1 ++ .. ++ f (n - 1)
unfoldable pub joined : ℕ → (ℕ → List ℕ) → List ℕ
joined zero f = []
joined (suc n) f = joined n f ++ f n

-- f 0, f 1, .., f (n - 1)
unfoldable pub tabulate : ℕ → (ℕ → ℕ) → List ℕ
unfolding joined
tabulate n f = joined n (λ i. f i ∷ [])

-- record i of records of size bytes each, laid end to end
unfoldable pub record_of : ℕ → List ℕ → ℕ → List ℕ
record_of size records i = take size (drop (size * i) records)
