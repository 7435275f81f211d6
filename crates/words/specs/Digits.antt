-- Numbers as digits of some bits each, lowest first.
use Rattle.std.specs.Prelude.{ℕ, ◌*◌, ◌/◌, ◌%◌, ◌^◌, cond, ltb}
use Rattle.words.specs.Sums.{sum_to}

-- binary digit i of x
unfoldable pub bit : ℕ → ℕ → ℕ
bit x i = x / 2 ^ i % 2

-- the number of n digits of w bits each, whose digit j is f j
unfoldable pub join : ℕ → ℕ → (ℕ → ℕ) → ℕ
unfolding sum_to
join w n f = sum_to n (λ j. f j * 2 ^ (w * j))

-- f below n, and 0 from n on
unfoldable pub kept : ℕ → (ℕ → ℕ) → ℕ → ℕ
kept n f i = cond (ltb i n) (f i) 0
