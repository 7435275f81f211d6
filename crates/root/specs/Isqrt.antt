-- The whole part of a square root: the greatest s with s * s at most n.
use Rattle.std.specs.Prelude.{ℕ, zero, suc, ◌*◌, ◌/◌, cond, leb}
use Rattle.std.specs.Float.Ieee.{size}

-- s, or s + 1 where its square is at most n too
abbrev pub one_more : ℕ → ℕ → ℕ
one_more n s = cond (leb (suc s * suc s) n) (suc s) s

-- by binary digits: without the two lowest digits of n the root has one digit less. d is how many digits of the root to find
unfoldable pub isqrt_by : ℕ → ℕ → ℕ
isqrt_by zero n = 0
isqrt_by (suc d) n = one_more n (2 * isqrt_by d (n / 4))

-- a root has no more digits than its square. That this is the greatest s with s * s ≤ n is the law `isqrt_is`
unfoldable pub isqrt : ℕ → ℕ
unfolding isqrt_by size
isqrt n = isqrt_by (size n) n
