-- Module 3, square root: IEEE 754-2019's squareRoot of an f32, correctly rounded, ties to even, over whole numbers.
use Prim.Native.Nat.{ℕ, zero, suc, ◌+◌, ◌-◌, ◌*◌, ◌/◌, ◌^◌, compare}
use Rattle.std.specs.Prelude.{true, false, Option, Some, None}
use lib.Ieee.{Float, nan, inf, fin, Format, binary32, prec, low, up, down, size, nearest, units}
use Rattle.root.specs.Isqrt.{isqrt}

-- The value of the format f that is nearest to √(num / den), den above 0. It has the shape of `round` of lib.Ieee.
-- In units of f's smallest value, 2 ^ -low, the root is √(n / den), and w is its whole part.
-- Of w the format keeps the `prec` leading digits and drops k. So the result is q or q + 1 times 2 ^ k units, by how the root
-- compares with (q + 1/2) * 2 ^ k, which is h / 2. Both are squared, and multiplied by 4 * den. At a tie it is the even one.
unfoldable pub round_root : Format → ℕ → ℕ → Float
unfolding isqrt size units
round_root f num den =
    let n = num * 2 ^ (2 * low f) in
    let w = isqrt (n / den) in
    let k = size w - prec f in
    let q = w / 2 ^ k in
    let h = (2 * q + 1) * 2 ^ k in
    units f false (nearest q (compare (4 * n) (h * h * den))) k

-- The root of -0.0 is -0.0, of +infinity itself; a NaN and a number below 0 have none. `fin s m e` is m * 2 ^ e, negative
-- where s is true, and 2 ^ e is the fraction up e / down e.
unfoldable pub root_of : Float → Option Float
unfolding round_root
root_of nan = None
root_of (inf true) = None
root_of (inf false) = Some (inf false)
root_of (fin s zero e) = Some (fin s zero e)
root_of (fin true (suc m) e) = None
root_of (fin false (suc m) e) = Some (round_root binary32 (suc m * up e) (down e))
