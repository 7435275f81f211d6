-- `root::pattern::isqrt` meets its contract: the first loop's test ends it where r is not above the root, the second's where r + 1 is.
-- Of the guess no more is asked than that it is no NaN. Assumes nothing.
use Prim.Native.Nat.{ℕ, ◌*◌, ◌^◌, ◌≤◌, ◌<◌}
use native.Mathlib.Nat.{mul-le-mul}
use native.Mathlib.Omega.{arith}
use Rattle.std.proofs.lemmas.Int.{to_z_pos}
use Rattle.std.specs.Int.{w64}
use Rattle.root.proofs.SquareLaws.{root_lt, sq_pos}
use Rattle.root.proofs.GuessLaws.{guess-number}
use Rattle.root.proofs.pattern.isqrt.Goals as goal

-- a root of what is below 2 ^ 48
small : (n r : ℕ) → r * r ≤ n → n < 2 ^ 48 → r < 2 ^ 24
small n r h u = root_lt r (2 ^ 24) (omega (arith, h, u))

pub float_to_bits-guess : goal.float_to_bits-guess
float_to_bits-guess c =
    let small : c.args.n < 2 ^ 63 = omega (arith, c.requires) in
    rw (c.sqrt-guess.ensures.value, to_z_pos w64 c.args.n small) (guess-number c.args.n)

pub loop-r-init : goal.loop-r-init
loop-r-init c = omega arith

pub overflow_mul-r : goal.overflow_mul-r
overflow_mul-r c = let i = c.loop-r.invariant in omega (arith, mul-le-mul i i)

pub overflow_sub-r : goal.overflow_sub-r
overflow_sub-r c = omega (arith, sq_pos _ _ c.loop-r-test.true)

pub loop-r-smaller : goal.loop-r-smaller
loop-r-smaller c = omega (arith, sq_pos _ _ c.loop-r-test.true)

pub loop-r-preserved : goal.loop-r-preserved
loop-r-preserved c = omega arith

pub loop-r-2-init : goal.loop-r-2-init
loop-r-2-init c = omega (arith, c.loop-r-test.false)

pub overflow_add-r-in-loop-r-2 : goal.overflow_add-r-in-loop-r-2
overflow_add-r-in-loop-r-2 c = omega (arith, small c.args.n c.loop-r-2.r c.loop-r-2.invariant c.requires)

pub overflow_add-r-in-loop-r-2-2 : goal.overflow_add-r-in-loop-r-2-2
overflow_add-r-in-loop-r-2-2 c = omega (arith, small c.args.n c.loop-r-2.r c.loop-r-2.invariant c.requires)

pub overflow_mul-r-in-loop-r-2 : goal.overflow_mul-r-in-loop-r-2
overflow_mul-r-in-loop-r-2 c =
    let s = small c.args.n c.loop-r-2.r c.loop-r-2.invariant c.requires in
    omega (arith, mul-le-mul s s)

pub loop-r-2-smaller : goal.loop-r-2-smaller
loop-r-2-smaller c = omega (arith, c.loop-r-2-test.true)

pub loop-r-2-preserved : goal.loop-r-2-preserved
loop-r-2-preserved c = omega (arith, c.loop-r-2-test.true)

pub returns : goal.returns
returns c = (c.loop-r-2.invariant, omega (arith, c.loop-r-2-test.false))
