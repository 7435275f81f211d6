-- `scalar::parts::code::code_of` meets its contract: adding an even whole number from 2 ^ 23 on rounds as the definition does.
-- Assumes nothing.
use mathlib.Core.Path.{refl}
use native.Mathlib.Omega.{arith}
use Rattle.words.proofs.FloatLaws.{no_nan-pattern}
use Rattle.scalar.proofs.RoundLaws.{code_le, sum_number, sum-from, sum-code}
use Rattle.scalar.proofs.parts.code.code_of.Goals as goal

pub float_from_bits-result : goal.float_from_bits-result
float_from_bits-result c = no_nan-pattern _ (omega arith)

pub float_to_bits-result : goal.float_to_bits-result
float_to_bits-result c =
    let a = c.args in let x = c.max.ensures in let y = rw c.from.ensures at c.min-x.ensures in
    sum_number a.top a.q c.max.result c.min-x.result (omega arith) (omega arith) (omega arith) refl x.value x.self_bound x.other_bound
    y.value y.self_bound y.other_bound

pub overflow_sub-result : goal.overflow_sub-result
overflow_sub-result c =
    let a = c.args in let x = c.max.ensures in let y = rw c.from.ensures at c.min-x.ensures in
    sum-from a.top a.q c.max.result c.min-x.result (omega arith) (omega arith) (omega arith) refl x.value x.self_bound x.other_bound
    y.value y.self_bound y.other_bound

pub returns : goal.returns
returns c =
    let a = c.args in let x = c.max.ensures in let y = rw c.from.ensures at c.min-x.ensures in
    sum-code a.top a.q c.max.result c.min-x.result (omega arith) (omega arith) (omega arith) refl x.value x.self_bound x.other_bound
    y.value y.self_bound y.other_bound

pub overflow_cast-result : goal.overflow_cast-result
overflow_cast-result c = let a = c.args in omega (arith, returns c, code_le a.top a.q)
