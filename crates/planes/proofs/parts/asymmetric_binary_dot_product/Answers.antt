-- `planes::parts::asymmetric_binary_dot_product` meets its contract. Assumes nothing.
use Rattle.std.proofs.Common.{ℕ, ◌≡◌, ◌*◌, ◌<◌, ◌∙◌, arith, length, get_or}
use Rattle.code.specs.Code.{code_words, words_bit}
use Rattle.sums.proofs.PlainLaws.{plain_le}
use Rattle.sums.proofs.PlaneLaws.{words_bit-lt}
use Rattle.planes.proofs.WordLaws.{held-ones, counts_plain}
use Rattle.planes.proofs.parts.asymmetric_binary_dot_product.Goals as goal

pub returns : goal.returns
returns c =
    let q = c.args.q.now in
    let t = c.args.t.now in
    let words = c.args.words.now in
    let n = code_words (length q) in
    let size : c.div_ceil-n.result ≡ code_words (length q) = omega arith in
    let codes = c.requires.0 in
    let planes = c.requires.1 in
    let bytes : (k : ℕ) → get_or words k 0 < 256 = λ k. omega (arith, c.type_inv.words k) in
    let is = counts_plain q words codes bytes (rw size at c.plane_ones.ensures.0 ∙ held-ones q words t 0 0 n (omega arith) (omega (arith, planes.room)) planes.one)
    (rw size at c.plane_ones-2.ensures.0 ∙ held-ones q words t 1 n (2 * n) (omega arith) (omega (arith, planes.room)) planes.two)
    (rw size at c.plane_ones-3.ensures.0 ∙ held-ones q words t 2 (2 * n) (3 * n) (omega arith) (omega (arith, planes.room)) planes.four)
    (rw size at c.plane_ones-4.ensures.0 ∙ held-ones q words t 3 (3 * n) (4 * n) (omega arith) (omega (arith, planes.room)) planes.eight) in
    (is, omega (arith, is, plain_le q (words_bit words) codes (words_bit-lt words)))
