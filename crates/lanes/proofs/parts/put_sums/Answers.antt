-- `lanes::parts::put_sums` meets its contract. Assumes nothing.
use Rattle.std.proofs.Common.{ℕ, ◌≡◌, ◌+◌, ◌*◌, ◌^◌, ◌<◌, ◌≤◌, sym, ap, ◌∙◌, arith, List, length, get_or, take}
use lib.Seq.{sets, take_all}
use Rattle.words.specs.Bytes.{bytes_of, words_of}
use Rattle.words.proofs.WordsLaws.{words_none, words_more}
use Rattle.lanes.proofs.parts.put_sums.Goals as goal

pub loop-k-init : goal.loop-k-init
loop-k-init c = (c.requires.0, words_none c.args.out.now _)

-- a sum more, whatever number of the same value is put
put_more : (out new : List ℕ) (k : ℕ) (f : ℕ → ℕ) {x : ℕ} → new ≡ sets out (4 * k) (bytes_of 4 x) → x ≡ f k → 4 * k + 4 ≤ length out
    → take (4 * k) out ≡ words_of k f → take (4 * (k + 1)) new ≡ words_of (k + 1) f
put_more out new k f put same fits held = rw (put, same) (words_more out k f fits held)

pub loop-k-preserved : goal.loop-k-preserved
loop-k-preserved c =
    let l = c.loop-k in
    let number : get_or c.args.sums.now l.k 0 < 2 ^ 32 = omega (arith, c.type_inv.sums l.k) in
    (c.put_u32.auto.out ∙ l.invariant.0, put_more _ _ _ _ c.put_u32.ensures (omega arith) (omega arith) l.invariant.1)

pub returns : goal.returns
returns c =
    let l = c.loop-k in
    let e : l.k ≡ 32 = omega arith in
    let all = take_all (4 * l.k) l.out (omega arith) in
    sym all ∙ l.invariant.1 ∙ ap (λ (n : ℕ). words_of n (λ j. get_or c.args.sums.now j 0)) e
