-- `planes::parts::plane_word` meets its contract. Assumes nothing.
use mathlib.Core.Path.{◌∙◌, ap, sym, subst}
use Prim.Native.Nat.{ℕ, ◌+◌, ◌*◌, ◌<◌}
use lib.ListN.{get_or}
use Rattle.words.specs.Digits.{bit}
use Rattle.words.proofs.DigitLaws.{bit-lt, join_ext}
use Rattle.sums.specs.Sums.{plane_word}
use Rattle.planes.proofs.WordLaws.{zeros_at, part_at}
use borrow.Author.Rules.{rules}
use Rattle.planes.proofs.parts.plane_word.Goals as goal

pub digits-requires : goal.digits-requires
digits-requires c = (c.requires.0, search rules, zeros_at 64)

pub word-requires : goal.word-requires
word-requires c = λ i. subst (λ (x : ℕ). x < 2) (sym (c.digits.ensures i)) (bit-lt _ _)

pub returns : goal.returns
unfolding plane_word
returns c =
    let a = c.args in
    c.word.ensures ∙ join_ext 1 64 _ (λ i. bit (get_or a.q.now (64 * a.w + i) 0) a.p)
    (λ i l. c.digits.ensures i ∙ ap (λ (x : ℕ). bit x a.p) (part_at a.q.now (64 * a.w) _ i c.min-end.ensures l))
