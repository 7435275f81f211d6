-- `sums::parts::table::gen_table` meets its contract. Assumes nothing.
use Rattle.std.proofs.Common.{◌≡◌, ℕ, ◌+◌, ◌-◌, ◌*◌, ◌/◌, ◌%◌, ◌<◌, ◌≤◌, ap, ap₂, ◌∙◌, arith, rules, List, length, get_or}
use Rattle.std.proofs.lemmas.List.{places}
use borrow.Rule.Slice.PartMut.{put_mid}
use mathlib.Core.Logic.{⊎_elim}
use Rattle.words.specs.Digits.{bit}
use Rattle.words.proofs.DigitLaws.{lt_or_ge}
use Rattle.words.proofs.SumLaws.{sum_ext}
use Rattle.sums.specs.Sums.{group_sum}
use Rattle.sums.specs.Parts.{Each}
use Rattle.sums.proofs.parts.table.gen_table.Goals as goal

-- an entry from the group's codes
of_codes : (qs codes : List ℕ) (g m : ℕ) → Each 4 (λ b. get_or qs (4 * g + b) 0) codes → group_sum codes 0 m ≡ group_sum qs g m
unfolding group_sum
of_codes qs codes g m is =
    sum_ext 4 _ _ (λ b l. let i : 4 * 0 + b ≡ b = omega arith in ap (λ (x : ℕ). x * bit m b) (ap (λ (x : ℕ). get_or codes x 0) i ∙ is.each b l))

-- sixteen entries after those before them
put_group : (f : ℕ → ℕ) (t es : List ℕ) (g i : ℕ) → 16 * g + 16 ≤ length t → length es ≡ 16 → ((k : ℕ) → k < 16 * g → get_or t k 0 ≡ f k)
    → ((m : ℕ) → m < 16 → get_or es m 0 ≡ f (16 * g + m)) → i < 16 * (g + 1) → get_or (put_mid (16 * g) (16 * g + 16 - 16 * g) t es) i 0 ≡ f i
put_group f t es g i fits long held more l = ⊎_elim below inside (lt_or_ge i (16 * g))
  where
    below : i < 16 * g → get_or (put_mid (16 * g) (16 * g + 16 - 16 * g) t es) i 0 ≡ f i
    below h =
        let same : get_or (put_mid (16 * g) (16 * g + 16 - 16 * g) t es) i 0 ≡ get_or t i 0 = search (rules, places) in
        same ∙ held i h

    inside : 16 * g ≤ i → get_or (put_mid (16 * g) (16 * g + 16 - 16 * g) t es) i 0 ≡ f i
    inside h =
        let at : 16 * g + (i - 16 * g) ≡ i = omega arith in
        let same : get_or (put_mid (16 * g) (16 * g + 16 - 16 * g) t es) (16 * g + (i - 16 * g)) 0 ≡ get_or es (i - 16 * g) 0 = search (rules, places) in
        rw at at (same ∙ more (i - 16 * g) (omega arith))

pub loop-g-preserved : goal.loop-g-preserved
loop-g-preserved c =
    let a = c.args in
    let g = c.loop-g.g in
    let codes = c.group_codes-codes in
    let group = c.fill_group.ensures in
    let entry : (m : ℕ) → m < 16 → get_or c.fill_group.new.part m 0 ≡ group_sum a.q.now ((16 * g + m) / 16) ((16 * g + m) % 16) = λ m l.
    let high : g ≡ (16 * g + m) / 16 = omega arith in
    let low : m ≡ (16 * g + m) % 16 = omega arith in
    group.each m l ∙ of_codes a.q.now codes.result g m codes.ensures ∙ ap₂ (λ (x y : ℕ). group_sum a.q.now x y) high low in (
      search rules,
      λ i l. put_group (λ k. group_sum a.q.now (k / 16) (k % 16)) c.loop-g.t c.fill_group.new.part g i (omega arith) group.long c.loop-g.invariant.1 entry l,
    )
