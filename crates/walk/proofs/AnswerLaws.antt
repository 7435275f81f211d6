-- A walk's answer after each of its tests. Assumes nothing.
use mathlib.Core.Path.{◌≡◌, refl, sym, ap, ◌∙◌}
use mathlib.Core.Bool.{Bool, true, false, ◌||◌}
use Prim.Native.Nat.{ℕ, ◌+◌, ◌-◌, ◌*◌, ◌≤◌, ◌<◌}
use mathlib.Core.List.{List, ◌++◌}
use native.Mathlib.Omega.{arith}
use lib.Dec.{ltb}
use lib.ListN.{length, drop, replicate}
use lib.Ieee.{is_nan}
use borrow.Author.Tests.{ltb-false, le-ltb}
use Rattle.words.specs.Bytes.{bytes_of, words_of}
use Rattle.words.specs.Lists.{any_below}
use Rattle.words.specs.Metrics.{metric_of}
use Rattle.words.specs.Refusals.{after, bad_form}
use Rattle.words.proofs.ListLaws.{any_none}
use Rattle.words.proofs.RefusalLaws.{no_row, after_refused, else_first, else_second}
use Rattle.words.proofs.WordsLaws.{words_zero}
use Rattle.estimate.specs.declared.Query.{Query}
use Rattle.estimate.specs.Calls.{query_number}
use Rattle.walk.proofs.WalkLaws.{range_inside}
use Rattle.walk.specs.Walk.{layout_of, bad_outs, bad_lengths, out_of_range, range_number, bound_of, bound_words, walk_number, walk_answer}

-- ---- the range

pub inside : (n start end places : ℕ) → range_number n start end places ≡ 0
    → (0 < end - start → start + (end - start) ≤ n) × (end - start ≤ places)
unfolding range_number
inside n start end places e =
    let r6 = no_row (out_of_range n start end) 5 _ e in
    let r7 = no_row (ltb places (end - start)) 6 0 r6.1 in
    (range_inside n start end r6.0, ltb-false _ _ r7.0)

empty_inside : (n start end places : ℕ) → end ≤ start → range_number n start end places ≡ 0
unfolding range_number out_of_range
empty_inside n start end places h =
    let z : end - start ≤ places = omega arith in
    rw (le-ltb start end h, le-ltb places (end - start) z) refl

module _ (metric layout dims : ℕ) (v : Query) (qs rs : List ℕ) (n start end : ℕ) (ids bounds marks count : List ℕ) where
  abbrev pub outs : Bool
  outs = bad_outs (length ids) (length bounds) (length marks) (length count)

  abbrev pub other_lengths : Bool
  other_lengths = bad_lengths layout dims n (length rs) outs

  -- the refusals 1 to 5
  unfoldable pub first_number : ℕ
  first_number = query_number dims other_lengths v qs (bad_form metric || bad_form layout)

  -- ---- the number

  abbrev pub the_number : ℕ
  the_number = walk_number metric layout dims v qs rs n start end ids bounds marks count

  -- a wanted bound is a NaN
  unfoldable pub some_nan : Bool
  some_nan = any_below (end - start) (λ j. is_nan (bound_of (layout_of layout) (metric_of metric) v qs rs (start + j)))

  pub first_number_lem : (r : ℕ) → r ≡ first_number → (r ≡ 0 → ⊥) → r ≡ the_number
  unfolding walk_number first_number
  first_number_lem r e h = e ∙ sym (else_first first_number _ (λ z. h (e ∙ z)))

  module _ (ok : first_number ≡ 0) where
    pub range_number_lem : (r : ℕ) → r ≡ range_number n start end (length marks) → (r ≡ 0 → ⊥) → r ≡ the_number
    unfolding walk_number first_number
    range_number_lem r e h = e ∙ sym (else_second first_number _ ok ∙ else_first (range_number n start end (length marks)) _ (λ z. h (e ∙ z)))

    module _ (inside : range_number n start end (length marks) ≡ 0) where
      pub nan_number : some_nan ≡ true → 8 ≡ the_number
      unfolding walk_number first_number some_nan
      nan_number h = sym (else_second first_number _ ok ∙ else_second (range_number n start end (length marks)) _ inside ∙ rw h refl)

      pub zero_number : some_nan ≡ false → 0 ≡ the_number
      unfolding walk_number first_number some_nan
      zero_number h = sym (else_second first_number _ ok ∙ else_second (range_number n start end (length marks)) _ inside ∙ rw h refl)

  -- ---- the answer

  pub walk_refused : (r : ℕ) → r ≡ the_number → (r ≡ 0 → ⊥)
      → (r, ids, bounds, marks, count) ≡ walk_answer metric layout dims v qs rs n start end ids bounds marks count
  unfolding walk_answer
  walk_refused r e h =
      rw (← e, after_refused r ids _ h, after_refused r bounds _ h, after_refused r marks _ h, after_refused r count _ h) refl

  pub walk_written : (c : ℕ) (bs ids' bounds' marks' count' : List ℕ) → c ≡ end - start → 0 ≡ the_number
      → bs ≡ bound_words (layout_of layout) (metric_of metric) v qs rs start (end - start)
      → ids' ≡ words_of c (λ j. start + j) ++ drop (4 * c) ids → bounds' ≡ bs ++ drop (4 * c) bounds → marks' ≡ replicate c 0 ++ drop c marks
      → count' ≡ bytes_of 4 c
      → (0, ids', bounds', marks', count') ≡ walk_answer metric layout dims v qs rs n start end ids bounds marks count
  unfolding walk_answer after
  walk_written c bs ids' bounds' marks' count' ec z eb ei eb' em ek = rw (ei, eb', em, ek, eb, ec, ← z) refl

  -- an empty range, wherever it lies: count 0, and the lists stay
  pub empty_range : end ≤ start → first_number ≡ 0
      → walk_answer metric layout dims v qs rs n start end ids bounds marks count ≡ (0, ids, bounds, marks, bytes_of 4 0)
  unfolding bound_words some_nan
  empty_range h ok =
      let z : end - start ≡ 0 = omega arith in
      let a : some_nan ≡ false = ap (λ (c : ℕ). any_below c (λ j. is_nan (bound_of (layout_of layout) (metric_of metric) v qs rs (start + j)))) z ∙ any_none _ in
      sym (walk_written 0 _ ids bounds marks (bytes_of 4 0) (sym z) (zero_number ok (empty_inside n start end (length marks) h) a) refl
      (ap (λ (l : List ℕ). l ++ ids) (sym (words_zero _))) (rw z (ap (λ (l : List ℕ). l ++ bounds) (sym (words_zero _)))) refl refl)
