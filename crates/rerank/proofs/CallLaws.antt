-- The answers of `next` and `supply`, a law a return. Assumes nothing.
use mathlib.Core.Path.{◌≡◌, refl, sym, ap, ap₂, ◌∙◌}
use mathlib.Core.Bool.{Bool, true, false, ◌||◌, cond, or-true}
use mathlib.Core.List.{List, ◌++◌}
use Prim.Native.Nat.{ℕ, ◌+◌, ◌*◌, ◌<◌, ◌≤◌}
use Rattle.std.specs.Prelude.{Ok}
use native.Mathlib.Nat.{zero-add}
use native.Mathlib.Omega.{arith}
use lib.ListN.{length, get_or, set, length-set, length-append}
use lib.Seq.{sets}
use lib.Ieee.{Float, is_nan, binary32, of_bits, to_bits}
use Rattle.words.specs.Bytes.{bytes_of, f32_at, float_bytes}
use Rattle.words.specs.Limits.{most_places}
use Rattle.words.specs.Refusals.{number_of, after, or_else, bad_length, bad_lists}
use Rattle.words.specs.declared.refusal.Refusal.{Refusal}
use Rattle.words.specs.declared.refusal.Refusal.TheVariants.{BadDims, BadWidth, BadLength, Missing, BadValue, OutOfRange, NoRoom, NoEstimate, NotAsked}
use Rattle.words.proofs.ByteLaws.{length-bytes_of, length-float_bytes, sets_append, sets_all}
use Rattle.words.proofs.RefusalLaws.{lists_are, length_is, else_first, else_second, after_refused}
use Rattle.rerank.specs.Rerank.{IsLeast, answer_of, asks_for, missing, bad_mark, next_refusal, supply_refusal, one_or_two, counted}
use Rattle.rerank.specs.Calls.{state_of, answer_marks, answer_bytes, next_number, next_answer, supply_number, supply_answer}
use Rattle.rerank.specs.Demand.{not_waiting}
use Rattle.scan.specs.Lists.{Places, Sized, places}
use Rattle.scan.specs.Parts.{ScanTo}
use Rattle.rerank.specs.Parts.{held, Inside, Accepting, Ruled}
use Rattle.rerank.specs.declared.Answer.{Answer}
use Rattle.rerank.specs.declared.Answer.TheVariants.{Ask, Give, Done}
use Rattle.scan.specs.declared.pass.Scan.{Scan}
use Rattle.rerank.specs.declared.Ruling.{Ruling}
use Rattle.rerank.proofs.RuleLaws.{next_clean, supply_clean, means}
use Rattle.rerank.proofs.RunLaws.{giving}
use Rattle.rerank.proofs.TallyLaws.{sum-put, counted_few, counted_is}
use Rattle.rerank.proofs.FoundLaws.{none_found}
use Rattle.rerank.proofs.StateLaws.{state_marked}

-- ---- what `next` writes

-- four stores one after the other
pub four_stores : (out o1 o2 o3 o4 : List ℕ) (number place : ℕ) (distance : Float) (count : ℕ) → length out ≡ 16 → o1 ≡ sets out 0 (bytes_of 4 number)
    → o2 ≡ sets o1 4 (bytes_of 4 place) → o3 ≡ sets o2 8 (float_bytes distance) → o4 ≡ sets o3 12 (bytes_of 4 count)
    → o4 ≡ bytes_of 4 number ++ bytes_of 4 place ++ float_bytes distance ++ bytes_of 4 count
four_stores out o1 o2 o3 o4 number place distance count h p q r s =
    rw (s, r, q, p) (ap (λ (l : List ℕ). sets (sets l 8 c) 12 d) (step a b 4 la)
    ∙ ap (λ (l : List ℕ). sets l 12 d) (step (a ++ b) c 8 lb)
    ∙ step (a ++ b ++ c) d 12 lc
    ∙ sets_all out (a ++ b ++ c ++ d) (omega (arith, length-append (a ++ b ++ c) d, length-bytes_of 4 count, lc)))
  where
    a : List ℕ
    a = bytes_of 4 number

    b : List ℕ
    b = bytes_of 4 place

    c : List ℕ
    c = float_bytes distance

    d : List ℕ
    d = bytes_of 4 count

    la : length a ≡ 4
    la = length-bytes_of 4 number

    lb : length (a ++ b) ≡ 8
    lb = omega (arith, length-append a b, la, length-bytes_of 4 place)

    lc : length (a ++ b ++ c) ≡ 12
    lc = omega (arith, length-append (a ++ b) c, lb, length-float_bytes distance)

    step : (x y : List ℕ) (n : ℕ) → length x ≡ n → sets (sets out 0 x) n y ≡ sets out 0 (x ++ y)
    step x y n e = ap (λ (k : ℕ). sets (sets out 0 x) k y) (sym e ∙ sym (zero-add (length x))) ∙ sets_append out 0 x y

-- +0.0 has no bit set
zero_bytes : float_bytes (of_bits binary32 0) ≡ bytes_of 4 0
unfolding float_bytes bytes_of of_bits to_bits
zero_bytes = refl

module _ (a : Answer) (n : ℕ) (out : List ℕ) where
  pub ask_bytes : (p : ℕ) → a ≡ Ask p → out ≡ bytes_of 4 1 ++ bytes_of 4 p ++ float_bytes (of_bits binary32 0) ++ bytes_of 4 n → out ≡ answer_bytes a n
  unfolding answer_bytes
  ask_bytes p e h = rw e (h ∙ ap (λ (z : List ℕ). bytes_of 4 1 ++ bytes_of 4 p ++ z ++ bytes_of 4 n) zero_bytes)

  pub give_bytes : (p : ℕ) (x : Float) → a ≡ Give p x → out ≡ bytes_of 4 2 ++ bytes_of 4 p ++ float_bytes x ++ bytes_of 4 n → out ≡ answer_bytes a n
  unfolding answer_bytes float_bytes
  give_bytes p x e h = rw e h

  pub done_bytes : a ≡ Done → out ≡ bytes_of 4 0 ++ bytes_of 4 0 ++ float_bytes (of_bits binary32 0) ++ bytes_of 4 n → out ≡ answer_bytes a n
  unfolding answer_bytes
  done_bytes e h = rw e (h ∙ ap (λ (z : List ℕ). bytes_of 4 0 ++ bytes_of 4 0 ++ z ++ bytes_of 4 n) zero_bytes)

-- ---- what the rule says of the lists that the scan found no refusal in
module _ (l : Places) (h : Sized l) (s : Scan) (k : ScanTo l (length l.marks) s) (c : s.missing ≤ 0) (b : s.bad ≤ 0) where
  pub accepting : Accepting l s
  accepting = record { sized = h; scanned = k; accepted = none_found l s k c b }

  pub count_is : s.count ≡ counted (held l)
  unfolding not_waiting
  count_is = k.count ∙ sym (counted_is (held l) (next_clean (held l) accepting.accepted))

-- the count n, with place p's mark changed from x to v
count_marked : (e d m d' : List ℕ) (n p x v : ℕ) → n ≡ counted (state_of e d m) → p < length m → get_or m p 0 ≡ x
    → counted (state_of e d' (set m p v)) + one_or_two x ≡ n + one_or_two v
unfolding counted
count_marked e d m d' n p x v c h q =
    omega (arith, ap counted (state_marked e d' m p v h), sum-put one_or_two (λ i. get_or m i 0) p v (length m) h, ap one_or_two q)

-- no refusal has the number 0
pub some_number : (f : Refusal) → number_of f ≡ 0 → ⊥
some_number BadDims e = omega arith
some_number BadWidth e = omega arith
some_number BadLength e = omega arith
some_number Missing e = omega arith
some_number BadValue e = omega arith
some_number OutOfRange e = omega arith
some_number NoRoom e = omega arith
some_number NoEstimate e = omega arith
some_number NotAsked e = omega arith

-- ---- next, where the lists and out are of their lengths
module _ (e d m out : List ℕ) (lists : bad_lists (length e) (length d) (length m) ≡ false) (fits : bad_length out 16 ≡ false) where
  next_is : next_number e d m out ≡ next_refusal (state_of e d m)
  unfolding next_number
  next_is = rw (lists, fits) refl

  pub next_refused : (f : Refusal) → next_refusal (state_of e d m) ≡ number_of f → (number_of f, m, out) ≡ next_answer e d m out
  unfolding next_answer
  next_refused f h =
      let z = some_number f in
      let a = answer_of (state_of e d m) in
      let new = answer_bytes a (counted (state_of e d (answer_marks a m))) in
      rw (next_is, h, after_refused (number_of f) m (answer_marks a m) z, after_refused (number_of f) out new z)

  module _ (r : Ruling) (k : Ruled (places e d m) (Ok r)) where
    next_count : (a : Answer) → a ≡ answer_of (state_of e d m) → r.count ≡ counted (state_of e d (answer_marks a m))
    next_count (Ask p) h = k.2
    next_count (Give p x) h =
        let g = (giving (state_of e d m) p x (k.0, sym h)).1.least in
        omega (arith, count_marked e d m d r.count p 1 2 k.2 g.inside g.marked)
    next_count Done h = k.2

    -- a Give's place is one of the lists
    inside : (a : Answer) → a ≡ answer_of (state_of e d m) → Inside (length m) a
    inside (Ask p) h = tt
    inside (Give p x) h = (giving (state_of e d m) p x (k.0, sym h)).1.least.inside
    inside Done h = tt

    pub next-place : Inside (length m) r.answer
    next-place = inside r.answer k.1

    pub next-accepted : (m' out' : List ℕ) → m' ≡ answer_marks r.answer m → out' ≡ answer_bytes r.answer r.count → (0, m', out') ≡ next_answer e d m out
    unfolding next_answer after
    next-accepted m' out' p q =
        rw (next_is, k.0, ← k.1) (ap₂ (λ (x y : List ℕ). (0, x, y)) p (q ∙ ap (answer_bytes r.answer) (next_count r.answer k.1)))

-- ---- supply, where the lists and out are of their lengths
module _ (e d m : List ℕ) (p : ℕ) (x : Float) (out : List ℕ)
    (lists : bad_lists (length e) (length d) (length m) ≡ false) (fits : bad_length out 4 ≡ false) where
  supply_is : supply_number e d m p x out ≡ supply_refusal (state_of e d m) p x
  unfolding supply_number
  supply_is = rw (lists, fits) refl

  refused : (f : Refusal) → supply_refusal (state_of e d m) p x ≡ number_of f → (number_of f, d, m, out) ≡ supply_answer e d m p x out
  unfolding supply_answer
  refused f h =
      let z = some_number f in
      let d' = sets d (4 * p) (float_bytes x) in
      let new = bytes_of 4 (counted (state_of e d' (set m p 1))) in
      rw (supply_is, h, after_refused (number_of f) d d' z, after_refused (number_of f) m (set m p 1) z, after_refused (number_of f) out new z)

  pub supply-nan : is_nan x ≡ true → (4, d, m, out) ≡ supply_answer e d m p x out
  supply-nan h = refused Missing (unfold supply_refusal in rw (h, or-true (missing (state_of e d m))))

  module _ (number : is_nan x ≡ false) where
    -- its table goes on as next's, and then with NOT_ASKED
    rows : (n m b a : Bool) → n ≡ false → cond (m || n) 4 (cond b 5 (cond a 0 9)) ≡ or_else (cond m 4 (cond b 5 0)) (cond a 0 9)
    unfolding or_else
    rows n true b a h = refl
    rows n false true a h = rw h refl
    rows n false false a h = rw h refl

    goes_on : supply_refusal (state_of e d m) p x ≡ or_else (next_refusal (state_of e d m)) (cond (asks_for (answer_of (state_of e d m)) p) 0 9)
    unfolding supply_refusal next_refusal
    goes_on = let s = state_of e d m in rows (is_nan x) (missing s) (bad_mark s) (asks_for (answer_of s) p) number

    pub supply_refused : (f : Refusal) → next_refusal (state_of e d m) ≡ number_of f → (number_of f, d, m, out) ≡ supply_answer e d m p x out
    supply_refused f h = refused f (goes_on ∙ rw h (else_first (number_of f) _ (some_number f)))

    module _ (r : Ruling) (k : Ruled (places e d m) (Ok r)) where
      asks : (b : Bool) → asks_for r.answer p ≡ b → supply_refusal (state_of e d m) p x ≡ cond b 0 9
      asks b h = goes_on ∙ rw (k.0, ← k.1, h) (else_second 0 (cond b 0 9) refl)

      pub supply-unasked : asks_for r.answer p ≡ false → (9, d, m, out) ≡ supply_answer e d m p x out
      supply-unasked h = refused NotAsked (asks false h)

      module _ (h : asks_for r.answer p ≡ true) where
        asked : IsLeast 0 (f32_at e) (λ i. get_or m i 0) (length m) p
        asked = let c = supply_clean (state_of e d m) p x (asks true h) in (means (state_of e d m) c.0 (Ask p) c.2).least

        supply_count : (d' : List ℕ) → r.count + 1 ≡ counted (state_of e d' (set m p 1))
        supply_count d' = omega (arith, count_marked e d m d' r.count p 0 1 k.2 asked.inside asked.marked)

        pub supply-room : (p < length m) × (4 * p + 4 ≤ length d) × (length out ≡ 4) × (r.count + 1 ≤ most_places)
        supply-room =
            let l = lists_are (length e) (length d) (length m) lists in
            let few = counted_few (state_of e d (set m p 1)) in
            (asked.inside, omega (arith, asked.inside, l.2), length_is out 4 fits, omega (arith, supply_count d, l.0, length-set m p 1, few))

        pub supply-accepted : (d' m' out' : List ℕ) → d' ≡ sets d (4 * p) (float_bytes x) → m' ≡ set m p 1 → out' ≡ bytes_of 4 (r.count + 1)
            → (0, d', m', out') ≡ supply_answer e d m p x out
        unfolding supply_answer after
        supply-accepted d' m' out' u v w = rw (supply_is, asks true h, u, v, w, supply_count (sets d (4 * p) (float_bytes x)))
