-- The lanes of a block by groups of four dimensions: what is picked in one, in a stretch of them, and in all. Assumes nothing.
use mathlib.Core.Path.{◌≡◌, refl, sym, ap, ap₂, ◌∙◌}
use Prim.Native.Nat.{ℕ, ◌+◌, ◌-◌, ◌*◌, ◌/◌, ◌%◌, ◌<◌, ◌≤◌, min}
use mathlib.Core.List.{List, [], ◌++◌, append-nil}
use borrow.Rule.Slice.PartMut.{put_mid}
use Rattle.std.proofs.Common.{length-append, length-drop, take, drop}
use Rattle.std.proofs.Math.ListN.{get_or-append}
use Rattle.std.proofs.lemmas.List.{take_at, drop_all, get_or-append_right}
use mathlib.Core.Logic.{⊎_elim}
use native.Mathlib.Omega.{arith}
use native.Mathlib.Nat.{zero-add, div-div-eq-div-mul, mul-le-mul}
use lib.ListN.{length, get_or, replicate, get_or-replicate}
use Rattle.words.specs.Digits.{bit}
use Rattle.words.specs.Limits.{top_code, most_sum}
use Rattle.words.specs.Sums.{sum_to}
use Rattle.words.proofs.DigitLaws.{bit-lt, lt_or_ge}
use Rattle.words.proofs.SumLaws.{sum_ext, sum_le, sum_more, sum-split}
use Rattle.block.specs.Block.{block_groups, lane_nibble, lane_bit}
use Rattle.block.proofs.LaneLaws.{lane_bit-lt}
use Rattle.sums.specs.Sums.{plain_sum, nibble_bit, group_sum, QueryCodes}
use Rattle.sums.specs.Parts.{groups_sum, Each, LaneSums}
use Rattle.sums.proofs.PlainLaws.{plain_ext, plain_le}
use Rattle.sums.proofs.GroupLaws.{picks, group_four, groups_plain, lane_bits}
use Rattle.lanes.specs.Parts.{Wide, Sixteen, Lanes, stretch_groups}

-- ---- one group

-- the four digits of c's high half
pub four-picks : (c q₀ q₁ q₂ q₃ : ℕ) → q₀ ≤ top_code → q₁ ≤ top_code → q₂ ≤ top_code → q₃ ≤ top_code
    → min (c / 16 % 2 * 16) q₀ + min (c / 32 % 2 * 32) q₁ + min (c / 64 % 2 * 64) q₂ + min (c / 128 % 2 * 128) q₃
    ≡ q₀ * bit (c / 16) 0 + q₁ * bit (c / 16) 1 + q₂ * bit (c / 16) 2 + q₃ * bit (c / 16) 3
unfolding bit
four-picks c q₀ q₁ q₂ q₃ h₀ h₁ h₂ h₃ =
    let e₀ : c / 16 % 2 ≡ c / 16 / 1 % 2 = omega arith in
    let e₁ : c / 32 % 2 ≡ c / 16 / 2 % 2 = ap (λ (x : ℕ). x % 2) (sym (div-div-eq-div-mul c 16 2)) in
    let e₂ : c / 64 % 2 ≡ c / 16 / 4 % 2 = ap (λ (x : ℕ). x % 2) (sym (div-div-eq-div-mul c 16 4)) in
    let e₃ : c / 128 % 2 ≡ c / 16 / 8 % 2 = ap (λ (x : ℕ). x % 2) (sym (div-div-eq-div-mul c 16 8)) in
    let p₀ = picks (c / 16 % 2) 16 q₀ (omega arith) (omega arith) h₀ in
    let p₁ = picks (c / 32 % 2) 32 q₁ (omega arith) (omega arith) h₁ in
    let p₂ = picks (c / 64 % 2) 64 q₂ (omega arith) (omega arith) h₂ in
    let p₃ = picks (c / 128 % 2) 128 q₃ (omega arith) (omega arith) h₃ in
    omega (arith, ap (λ (x : ℕ). q₀ * x) e₀, ap (λ (x : ℕ). q₁ * x) e₁, ap (λ (x : ℕ). q₂ * x) e₂, ap (λ (x : ℕ). q₃ * x) e₃)

pub group_le : (qs : List ℕ) → QueryCodes qs → (g m : ℕ) → group_sum qs g m ≤ 60
unfolding group_sum
group_le qs q g m = sum_le top_code 4 (λ b. get_or qs (4 * g + b) 0 * bit m b) term
  where
    term : (b : ℕ) → get_or qs (4 * g + b) 0 * bit m b ≤ top_code
    term b =
        let one : bit m b ≤ 1 = omega (arith, bit-lt m b) in
        mul-le-mul (q.small (4 * g + b)) one

-- an entry from the wide table
module _ (qs t : List ℕ) (wide : Wide qs t) where
  pub group_of : (g j m r : ℕ) → g < block_groups (length qs) → j < 16
      → r ≡ get_or t (64 * g + j) 0 * bit m 0 + get_or t (64 * g + 16 + j) 0 * bit m 1 + get_or t (64 * g + 32 + j) 0 * bit m 2
      + get_or t (64 * g + 48 + j) 0 * bit m 3
      → r ≡ group_sum qs g m
  group_of g j m r h lj e =
      e
      ∙ ap₂ (λ (x y : ℕ). x + y)
      (ap₂ (λ (x y : ℕ). x + y)
      (ap₂ (λ (x y : ℕ). x * bit m 0 + y * bit m 1) (at (64 * g + j) (4 * g) (omega arith) (omega arith))
      (at (64 * g + 16 + j) (4 * g + 1) (omega arith) (omega arith)))
      (ap (λ (x : ℕ). x * bit m 2) (at (64 * g + 32 + j) (4 * g + 2) (omega arith) (omega arith))))
      (ap (λ (x : ℕ). x * bit m 3) (at (64 * g + 48 + j) (4 * g + 3) (omega arith) (omega arith)))
      ∙ sym (group_four qs g m)
    where
      at : (i d : ℕ) → i < 64 * block_groups (length qs) → i / 16 ≡ d → get_or t i 0 ≡ get_or qs d 0
      at i d l q = wide.each i l ∙ ap (λ (x : ℕ). get_or qs x 0) q

-- ---- the groups of a record

module _ (qs : List ℕ) (m : ℕ → ℕ) where
  pub groups_more : (g a n : ℕ) → groups_sum qs m g (a + n) ≡ groups_sum qs m g a + groups_sum qs m (g + a) n
  unfolding groups_sum
  groups_more g a n =
      sum-split a n (λ i. group_sum qs (g + i) (m (g + i)))
      ∙ ap (λ (x : ℕ). groups_sum qs m g a + x)
      (sum_ext n (λ i. group_sum qs (g + (a + i)) (m (g + (a + i)))) (λ i. group_sum qs (g + a + i) (m (g + a + i)))
      (λ i _. let e : g + (a + i) ≡ g + a + i = omega arith in ap (λ (x : ℕ). group_sum qs x (m x)) e))

  pub groups_none : (g : ℕ) → groups_sum qs m g 0 ≡ 0
  unfolding groups_sum sum_to
  groups_none g = refl

  pub groups_le : QueryCodes qs → (g n : ℕ) → groups_sum qs m g n ≤ 60 * n
  unfolding groups_sum
  groups_le q g n = sum_le 60 n (λ i. group_sum qs (g + i) (m (g + i))) (λ i. group_le qs q (g + i) (m (g + i)))

  -- any number of them, since codes past the last dimension are 0
  pub groups_most : QueryCodes qs → (n : ℕ) → groups_sum qs m 0 n ≤ most_sum
  unfolding nibble_bit
  groups_most q n =
      omega
      (arith, groups_more 0 n (length qs), groups_plain qs m (n + length qs) (omega arith), plain_le qs (nibble_bit m) q (λ d. bit-lt (m (d / 4)) (d % 4)))

-- ---- the lanes of a block

-- what a loop adds to what the groups before give
pub groups_add : (qs : List ℕ) (m : ℕ → ℕ) (g a n : ℕ) {x y : ℕ} → x ≡ groups_sum qs m g a → y ≡ groups_sum qs m (g + a) n → x + y ≡ groups_sum qs m g (a + n)
groups_add qs m g a n held more = ap₂ (λ (u v : ℕ). u + v) held more ∙ sym (groups_more qs m g a n)

-- one group more
pub groups_step : (qs : List ℕ) (m : ℕ → ℕ) (g n : ℕ) {x y : ℕ} → x ≡ groups_sum qs m g n → y ≡ group_sum qs (g + n) (m (g + n)) → x + y ≡ groups_sum qs m g (n + 1)
unfolding groups_sum
groups_step qs m g n held more = ap₂ (λ (u v : ℕ). u + v) held more ∙ sym (sum_more n (λ i. group_sum qs (g + i) (m (g + i))))

-- the lanes of both halves, as they are copied over 32 numbers
pub lanes_of : (qs block : List ℕ) (g n : ℕ) {low high l h : List ℕ} (rest : List ℕ) → Sixteen qs block 0 g n low → Sixteen qs block 16 g n high → l ≡ low → h ≡ high
    → length rest ≡ 16 → Lanes qs block g n (put_mid 16 16 (l ++ rest) h)
lanes_of qs block g n {low} {high} {l} {h} rest a b el eh r = rw joined (record { long = omega (arith, length-append low high, a.long, b.long); each = at })
  where
    joined : put_mid 16 16 (l ++ rest) h ≡ low ++ high
    joined =
        let e : take 16 (low ++ rest) ≡ low = take_at low rest 16 a.long in
        let none : drop 16 (drop 16 (low ++ rest)) ≡ [] = drop_all 16 (drop 16 (low ++ rest)) (omega (arith, length-drop 16 (low ++ rest), length-append low rest, a.long)) in
        rw (el, eh) (ap₂ (λ (x y : List ℕ). x ++ (high ++ y)) e none ∙ ap (λ (x : List ℕ). low ++ x) (append-nil high))

    is : ℕ → ℕ
    is k = groups_sum qs (lane_nibble block k) g n

    at : (k : ℕ) → k < 32 → get_or (low ++ high) k 0 ≡ groups_sum qs (lane_nibble block k) g n
    at k lk =
        ⊎_elim
        (λ (lo : k < 16). let e : k + 0 ≡ k = omega arith in get_or-append low high 0 k (omega (arith, a.long)) ∙ a.each k lo ∙ ap is e)
        (λ (hi : 16 ≤ k). let e : k - 16 + 16 ≡ k = omega arith in get_or-append_right low high 16 k 0 a.long hi ∙ b.each (k - 16) (omega arith) ∙ ap is e)
        (lt_or_ge k 16)

module _ (qs block : List ℕ) (at g a n : ℕ) {acc part : List ℕ} (held : Sixteen qs block at g a acc) (more : Sixteen qs block at (g + a) n part) where
  sixteen_add : (j : ℕ) → j < 16 → get_or acc j 0 + get_or part j 0 ≡ groups_sum qs (lane_nibble block (j + at)) g (a + n)
  sixteen_add j l = groups_add qs (lane_nibble block (j + at)) g a n (held.each j l) (more.each j l)

  pub sixteen_fit : QueryCodes qs → a + n ≤ stretch_groups → (j : ℕ) → j < 16 → get_or acc j 0 + get_or part j 0 < 65536
  sixteen_fit q h j l = omega (arith, sixteen_add j l, groups_le qs (lane_nibble block (j + at)) q g (a + n))

  pub sixteen_more : {acc' : List ℕ} → Each 16 (λ j. get_or acc j 0 + get_or part j 0) acc' → Sixteen qs block at g (a + n) acc'
  sixteen_more e = record { long = e.long; each = λ j l. e.each j l ∙ sixteen_add j l }

pub sixteen_none : (qs block : List ℕ) (at g : ℕ) → Sixteen qs block at g 0 (replicate 16 0)
sixteen_none qs block at g = record { long = refl; each = λ j l. get_or-replicate {A = ℕ} 16 j 0 0 l ∙ sym (groups_none qs (lane_nibble block (j + at)) g) }

pub lanes_none : (qs block : List ℕ) → Lanes qs block 0 0 (replicate 32 0)
lanes_none qs block = record { long = refl; each = λ k l. get_or-replicate {A = ℕ} 32 k 0 0 l ∙ sym (groups_none qs (lane_nibble block k) 0) }

module _ (qs block : List ℕ) (g n : ℕ) {sums part : List ℕ} (held : Lanes qs block 0 g sums) (more : Lanes qs block g n part) where
  lanes_add : (k : ℕ) → k < 32 → get_or sums k 0 + get_or part k 0 ≡ groups_sum qs (lane_nibble block k) 0 (g + n)
  lanes_add k l =
      groups_add qs (lane_nibble block k) 0 g n (held.each k l)
      (more.each k l ∙ ap (λ (x : ℕ). groups_sum qs (lane_nibble block k) x n) (sym (zero-add g)))

  pub lanes_fit : QueryCodes qs → (k : ℕ) → k < 32 → get_or sums k 0 + get_or part k 0 ≤ most_sum
  lanes_fit q k l = omega (arith, lanes_add k l, groups_most qs (lane_nibble block k) q (g + n))

  pub lanes_more : {sums' : List ℕ} → Each 32 (λ k. get_or sums k 0 + get_or part k 0) sums' → Lanes qs block 0 (g + n) sums'
  lanes_more e = record { long = e.long; each = λ k l. e.each k l ∙ lanes_add k l }

-- the lanes of all groups
pub lanes_plain : (qs block : List ℕ) (n : ℕ) {sums : List ℕ} → QueryCodes qs → length qs ≤ 4 * n → Lanes qs block 0 n sums → LaneSums qs block sums
lanes_plain qs block n {sums} q l held = record {
  sums = record { long = held.long; each = plain };
  most = λ k h. omega (arith, plain k h, plain_le qs (lane_bit block k) q (lane_bit-lt block k));
}
  where
    plain : (k : ℕ) → k < 32 → get_or sums k 0 ≡ plain_sum qs (lane_bit block k)
    plain k h =
        held.each k h ∙ groups_plain qs (lane_nibble block k) n l
        ∙ plain_ext qs (nibble_bit (lane_nibble block k)) (lane_bit block k) (λ d _. lane_bits block k d)
