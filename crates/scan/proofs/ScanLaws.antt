-- What the turns and the ends of the scan's loops say. Assumes nothing.
use mathlib.Core.Path.{◌≡◌, refl, sym, ap, ◌∙◌}
use mathlib.Core.Logic.{◌⊎◌, inl, inr}
use mathlib.Core.Bool.{Bool, true, false, not, cond}
use mathlib.Core.List.{List}
use Prim.Native.Nat.{ℕ, zero, suc, ◌+◌, ◌-◌, ◌*◌, ◌<◌, ◌≤◌}
use native.Mathlib.Decide.{dec_lt, ℕ_discrete}
use native.Mathlib.Numerals.{add-one}
use native.Mathlib.Omega.{arith}
use borrow.Author.Tests.{ltb-true, lt-ltb, le-ltb, lt-leb, le-leb, eqb-true, eqb-false}
use mir.Val.{bool_byte}
use Rattle.std.proofs.Math.Nat.{min-le_left, min-le_right}
use Rattle.std.specs.Prelude.{min, Some, None, IsSome}
use Rattle.std.specs.declared.option.Option.{Option}
use lib.Dec.{eqb, leb, ltb}
use lib.ListN.{get_or}
use lib.Ieee.{binary32, nan_bits}
use Rattle.words.specs.Bytes.{num_at}
use Rattle.words.specs.Limits.{most_mark}
use Rattle.words.specs.Sums.{sum_to}
use Rattle.words.proofs.SumLaws.{sum_more, sum_le, one_most}
use Rattle.scan.specs.Lists.{Places}
use Rattle.scan.specs.Parts.{key_of, no_key, key_if, key_at, waiting_key, asked_key, least_key, lacks, lack_at, above_most, not_zero}
use Rattle.scan.specs.Parts.{KeysTo, CountsOf, LeastTo, LeastOf, ScanTo, FirstAt, FirstPlace}
use Rattle.scan.specs.declared.pass.Keys.{Keys}
use Rattle.scan.specs.declared.pass.Least.{Least}
use Rattle.scan.specs.declared.pass.Scan.{Scan}

-- ---- one place
pub key_up : (u : ℕ) → u < 0x8000_0000 → u + 0x8000_0000 ≡ key_of u
unfolding key_of
key_up u h = rw (lt-ltb u 0x8000_0000 h) (omega arith)

pub key_down : (u : ℕ) → 0x8000_0000 ≤ u → u < 0x1_0000_0000 → 0x8000_0000 - (u - 0x8000_0000) ≡ key_of u
unfolding key_of
key_down u h l = rw (le-ltb u 0x8000_0000 h) (omega arith)

-- ---- the marks of a stretch
above_is : (m : ℕ) → bool_byte (ltb most_mark m) ≡ above_most m
above_is m =
    elim (dec_lt most_mark m) [
      | yes l ↦ rw (lt-ltb most_mark m l, lt-leb m most_mark l)
      | no g ↦ let h : m ≤ most_mark = omega arith in rw (le-ltb most_mark m h, le-leb m most_mark h)
    ]

one_or_none : (b : Bool) → cond b 0 1 ≤ 1
one_or_none true = omega arith
one_or_none false = omega arith

not_is : (b : Bool) → bool_byte (not b) ≡ cond b 0 1
not_is true = refl
not_is false = refl

pub counts_none : (m : List ℕ) (from : ℕ) → CountsOf m from from 0 0
counts_none m from = record { bad_is = omega arith; count_is = omega arith; few_bad = omega arith; few = omega arith }

pub counts_more : (m : List ℕ) (from i bad count x y : ℕ) → CountsOf m from i bad count → x ≡ bool_byte (ltb most_mark (get_or m i 0))
    → y ≡ bool_byte (not (eqb (get_or m i 0) 0)) → CountsOf m from (i + 1) (bad + x) (count + y)
counts_more m from i bad count x y c p q =
    let a = p ∙ above_is (get_or m i 0) in
    let b = q ∙ not_is (eqb (get_or m i 0) 0) in
    record {
      bad_is = omega (arith, sum_more i (λ j. above_most (get_or m j 0)), c.bad_is, a);
      count_is = omega (arith, sum_more i (λ j. not_zero (get_or m j 0)), c.count_is, b);
      few_bad = omega (arith, c.few_bad, a, one_or_none (leb (get_or m i 0) most_mark));
      few = omega (arith, c.few, b, one_or_none (eqb (get_or m i 0) 0));
    }

-- ---- the least key
pub key_none : (g : ℕ → ℕ) → no_key ≡ least_key 0 g
unfolding least_key
key_none g = refl

pub key_more : (g : ℕ → ℕ) (i old v r : ℕ) → old ≡ least_key i g → v ≡ g i → r ≡ min old v → r ≡ least_key (i + 1) g
unfolding least_key
key_more g i old v r p q e = rw (add-one i, ← p, ← q) e

min_is : (a b : ℕ) → (min a b ≡ a) ⊎ (min a b ≡ b)
min_is a b = elim (dec_lt b a) [ yes l ↦ inr (omega arith) | no g ↦ inl (omega arith) ]

module _ (g : ℕ → ℕ) where
  pub key_falls : (i n : ℕ) → i ≤ n → least_key n g ≤ least_key i g
  unfolding least_key
  key_falls i zero h = let e : i ≡ 0 = omega arith in rw e (omega arith)
  key_falls i (suc n) h =
      elim (ℕ_discrete i (suc n)) [
        | yes e ↦ rw e (omega arith)
        | no f ↦ omega (arith, key_falls i n (omega arith), min-le_left (least_key n g) (g n))
      ]

  pub key_low : (n q : ℕ) → q < n → least_key n g ≤ g q
  key_low n q h = omega (arith, key_falls (suc q) n h, at q)
    where
      at : (q : ℕ) → least_key (suc q) g ≤ g q
      at q = unfold least_key in min-le_right (least_key q g) (g q)

  pub key_most : (n : ℕ) → least_key n g ≤ no_key
  unfolding least_key
  key_most n = key_falls 0 n (omega arith)

  -- it is none, or that of a place
  pub key_hit : (n : ℕ) → (least_key n g ≡ no_key) ⊎ ((q : ℕ) × (q < n) × (g q ≡ least_key n g))
  unfolding least_key
  key_hit zero = inl refl
  key_hit (suc n) = elim (min_is (least_key n g) (g n)) [ inl e ↦ old e (key_hit n) | inr e ↦ inr (n, omega arith, sym e) ]
    where
      old : min (least_key n g) (g n) ≡ least_key n g → (least_key n g ≡ no_key) ⊎ ((q : ℕ) × (q < n) × (g q ≡ least_key n g))
          → (min (least_key n g) (g n) ≡ no_key) ⊎ ((q : ℕ) × (q < suc n) × (g q ≡ min (least_key n g) (g n)))
      old e (inl z) = inl (e ∙ z)
      old e (inr x) = inr (x.0, omega (arith, x.1), x.2 ∙ sym e)

-- ---- one place more
lack_le : (l : Places) (i : ℕ) → lack_at l i ≤ 2
unfolding lack_at lacks
lack_le l i = go (nan_bits binary32 (num_at 4 l.estimates (4 * i))) (eqb (get_or l.marks i 0) 1) (nan_bits binary32 (num_at 4 l.distances (4 * i)))
  where
    go : (a b c : Bool) → cond a 1 0 + cond b (cond c 1 0) 0 ≤ 2
    go a true c = omega (arith, one_most a, one_most c)
    go a false c = omega (arith, one_most a)

pub keys_few : (l : Places) (i : ℕ) (s : Keys) → KeysTo l i s → s.missing ≤ 2 * i
keys_few l i s k = omega (arith, k.missing, sum_le 2 i (lack_at l) (lack_le l))

pub keys_more : (l : Places) (i x u v : ℕ) (s r : Keys) → KeysTo l i s → x ≡ get_or l.marks i 0 → u ≡ num_at 4 l.estimates (4 * i)
    → v ≡ num_at 4 l.distances (4 * i) → r.missing ≡ s.missing + lacks x u v → r.waiting ≡ min s.waiting (key_if (eqb x 0) u)
    → r.asked ≡ min s.asked (key_if (eqb x 1) v) → KeysTo l (i + 1) r
unfolding lack_at key_at
keys_more l i x u v s r k a b c p q t =
    record {
      missing = p ∙ ap (λ (n : ℕ). s.missing + n) here ∙ ap (λ (n : ℕ). n + lack_at l i) k.missing ∙ sym (sum_more i (lack_at l));
      waiting = key_more (waiting_key l) i s.waiting (key_if (eqb x 0) u) r.waiting k.waiting (rw (a, b)) q;
      asked = key_more (asked_key l) i s.asked (key_if (eqb x 1) v) r.asked k.asked (rw (a, c)) t;
    }
  where
    here : lacks x u v ≡ lack_at l i
    here = rw (a, b, c)

-- ---- one stretch more
pub scan_none : (l : Places) (s : Scan) → s.missing ≡ 0 → s.bad ≡ 0 → s.count ≡ 0 → s.waiting.key ≡ no_key → s.asked.key ≡ no_key
    → s.waiting.from ≡ 0 → s.asked.from ≡ 0 → ScanTo l 0 s
unfolding sum_to
scan_none l s c a b w x f g =
    record {
      missing = c;
      bad = a;
      count = b;
      waiting = record { key = w ∙ key_none (waiting_key l); ahead = λ q h. absurd (omega (arith, f)) };
      asked = record { key = x ∙ key_none (asked_key l); ahead = λ q h. absurd (omega (arith, g)) };
    }

sum_few : (f : ℕ → ℕ) (n : ℕ) → ((i : ℕ) → f i ≤ 1) → sum_to n f ≤ n
sum_few f n h = omega (arith, sum_le 1 n f h)

pub scan_few : (l : Places) (i : ℕ) (s : Scan) → ScanTo l i s → (s.bad ≤ i) × (s.count ≤ i)
scan_few l i s k = (
  rw k.bad (sum_few (λ j. above_most (get_or l.marks j 0)) i (λ j. one_or_none (leb (get_or l.marks j 0) most_mark))),
  rw k.count (sum_few (λ j. not_zero (get_or l.marks j 0)) i (λ j. one_or_none (eqb (get_or l.marks j 0) 0))),
)

-- no place before the stretch of the least key has it
pub least_more : (g : ℕ → ℕ) (i to new : ℕ) (x r : Least) → i ≤ to → LeastTo g i x → new ≡ least_key to g → (new ≤ x.key → r.key ≡ new)
    → r.from ≡ cond (ltb new x.key) i x.from → LeastTo g to r
least_more g i to new x r h k e p f =
    let low : new ≤ x.key = omega (arith, e, k.key, key_falls g i to h) in
    record { key = p low ∙ e; ahead = λ q l. rw (p low) (go (ltb new x.key) refl q (rw f at l)) }
  where
    go : (b : Bool) → ltb new x.key ≡ b → (q : ℕ) → q < cond b i x.from → new < g q
    go true t q l = omega (arith, ltb-true new x.key t, key_low g i q l, k.key)
    go false t q l = omega (arith, k.ahead q l, k.key, e, key_falls g i to h)

-- ---- the least key, where there is one
pub least_of : (g : ℕ → ℕ) (n : ℕ) (x : Least) → LeastTo g n x → LeastOf g n (cond (eqb x.key no_key) None (Some x))
least_of g n x k = go (eqb x.key no_key) refl
  where
    go : (b : Bool) → eqb x.key no_key ≡ b → LeastOf g n (cond b None (Some x))
    go true e = sym k.key ∙ eqb-true x.key no_key e
    go false e = (omega (arith, eqb-false x.key no_key e, k.key, key_most g n), k)

-- ---- the search for a key's place
-- the least key is that of a place, and no place before its stretch has it
module _ (g : ℕ → ℕ) (n : ℕ) (x : Least) (k : LeastOf g n (Some x)) where
  first_place : (p : ℕ) → FirstAt g x.from n x.key (Some p) → FirstPlace g n x.key p
  first_place p f =
      record {
        inside = f.0;
        here = f.1;
        none_before = λ q l e. elim (dec_lt q x.from) [ yes h ↦ omega (arith, k.1.ahead q h) | no h ↦ f.2 q (omega arith) l e ];
      }

  nowhere : FirstAt g x.from n x.key None → ⊥
  nowhere f =
      elim (key_hit g n) [
        | inl e ↦ omega (arith, k.0, k.1.key, e)
        | inr y ↦
            let e : g (y.0) ≡ x.key = y.2 ∙ sym k.1.key in
            elim (dec_lt y.0 x.from) [ yes h ↦ omega (arith, k.1.ahead (y.0) h, e) | no h ↦ f (y.0) (omega arith) y.1 e ]
      ]

  -- so the search finds it
  pub some_place : (r : Option ℕ) → FirstAt g x.from n x.key r → IsSome r
  some_place (Some p) f = refl
  some_place None f = absurd (nowhere f)

  pub place_of : (r : Option ℕ) (p : ℕ) → FirstAt g x.from n x.key r → r ≡ Some p → FirstPlace g n x.key p
  place_of r p f e = first_place p (rw e at f)
