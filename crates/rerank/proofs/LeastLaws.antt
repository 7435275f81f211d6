-- `least` finds the least place: what its answer says of the lists, and that no other place fits. Assumes nothing.
use mathlib.Core.Path.{◌≡◌, refl, sym, subst}
use mathlib.Core.Logic.{inl, inr}
use mathlib.Core.Bool.{Bool, true, false, cond}
use mathlib.Core.Option.{Option, none, some}
use Prim.Native.Nat.{ℕ, zero, suc, ◌<◌}
use native.Mathlib.Decide.{dec_lt, ℕ_discrete}
use native.Mathlib.Omega.{arith}
use borrow.Author.Tests.{eqb-true, eqb-false, eq-eqb, ne_eqb}
use lib.Dec.{eqb}
use lib.Ieee.{Float, lt}
use Rattle.rerank.specs.Rerank.{put, better, least, IsLeast}
use Rattle.rerank.proofs.OrderLaws.{Num, Less, NotLess, true-false, less_asym, less_irrefl, less_co}

-- ---- a list with one place changed
module _ {A : Type 0} (f : ℕ → A) (p : ℕ) (v : A) where
  pub put_here : put f p v p ≡ v
  unfolding put
  put_here = rw (eq-eqb p p refl)

  pub put_else : (q : ℕ) → (q ≡ p → ⊥) → put f p v q ≡ f q
  unfolding put
  put_else q h = rw (ne_eqb q p h)

-- to show something of place q after a call on place p: at p itself, and elsewhere
pub at-or_else : (P : ℕ → Type 0) (p q : ℕ) → P p → ((q ≡ p → ⊥) → P q) → P q
at-or_else P p q x f = elim (ℕ_discrete q p) [ yes e ↦ subst P (sym e) x | no g ↦ f g ]

-- what holds at i and below i holds below i + 1
reach : (P : ℕ → Type 0) (i : ℕ) → ((q : ℕ) → q < i → P q) → P i → (q : ℕ) → q < suc i → P q
reach P i f x q h = at-or_else P i q x (λ g. f q (omega arith))

-- ---- what an answer of `least` says
abbrev pub Says : ℕ → (ℕ → Float) → (ℕ → ℕ) → ℕ → Option ℕ → Type 0
Says k f m n none = (q : ℕ) → q < n → m q ≡ k → ⊥
Says k f m n (some p) = IsLeast k f m n p

-- the values at the places with the mark k are numbers
abbrev pub Numbers : ℕ → (ℕ → Float) → (ℕ → ℕ) → ℕ → Type 0
Numbers k f m n = (q : ℕ) → q < n → m q ≡ k → Num (f q)

module _ (k : ℕ) (f : ℕ → Float) (m : ℕ → ℕ) where
  skipped : (i : ℕ) (o : Option ℕ) → (m i ≡ k → ⊥) → Says k f m i o → Says k f m (suc i) o
  skipped i none e h = reach (λ q. m q ≡ k → ⊥) i h e
  skipped i (some p) e h =
      record {
        inside = omega (arith, h.inside);
        marked = h.marked;
        low = reach (λ q. m q ≡ k → NotLess (f q) (f p)) i h.low (λ x. absurd (e x));
        first = h.first;
      }

  taken : (i : ℕ) (o : Option ℕ) → m i ≡ k → Numbers k f m (suc i) → Says k f m i o → Says k f m (suc i) (better f i o)
  unfolding better
  taken i none e num h =
      record {
        inside = omega arith;
        marked = e;
        low = reach (λ q. m q ≡ k → NotLess (f q) (f i)) i (λ q l x. absurd (h q l x)) (λ x. less_irrefl (f i));
        first = λ q l x. absurd (h q l x);
      }
  taken i (some b) e num h = go (lt (f i) (f b)) refl
    where
      ahead : Less (f i) (f b) → (q : ℕ) → q < i → m q ≡ k → Less (f i) (f q)
      ahead c q l x =
          elim (less_co (f i) (f q) (f b) (num q (omega arith) x) c) [ inl r ↦ r | inr r ↦ absurd (true-false (lt (f q) (f b)) r (h.low q l x)) ]

      go : (c : Bool) → lt (f i) (f b) ≡ c → Says k f m (suc i) (cond c (some i) (some b))
      go true c =
          record {
            inside = omega arith;
            marked = e;
            low = reach (λ q. m q ≡ k → NotLess (f q) (f i)) i (λ q l x. less_asym (f i) (f q) (ahead c q l x)) (λ x. less_irrefl (f i));
            first = ahead c;
          }
      go false c =
          record {
            inside = omega (arith, h.inside);
            marked = h.marked;
            low = reach (λ q. m q ≡ k → NotLess (f q) (f b)) i h.low (λ x. c);
            first = h.first;
          }

  pub least-says : (n : ℕ) → Numbers k f m n → Says k f m n (least k f m n)
  unfolding least
  least-says zero num = λ q l x. omega arith
  least-says (suc i) num = go (eqb (m i) k) refl (least-says i (λ q l x. num q (omega arith) x))
    where
      go : (b : Bool) → eqb (m i) k ≡ b → Says k f m i (least k f m i) → Says k f m (suc i) (cond b (better f i (least k f m i)) (least k f m i))
      go true e h = taken i (least k f m i) (eqb-true (m i) k e) num h
      go false e h = skipped i (least k f m i) (eqb-false (m i) k e) h

  -- no two places are least
  pub least_one : (n p q : ℕ) → IsLeast k f m n p → IsLeast k f m n q → p ≡ q
  least_one n p q a b =
      elim (dec_lt p q) [
        | yes l ↦ absurd (true-false (lt (f q) (f p)) (b.first p l a.marked) (a.low q b.inside b.marked))
        | no g ↦ elim (dec_lt q p) [
          | yes l ↦ absurd (true-false (lt (f p) (f q)) (a.first q l b.marked) (b.low p a.inside a.marked))
          | no h ↦ omega arith
        ]
      ]

  -- so whoever finds a least place finds the answer of `least`
  pub least_is : (n p : ℕ) → Numbers k f m n → IsLeast k f m n p → least k f m n ≡ some p
  least_is n p num h = go (least k f m n) (least-says n num)
    where
      go : (o : Option ℕ) → Says k f m n o → o ≡ some p
      go none s = absurd (s p h.inside h.marked)
      go (some q) s = let e : q ≡ p = least_one n q p s h in rw e

  pub least-none : (n : ℕ) → Numbers k f m n → ((q : ℕ) → q < n → m q ≡ k → ⊥) → least k f m n ≡ none
  least-none n num h = go (least k f m n) (least-says n num)
    where
      go : (o : Option ℕ) → Says k f m n o → o ≡ none
      go none s = refl
      go (some q) s = absurd (h q s.inside s.marked)
