-- The answer by the least keys is the rule's. Assumes nothing.
use mathlib.Core.Path.{◌≡◌, refl, sym, ◌∙◌}
use mathlib.Core.Bool.{Bool, true, false, cond}
use mathlib.Core.List.{List}
use mathlib.Core.Option.{Option as Found, none, some}
use Prim.Native.Nat.{ℕ, ◌*◌, ◌<◌, ◌≤◌}
use native.Mathlib.Omega.{arith}
use borrow.Author.Tests.{lt-ltb, le-ltb, eqb-true, eq-eqb}
use lib.Dec.{eqb, ltb}
use lib.ListN.{length, get_or}
use lib.Ieee.{binary32, lt}
use lib.Ieee.Bits.{nan_bits_is}
use Rattle.words.specs.Bytes.{num_at, f32_at}
use Rattle.rerank.specs.Rerank.{least, IsLeast, choose, answer_of}
use Rattle.std.specs.Prelude.{Some, None}
use Rattle.std.specs.declared.option.Option.{Option}
use Rattle.scan.specs.Lists.{Places}
use Rattle.scan.specs.Parts.{key_of, no_key, key_if, key_at, waiting_key, asked_key, least_key, LeastOf, FirstPlace}
use Rattle.scan.specs.declared.pass.Least.{Least}
use Rattle.rerank.specs.Parts.{held, Accepting, Asks, Gives}
use Rattle.rerank.specs.declared.Answer.{Answer}
use Rattle.rerank.specs.declared.Answer.TheVariants.{Ask, Give, Done}
use Rattle.scan.specs.declared.pass.Scan.{Scan}
use Rattle.rerank.proofs.OrderLaws.{Num}
use Rattle.scan.proofs.KeyLaws.{key_less, key_high}
use Rattle.rerank.proofs.LeastLaws.{Numbers, Says, least-says, least_is, least-none}
use Rattle.rerank.proofs.RuleLaws.{Clean, next_clean}
use Rattle.scan.proofs.ScanLaws.{key_low, least_of}

-- ---- the key of a place that has the mark
key_of_lem : (k : ℕ) (s m : List ℕ) (q : ℕ) → get_or m q 0 ≡ k → key_at k s m q ≡ key_of (num_at 4 s (4 * q))
unfolding key_at
key_of_lem k s m q e = rw (eq-eqb (get_or m q 0) k e)

key_under : (k : ℕ) (s m : List ℕ) (q : ℕ) → Num (f32_at s q) → get_or m q 0 ≡ k → key_at k s m q < no_key
unfolding f32_at
key_under k s m q n e = rw (key_of_lem k s m q e) (key_high (num_at 4 s (4 * q)) (nan_bits_is binary32 (num_at 4 s (4 * q)) ∙ n))

-- a place that has a key has the mark
marked_of : (k : ℕ) (s m : List ℕ) (q : ℕ) → key_at k s m q < no_key → get_or m q 0 ≡ k
unfolding key_at
marked_of k s m q h = go (eqb (get_or m q 0) k) refl h
  where
    go : (b : Bool) → eqb (get_or m q 0) k ≡ b → key_if b (num_at 4 s (4 * q)) < no_key → get_or m q 0 ≡ k
    go true e l = eqb-true (get_or m q 0) k e
    go false e l = absurd (omega arith)

-- the order of two places, of one list or of two, is that of their keys
key_order : (k j : ℕ) (s t m : List ℕ) (p q : ℕ) → Num (f32_at s p) → get_or m p 0 ≡ k → Num (f32_at t q) → get_or m q 0 ≡ j
    → lt (f32_at s p) (f32_at t q) ≡ ltb (key_at k s m p) (key_at j t m q)
unfolding f32_at
key_order k j s t m p q a x b y =
    let u = num_at 4 s (4 * p) in
    let v = num_at 4 t (4 * q) in
    rw (key_of_lem k s m p x, key_of_lem j t m q y) (key_less u v (nan_bits_is binary32 u ∙ a) (nan_bits_is binary32 v ∙ b))

-- ---- one list s and one mark k, where the places of that mark have numbers
module _ (k : ℕ) (s m : List ℕ) (num : Numbers k (f32_at s) (λ i. get_or m i 0) (length m)) where
  -- where the least key is none, no place has the mark
  none-marked : least_key (length m) (key_at k s m) ≡ no_key → (q : ℕ) → q < length m → get_or m q 0 ≡ k → ⊥
  none-marked z q h e = omega (arith, key_low (key_at k s m) (length m) q h, key_under k s m q (num q h e) e)

  -- the first place of the least key is the least place
  module _ (key p : ℕ) (is : key ≡ least_key (length m) (key_at k s m)) (under : key < no_key) (f : FirstPlace (key_at k s m) (length m) key p) where
    marked : get_or m p 0 ≡ k
    marked = marked_of k s m p (omega (arith, f.here))

    pub found_least : IsLeast k (f32_at s) (λ i. get_or m i 0) (length m) p
    found_least =
        record {
          inside = f.inside;
          marked = marked;
          low = λ q h e. key_order k k s s m q p (num q h e) e (num p f.inside marked) marked
              ∙ le-ltb (key_at k s m q) (key_at k s m p) (omega (arith, key_low (key_at k s m) (length m) q h, f.here));
          first = λ q h e. let l : q < length m = omega (arith, f.inside) in key_order k k s s m p q (num p f.inside marked) marked (num q l e) e
              ∙ lt-ltb (key_at k s m p) (key_at k s m q) (before q h l);
        }
      where
        before : (q : ℕ) → q < p → q < length m → key_at k s m p < key_at k s m q
        before q h l =
            let low = key_low (key_at k s m) (length m) q l in
            let n : key_at k s m q ≡ key → ⊥ = f.none_before q h in
            omega (arith, f.here)

-- ---- both lists
module _ (l : Places) (s : Scan) (a : Accepting l s) where
  clean : Clean (held l)
  clean = next_clean (held l) a.accepted

  waiting : Numbers 0 (f32_at l.estimates) (λ i. get_or l.marks i 0) (length l.marks)
  waiting q h z = clean.numbers q h

  -- the least key, where there is one, as a call has it in o
  pub waiting_of : (o r : Option Least) → r ≡ o → r ≡ cond (eqb s.waiting.key no_key) None (Some s.waiting) → LeastOf (waiting_key l) (length l.marks) o
  waiting_of o r e h = rw (sym h ∙ e) at (least_of (waiting_key l) (length l.marks) s.waiting a.scanned.waiting)

  pub asked_of : (o r : Option Least) → r ≡ o → r ≡ cond (eqb s.asked.key no_key) None (Some s.asked) → LeastOf (asked_key l) (length l.marks) o
  asked_of o r e h = rw (sym h ∙ e) at (least_of (asked_key l) (length l.marks) s.asked a.scanned.asked)

  -- Ask: a waiting place has the least key of all
  module _ (w : Least) (o : LeastOf (waiting_key l) (length l.marks) (Some w)) (below : w.key < least_key (length l.marks) (asked_key l)) where
    pub says_ask : (x : Answer) → Asks l w.key x → x ≡ answer_of (held l)
    unfolding answer_of choose
    says_ask (Ask p) f =
        rw (least_is 0 (f32_at l.estimates) (λ i. get_or l.marks i 0) (length l.marks) p waiting is)
        (go (least 1 (f32_at l.distances) (λ i. get_or l.marks i 0) (length l.marks))
        (least-says 1 (f32_at l.distances) (λ i. get_or l.marks i 0) (length l.marks) clean.held))
      where
        is : IsLeast 0 (f32_at l.estimates) (λ i. get_or l.marks i 0) (length l.marks) p
        is = found_least 0 l.estimates l.marks waiting w.key p o.1.key o.0 f

        ahead : (q : ℕ) → q < length l.marks → get_or l.marks q 0 ≡ 1 → lt (f32_at l.estimates p) (f32_at l.distances q) ≡ true
        ahead q h x =
            key_order 0 1 l.estimates l.distances l.marks p q (waiting p is.inside is.marked) is.marked (clean.held q h x) x
            ∙ lt-ltb (waiting_key l p) (asked_key l q) (omega (arith, f.here, below, key_low (asked_key l) (length l.marks) q h))

        go : (o : Found ℕ) → Says 1 (f32_at l.distances) (λ i. get_or l.marks i 0) (length l.marks) o → Ask p ≡ choose (held l) (some p) o
        go none y = refl
        go (some q) y = rw (ahead q y.inside y.marked)
    says_ask (Give p d) f = absurd f
    says_ask Done f = absurd f

  -- Done: there is no key
  pub says-done : LeastOf (waiting_key l) (length l.marks) None → LeastOf (asked_key l) (length l.marks) None → Done ≡ answer_of (held l)
  unfolding answer_of choose
  says-done w z =
      rw (
        least-none 0 (f32_at l.estimates) (λ i. get_or l.marks i 0) (length l.marks) waiting (none-marked 0 l.estimates l.marks waiting w),
        least-none 1 (f32_at l.distances) (λ i. get_or l.marks i 0) (length l.marks) clean.held (none-marked 1 l.distances l.marks clean.held z),
      )

  -- Give: an asked place has a key, and no waiting one a lesser
  module _ (b : Least) (o : LeastOf (asked_key l) (length l.marks) (Some b)) (below : b.key ≤ least_key (length l.marks) (waiting_key l)) where
    pub says_give : (x : Answer) → Gives l b.key x → x ≡ answer_of (held l)
    unfolding answer_of choose
    says_give (Ask p) f = absurd f
    says_give (Give p d) f =
        rw (f.1, least_is 1 (f32_at l.distances) (λ i. get_or l.marks i 0) (length l.marks) p clean.held is)
        (go (least 0 (f32_at l.estimates) (λ i. get_or l.marks i 0) (length l.marks))
        (least-says 0 (f32_at l.estimates) (λ i. get_or l.marks i 0) (length l.marks) waiting))
      where
        is : IsLeast 1 (f32_at l.distances) (λ i. get_or l.marks i 0) (length l.marks) p
        is = found_least 1 l.distances l.marks clean.held b.key p o.1.key o.0 f.0

        behind : (q : ℕ) → q < length l.marks → get_or l.marks q 0 ≡ 0 → lt (f32_at l.estimates q) (f32_at l.distances p) ≡ false
        behind q h x =
            key_order 0 1 l.estimates l.distances l.marks q p (waiting q h x) x (clean.held p is.inside is.marked) is.marked
            ∙ le-ltb (waiting_key l q) (asked_key l p) (omega (arith, f.0.here, below, key_low (waiting_key l) (length l.marks) q h))

        go : (o : Found ℕ) → Says 0 (f32_at l.estimates) (λ i. get_or l.marks i 0) (length l.marks) o
            → Give p (f32_at l.distances p) ≡ choose (held l) o (some p)
        go none y = refl
        go (some q) y = rw (behind q y.inside y.marked)
    says_give Done f = absurd f
