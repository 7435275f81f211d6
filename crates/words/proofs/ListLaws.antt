-- Laws of specs/Lists: the loops that count the places where a test holds or take the largest number, lists put together place by place, and the loops that
-- fill a buffer. Assumes nothing.
use Prim.Native.Nat.{ℕ, zero, suc, ◌+◌, ◌-◌, ◌*◌, ◌<◌, ◌≤◌, zero-le, max}
use mathlib.Core.Bool.{Bool, true, false, ◌||◌, cond, or-true, or-false}
use mathlib.Core.List.{List, [], ◌∷◌, ◌++◌, append_assoc, append-nil}
use mathlib.Core.Path.{◌≡◌, refl, sym, ap, ◌∙◌}
use mathlib.Core.Logic.{inl, inr}
use native.Mathlib.Omega.{arith}
use native.Mathlib.Numerals.{add-one}
use native.Mathlib.Nat.{eq-or-lt_of_le, not-suc-le-zero, add-zero, add-suc, mul_comm, mul-one}
use lib.Dec.{ltb}
use lib.ListN.{length, get_or, set, take, drop, length-append, get_or-append, get_or-eq_default}
use lib.Seq.{get_or-append-add, get_or-set_same, get_or-set_other, get_or-take, get_or-drop, ext_get_or, take_at, drop_at}
use borrow.Author.Count.{below_more}
use borrow.Author.Tests.{lt-ltb, le-ltb, ltb-true, ltb-false}
use Rattle.words.specs.Lists.{any_below, any_above, joined, tabulate, record_of}
use Rattle.words.proofs.RefusalLaws.{neither, none_bad}

-- ---- some place below n

-- a turn of a loop that counts
pub any_more : (p : ℕ → Bool) (i bad x : ℕ) → ltb 0 bad ≡ any_below i p → x ≡ cond (p i) 1 0 → ltb 0 (bad + x) ≡ any_below (i + 1) p
unfolding any_below
any_more p i bad x h e = rw (add-one i, sym h, e) (go (p i))
  where
    go : (b : Bool) → ltb 0 (bad + cond b 1 0) ≡ (ltb 0 bad || b)
    go true = lt-ltb 0 (bad + 1) (omega arith) ∙ sym (or-true (ltb 0 bad))
    go false = ap (λ (z : ℕ). ltb 0 z) (add-zero bad) ∙ sym (or-false (ltb 0 bad))

pub any_none : (p : ℕ → Bool) → any_below 0 p ≡ false
unfolding any_below
any_none p = refl

-- where it holds at none, it doesn't hold at this one
pub none-at : (p : ℕ → Bool) (n : ℕ) → any_below n p ≡ false → (i : ℕ) → i < n → p i ≡ false
unfolding any_below
none-at p zero h i l = absurd (not-suc-le-zero l)
none-at p (suc n) h i l =
    let q = neither (any_below n p) (p n) h in
    elim (eq-or-lt_of_le l) [
      | inl e ↦ let z : i ≡ n = omega arith in rw z q.1
      | inr k ↦ none-at p n q.0 i (omega arith)
    ]

-- and where it doesn't hold at any, it holds at none
pub none_all : (p : ℕ → Bool) (n : ℕ) → ((i : ℕ) → i < n → p i ≡ false) → any_below n p ≡ false
unfolding any_below
none_all p zero h = refl
none_all p (suc n) h = none_bad (any_below n p) (p n) (none_all p n (λ i l. h i (omega arith))) (h n (omega arith))

pub any_ext : (p q : ℕ → Bool) (n : ℕ) → ((i : ℕ) → i < n → p i ≡ q i) → any_below n p ≡ any_below n q
unfolding any_below
any_ext p q zero h = refl
any_ext p q (suc n) h = rw (any_ext p q n (λ i l. h i (omega arith)), h n (omega arith)) refl

-- ---- numbers above a top

-- a loop that takes the largest, from 0 on
pub above-none : (t : ℕ) (s : List ℕ) → ltb t 0 ≡ any_below 0 (λ j. ltb t (get_or s j 0))
above-none t s = le-ltb t 0 zero-le ∙ sym (any_none _)

-- and a turn of it
pub above_more : (t : ℕ) (s : List ℕ) (i m x : ℕ) → ltb t m ≡ any_below i (λ j. ltb t (get_or s j 0)) → x ≡ max m (get_or s i 0)
    → ltb t x ≡ any_below (i + 1) (λ j. ltb t (get_or s j 0))
unfolding any_below
above_more t s i m x h e = rw (add-one i, sym h, e) (go m (get_or s i 0) (ltb t m) (ltb t (get_or s i 0)) refl refl)
  where
    go : (a b : ℕ) (p q : Bool) → ltb t a ≡ p → ltb t b ≡ q → ltb t (max a b) ≡ (p || q)
    go a b true q e f = let l : t < a = ltb-true t a e in lt-ltb t (max a b) (omega arith)
    go a b false true e f = let l : t < b = ltb-true t b f in lt-ltb t (max a b) (omega arith)
    go a b false false e f = let k : a ≤ t = ltb-false t a e in let l : b ≤ t = ltb-false t b f in le-ltb t (max a b) (omega arith)

-- where none is above it, each is at most the top, and so are the zeros past the last
pub none_above : (t : ℕ) (s : List ℕ) → any_above t s ≡ false → (i : ℕ) → get_or s i 0 ≤ t
unfolding any_above
none_above t s h i = go (ltb i (length s)) refl
  where
    go : (b : Bool) → ltb i (length s) ≡ b → get_or s i 0 ≤ t
    go true e = ltb-false t (get_or s i 0) (none-at (λ i. ltb t (get_or s i 0)) (length s) h i (ltb-true i (length s) e))
    go false e = rw (get_or-eq_default s 0 (ltb-false i (length s) e)) zero-le

-- ---- lists put together

pub joined-none : (f : ℕ → List ℕ) → joined 0 f ≡ []
unfolding joined
joined-none f = refl

pub joined_more : (n : ℕ) (f : ℕ → List ℕ) → joined (n + 1) f ≡ joined n f ++ f n
unfolding joined
joined_more n f = ap (λ (k : ℕ). joined k f) (add-one n)

pub length-joined : (m n : ℕ) (f : ℕ → List ℕ) → ((i : ℕ) → i < n → length (f i) ≡ m) → length (joined n f) ≡ n * m
unfolding joined
length-joined m zero f h = omega arith
length-joined m (suc n) f h = rw (length-append (joined n f) (f n), length-joined m n f (λ i l. h i (omega arith)), h n (omega arith)) (omega arith)

pub joined_ext : (n : ℕ) (f g : ℕ → List ℕ) → ((i : ℕ) → i < n → f i ≡ g i) → joined n f ≡ joined n g
unfolding joined
joined_ext zero f g h = refl
joined_ext (suc n) f g h = rw (joined_ext n f g (λ i l. h i (omega arith)), h n (omega arith)) refl

-- a part of lists of one length m: c of n, from list k on
pub joined-split : (k n : ℕ) (f : ℕ → List ℕ) → joined (k + n) f ≡ joined k f ++ joined n (λ j. f (k + j))
unfolding joined
joined-split k zero f = ap (λ (x : ℕ). joined x f) (add-zero k) ∙ sym (append-nil (joined k f))
joined-split k (suc n) f =
    ap (λ (x : ℕ). joined x f) (add-suc k n) ∙ ap (λ (l : List ℕ). l ++ f (k + n)) (joined-split k n f)
    ∙ append_assoc (joined k f) (joined n (λ j. f (k + j))) (f (k + n))

pub joined_part : (m n k c : ℕ) (f : ℕ → List ℕ) → ((i : ℕ) → i < n → length (f i) ≡ m) → k + c ≤ n
    → take (m * c) (drop (m * k) (joined n f)) ≡ joined c (λ j. f (k + j))
joined_part m n k c f size h =
    let d : ℕ = n - (k + c) in
    let e : n ≡ k + (c + d) = omega arith in
    ap (λ (x : ℕ). take (m * c) (drop (m * k) (joined x f))) e
    ∙ ap (λ (l : List ℕ). take (m * c) (drop (m * k) l)) (joined-split k (c + d) f)
    ∙ ap (take (m * c)) (drop_at (joined k f) (joined (c + d) (λ j. f (k + j))) (m * k) (length-joined m k f (λ i l. size i (omega arith)) ∙ mul_comm k m))
    ∙ ap (take (m * c)) (joined-split c d (λ j. f (k + j)))
    ∙ take_at (joined c (λ j. f (k + j))) (joined d (λ i. f (k + (c + i)))) (m * c)
    (length-joined m c (λ j. f (k + j)) (λ i l. size (k + i) (omega arith)) ∙ mul_comm c m)

-- the list at place k of n of one length
pub joined_at : (m n k : ℕ) (f : ℕ → List ℕ) → ((i : ℕ) → i < n → length (f i) ≡ m) → k < n → take m (drop (m * k) (joined n f)) ≡ f k
unfolding joined
joined_at m n k f size h =
    ap (λ (x : ℕ). take x (drop (m * k) (joined n f))) (sym (mul-one m)) ∙ joined_part m n k 1 f size (omega arith) ∙ ap f (add-zero k)

-- byte i of record k
pub record_byte : (size : ℕ) (records : List ℕ) (k i : ℕ) → i < size → get_or (record_of size records k) i 0 ≡ get_or records (size * k + i) 0
unfolding record_of
record_byte size records k i l = get_or-take size (drop (size * k) records) i 0 l ∙ get_or-drop (size * k) records i 0

pub length-tabulate : (n : ℕ) (f : ℕ → ℕ) → length (tabulate n f) ≡ n
unfolding tabulate
length-tabulate n f = length-joined 1 n (λ i. f i ∷ []) (λ i l. refl) ∙ omega arith

pub tabulate-at : (n : ℕ) (f : ℕ → ℕ) (i : ℕ) → i < n → get_or (tabulate n f) i 0 ≡ f i
unfolding tabulate joined
tabulate-at zero f i h = absurd (not-suc-le-zero h)
tabulate-at (suc n) f i h =
    let e : length (tabulate n f) ≡ n = length-tabulate n f in
    elim (eq-or-lt_of_le h) [
      | inl q ↦
          let z : i ≡ length (tabulate n f) + 0 = omega arith in
          let w : i ≡ n = omega arith in
          ap (λ (k : ℕ). get_or (tabulate n f ++ (f n ∷ [])) k 0) z ∙ get_or-append-add (tabulate n f) (f n ∷ []) 0 0 ∙ ap f (sym w)
      | inr l ↦ get_or-append (tabulate n f) (f n ∷ []) 0 i (omega arith) ∙ tabulate-at n f i (omega arith)
    ]

-- a buffer that a loop has filled
pub filled : (n : ℕ) (f : ℕ → ℕ) (s : List ℕ) → length s ≡ n → ((k : ℕ) → k < n → get_or s k 0 ≡ f k) → s ≡ tabulate n f
filled n f s e h =
    ext_get_or 0 s (tabulate n f) (e ∙ sym (length-tabulate n f)) (λ i l. let k : i < n = omega arith in h i k ∙ sym (tabulate-at n f i k))

pub tabulate_ext : (n : ℕ) (f g : ℕ → ℕ) → ((i : ℕ) → i < n → f i ≡ g i) → tabulate n f ≡ tabulate n g
tabulate_ext n f g h = filled n g (tabulate n f) (length-tabulate n f) (λ i l. tabulate-at n f i l ∙ h i l)

-- a turn of the loop that fills it
pub filled_more : (g : ℕ → ℕ) (t : List ℕ) (k v : ℕ) → k < length t → ((j : ℕ) → j < k → get_or t j 0 ≡ g j) → v ≡ g k
    → (j : ℕ) → j < k + 1 → get_or (set t k v) j 0 ≡ g j
filled_more g t k v l h e =
    below_more _ k (λ j lj. get_or-set_other t k j v 0 (λ (q : j ≡ k). omega arith) ∙ h j lj) (get_or-set_same t k v 0 l ∙ e)

-- and what it has not come to yet is as it was
pub rest_more : (t₀ t : List ℕ) (k v : ℕ) → ((j : ℕ) → k ≤ j → get_or t j 0 ≡ get_or t₀ j 0)
    → (j : ℕ) → k + 1 ≤ j → get_or (set t k v) j 0 ≡ get_or t₀ j 0
rest_more t₀ t k v h j l = get_or-set_other t k j v 0 (λ (q : j ≡ k). omega arith) ∙ h j (omega arith)
