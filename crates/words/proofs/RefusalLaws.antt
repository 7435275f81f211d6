-- Laws for a table of refusals, `cond test number rest`, and for what a call leaves in its buffer. Assumes nothing.
use Prim.Native.Nat.{ℕ, zero, suc, ◌*◌, ◌≤◌}
use lib.Dec.{eqb, ltb}
use lib.ListN.{length}
use borrow.Author.Tests.{ltb-false, eqb-true, eq-eqb, ne_eqb, not-false}
use mathlib.Core.Bool.{Bool, true, false, not, ◌||◌, cond}
use mathlib.Core.List.{List}
use mathlib.Core.Path.{◌≡◌, refl}
use native.Mathlib.Omega.{arith}
use Rattle.words.specs.Limits.{most_places}
use Rattle.words.specs.Refusals.{after, answer, or_else, bad_dims, bad_length, bad_lists}

-- ---- tests

-- where a table gives 0, no test of it holds
pub no_row : (b : Bool) (n rest : ℕ) → cond b (suc n) rest ≡ 0 → (b ≡ false) × (rest ≡ 0)
no_row true n rest e = absurd (omega arith)
no_row false n rest e = (refl, e)

pub neither : (a b : Bool) → (a || b) ≡ false → (a ≡ false) × (b ≡ false)
neither true b e = (e, cc)
neither false b e = (refl, e)

pub none_bad : (a b : Bool) → a ≡ false → b ≡ false → (a || b) ≡ false
none_bad a b e f = rw (e, f) refl

-- what a test of the dims tells
pub few_dims : (most dims : ℕ) → bad_dims most dims ≡ false → dims ≤ most
unfolding bad_dims
few_dims most dims e = ltb-false most dims (neither (eqb dims 0) (ltb most dims) e).1

-- what a test of a length tells
pub sized : (s : List ℕ) (n : ℕ) → length s ≡ n → bad_length s n ≡ false
unfolding bad_length
sized s n e = rw (eq-eqb (length s) n e)

pub unsized : (s : List ℕ) (n : ℕ) → (length s ≡ n → ⊥) → bad_length s n ≡ true
unfolding bad_length
unsized s n h = rw (ne_eqb (length s) n h)

pub length_is : (s : List ℕ) (n : ℕ) → bad_length s n ≡ false → length s ≡ n
unfolding bad_length
length_is s n e = eqb-true (length s) n (not-false _ e)

-- what a test of the lists of candidates tells
pub lists_are : (a b places : ℕ) → bad_lists a b places ≡ false → (places ≤ most_places) × (a ≡ 4 * places) × (b ≡ 4 * places)
unfolding bad_lists
lists_are a b places e =
    let p = neither (ltb most_places places || not (eqb a (4 * places))) (not (eqb b (4 * places))) e in
    let q = neither (ltb most_places places) (not (eqb a (4 * places))) p.0 in
    (ltb-false _ _ q.0, eqb-true _ _ (not-false _ q.1), eqb-true _ _ (not-false _ p.1))

-- ---- numbers

pub else_first : (a b : ℕ) → (a ≡ 0 → ⊥) → or_else a b ≡ a
unfolding or_else
else_first zero b h = absurd (h refl)
else_first (suc a) b h = refl

pub else_second : (a b : ℕ) → a ≡ 0 → or_else a b ≡ b
unfolding or_else
else_second a b e = rw e refl

-- where there is no refusal, neither has one
pub else_none : (a b : ℕ) → or_else a b ≡ 0 → (a ≡ 0) × (b ≡ 0)
unfolding or_else
else_none zero b e = (refl, e)
else_none (suc a) b e = absurd (omega arith)

-- ---- buffers

pub after-accepted : (n : ℕ) (old new : List ℕ) → n ≡ 0 → after n old new ≡ new
unfolding after
after-accepted n old new e = rw e refl

pub after_refused : (n : ℕ) (old new : List ℕ) → (n ≡ 0 → ⊥) → after n old new ≡ old
unfolding after
after_refused zero old new h = absurd (h refl)
after_refused (suc n) old new h = refl

-- an accepted answer, and a refused one
pub accepts : (n : ℕ) (old new now : List ℕ) → n ≡ 0 → now ≡ new → (0, now) ≡ answer n old new
unfolding answer after
accepts n old new now e f = rw (e, f) refl

pub refuses : (n m : ℕ) (old new : List ℕ) → n ≡ suc m → (suc m, old) ≡ answer n old new
unfolding answer after
refuses n m old new e = rw e refl
