-- What an accepted call says of the state: `Clean`, which is what the refusals leave, and the meaning of each answer. Assumes nothing.
use mathlib.Core.Path.{◌≡◌, refl, sym, subst}
use mathlib.Core.Logic.{inl, inr}
use mathlib.Core.Bool.{Bool, true, false, not, ◌&&◌, ◌||◌, cond}
use mathlib.Core.Option.{Option, none, some}
use Prim.Native.Nat.{ℕ, ◌<◌, ◌≤◌}
use native.Mathlib.Omega.{arith}
use borrow.Author.Tests.{eqb-true, eq-eqb, leb-true, le-leb, not-false}
use lib.Dec.{eqb, leb}
use lib.Ieee.{Float, lt, is_nan}
use Rattle.words.specs.Limits.{most_mark}
use Rattle.words.proofs.ListLaws.{none-at, none_all}
use Rattle.words.proofs.RefusalLaws.{no_row, neither, none_bad}
use Rattle.rerank.specs.Rerank.{State, least, IsLeast, choose, answer_of, asks_for, missing_at, missing, bad_mark, next_refusal, supply_refusal}
use Rattle.rerank.specs.declared.Answer.{Answer}
use Rattle.rerank.specs.declared.Answer.TheVariants.{Ask, Give, Done}
use Rattle.rerank.proofs.OrderLaws.{Num, Less, NotLess, true-false, less_co, NotLess_trans}
use Rattle.rerank.proofs.LeastLaws.{Says, least-says}

-- ---- what the refusals leave
pub record Clean (s : State) : Type 0 where
  pub numbers : (q : ℕ) → q < s.size → Num (s.estimate q)
  pub held : (q : ℕ) → q < s.size → s.mark q ≡ 1 → Num (s.distance q)
  pub bounded : (q : ℕ) → q < s.size → s.mark q ≤ most_mark

asked_number : (m : ℕ) (b : Bool) → (eqb m 1 && b) ≡ false → m ≡ 1 → b ≡ false
asked_number m b e p = subst {A = Bool} (λ (x : Bool). (x && b) ≡ false) (eq-eqb m 1 p) e

number_asked : (c b : Bool) → (c ≡ true → b ≡ false) → (c && b) ≡ false
number_asked true b f = f refl
number_asked false b f = refl

not-true : (b : Bool) → b ≡ true → not b ≡ false
not-true true e = refl
not-true false e = sym e

clean_of : (s : State) → missing s ≡ false → bad_mark s ≡ false → Clean s
unfolding missing bad_mark missing_at
clean_of s m v =
    record {
      numbers = λ q h. (place q h).0;
      held = λ q h e. asked_number (s.mark q) (is_nan (s.distance q)) (place q h).1 e;
      bounded = λ q h. leb-true (s.mark q) most_mark (not-false (leb (s.mark q) most_mark) (none-at (λ i. not (leb (s.mark i) most_mark)) s.size v q h));
    }
  where
    place : (q : ℕ) → q < s.size → Num (s.estimate q) × ((eqb (s.mark q) 1 && is_nan (s.distance q)) ≡ false)
    place q h = neither (is_nan (s.estimate q)) (eqb (s.mark q) 1 && is_nan (s.distance q)) (none-at (missing_at s) s.size m q h)

pub missing_no : (s : State) → Clean s → missing s ≡ false
unfolding missing missing_at
missing_no s c =
    none_all (missing_at s) s.size
    (λ q h. none_bad (is_nan (s.estimate q)) (eqb (s.mark q) 1 && is_nan (s.distance q)) (c.numbers q h)
    (number_asked (eqb (s.mark q) 1) (is_nan (s.distance q)) (λ e. c.held q h (eqb-true (s.mark q) 1 e))))

pub bad_mark_no : (s : State) → Clean s → bad_mark s ≡ false
unfolding bad_mark
bad_mark_no s c =
    none_all (λ i. not (leb (s.mark i) most_mark)) s.size
    (λ q h. not-true (leb (s.mark q) most_mark) (le-leb (s.mark q) most_mark (c.bounded q h)))

-- next is refused exactly where the state is not clean
pub next_clean : (s : State) → next_refusal s ≡ 0 → Clean s
unfolding next_refusal
next_clean s e =
    let a = no_row (missing s) 3 (cond (bad_mark s) 5 0) e in
    clean_of s a.0 (no_row (bad_mark s) 4 0 a.1).0

pub clean_next : (s : State) → Clean s → next_refusal s ≡ 0
unfolding next_refusal
clean_next s c = rw (missing_no s c, bad_mark_no s c)

pub asks_is : (x : Answer) (p : ℕ) → asks_for x p ≡ true → x ≡ Ask p
unfolding asks_for
asks_is (Ask q) p e = let z : p ≡ q = eqb-true p q e in cc
asks_is (Give q d) p e = absurd (true-false false e refl)
asks_is Done p e = absurd (true-false false e refl)

asks_refl : (p : ℕ) → asks_for (Ask p) p ≡ true
unfolding asks_for
asks_refl p = eq-eqb p p refl

last_row : (b : Bool) → ◌≡◌ {A = ℕ} (cond b 0 9) 0 → b ≡ true
last_row true e = refl
last_row false e = absurd (omega arith)

-- a supply is accepted exactly where the state is clean, the distance a number and the place now asked for
pub supply_clean : (s : State) (p : ℕ) (d : Float) → supply_refusal s p d ≡ 0 → Clean s × Num d × (answer_of s ≡ Ask p)
unfolding supply_refusal
supply_clean s p d e =
    let a = no_row (missing s || is_nan d) 3 (cond (bad_mark s) 5 (cond (asks_for (answer_of s) p) 0 9)) e in
    let b = no_row (bad_mark s) 4 (cond (asks_for (answer_of s) p) 0 9) a.1 in
    let m = neither (missing s) (is_nan d) a.0 in
    (clean_of s m.0 b.0, m.1, asks_is (answer_of s) p (last_row (asks_for (answer_of s) p) b.1))

pub clean_supply : (s : State) (p : ℕ) (d : Float) → Clean s → Num d → answer_of s ≡ Ask p → supply_refusal s p d ≡ 0
unfolding supply_refusal
clean_supply s p d c n a = rw (none_bad (missing s) (is_nan d) (missing_no s c) n, bad_mark_no s c, a, asks_refl p)

-- ---- what each answer says
pub record AskSays (s : State) (w : ℕ) : Type 0 where
  pub least : IsLeast 0 s.estimate s.mark s.size w
  pub ahead : (a : ℕ) → a < s.size → s.mark a ≡ 1 → Less (s.estimate w) (s.distance a)

pub record GiveSays (s : State) (p : ℕ) (d : Float) : Type 0 where
  pub least : IsLeast 1 s.distance s.mark s.size p
  pub value : d ≡ s.distance p
  pub ahead : (w : ℕ) → w < s.size → s.mark w ≡ 0 → NotLess (s.estimate w) (s.distance p)

pub record DoneSays (s : State) : Type 0 where
  pub none_waits : (q : ℕ) → q < s.size → s.mark q ≡ 0 → ⊥
  pub none-asked : (q : ℕ) → q < s.size → s.mark q ≡ 1 → ⊥

abbrev pub Means : State → Answer → Type 0
Means s (Ask w) = AskSays s w
Means s (Give p d) = GiveSays s p d
Means s Done = DoneSays s

means_choice : (s : State) → Clean s → (w a : Option ℕ) → Says 0 s.estimate s.mark s.size w → Says 1 s.distance s.mark s.size a
    → Means s (choose s w a)
unfolding choose
means_choice s c none none x y = record { none_waits = x; none-asked = y }
means_choice s c none (some p) x y = record { least = y; value = refl; ahead = λ w h e. absurd (x w h e) }
means_choice s c (some w) none x y = record { least = x; ahead = λ a h e. absurd (y a h e) }
means_choice s c (some w) (some p) x y = go (lt (s.estimate w) (s.distance p)) refl
  where
    before : Less (s.estimate w) (s.distance p) → (a : ℕ) → a < s.size → s.mark a ≡ 1 → Less (s.estimate w) (s.distance a)
    before e a h m =
        elim (less_co (s.estimate w) (s.distance a) (s.distance p) (c.held a h m) e) [
          | inl r ↦ r
          | inr r ↦ absurd (true-false (lt (s.distance a) (s.distance p)) r (y.low a h m))
        ]

    after : NotLess (s.estimate w) (s.distance p) → (q : ℕ) → q < s.size → s.mark q ≡ 0 → NotLess (s.estimate q) (s.distance p)
    after e q h m = NotLess_trans (s.estimate q) (s.estimate w) (s.distance p) (c.numbers w x.inside) (x.low q h m) e

    go : (b : Bool) → lt (s.estimate w) (s.distance p) ≡ b → Means s (cond b (Ask w) (Give p (s.distance p)))
    go true e = record { least = x; ahead = before e }
    go false e = record { least = y; value = refl; ahead = after e }

pub answer-means : (s : State) → Clean s → Means s (answer_of s)
unfolding answer_of
answer-means s c =
    means_choice s c (least 0 s.estimate s.mark s.size) (least 1 s.distance s.mark s.size)
    (least-says 0 s.estimate s.mark s.size (λ q h m. c.numbers q h)) (least-says 1 s.distance s.mark s.size c.held)

pub means : (s : State) → Clean s → (x : Answer) → answer_of s ≡ x → Means s x
means s c x e = subst (Means s) e (answer-means s c)
