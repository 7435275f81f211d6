-- The bytes that an accepted call leaves hold the rule's next state. Assumes nothing.
use mathlib.Core.Path.{◌≡◌, refl, sym, ap, ap₂, fun_ext, ◌∙◌}
use mathlib.Core.Logic.{◌⊎◌, inl, inr}
use mathlib.Core.List.{List, [], ◌∷◌, ◌++◌, append_assoc}
use Prim.Native.Nat.{ℕ, zero, suc, ◌+◌, ◌*◌, ◌^◌, ◌<◌, ◌≤◌}
use native.Mathlib.Decide.{dec_lt}
use native.Mathlib.Omega.{arith}
use lib.Dec.{T}
use lib.ListN.{length, get_or, take, drop, set, length-set}
use lib.Seq.{sets, sets-eq, get_or-set_same, get_or-set_other, take_at, drop_at, length-take-le}
use lib.Ieee.{Float, binary32, of_bits, to_bits, fits}
use lib.Ieee.Bits.{of_bits-to_bits, to_bits-lt}
use Rattle.words.specs.Bytes.{num_at, bytes_of, f32_at, float_bytes}
use Rattle.words.proofs.ByteLaws.{num_part, num_bytes, length-bytes_of}
use Rattle.rerank.specs.Rerank.{put, given, supplied}
use Rattle.rerank.specs.Calls.{state_of}
use Rattle.rerank.proofs.LeastLaws.{put_here, put_else, at-or_else}

-- ---- bytes after a store
sets_else : (l : List ℕ) (i : ℕ) (vs : List ℕ) (j : ℕ) → (j < i) ⊎ (i + length vs ≤ j) → get_or (sets l i vs) j 0 ≡ get_or l j 0
sets_else l i [] j h = refl
sets_else l i (v ∷ vs) j h =
    sets_else (set l i v) (suc i) vs j (elim h [ inl a ↦ inl (omega arith) | inr b ↦ inr (omega arith) ])
    ∙ get_or-set_other l i j v 0 (λ e. elim h [ inl a ↦ omega arith | inr b ↦ omega arith ])

num_same : (n : ℕ) (s t : List ℕ) (i : ℕ) → ((j : ℕ) → i ≤ j → j < i + n → get_or s j 0 ≡ get_or t j 0) → num_at n s i ≡ num_at n t i
unfolding num_at
num_same zero s t i h = refl
num_same (suc n) s t i h = rw (h i (omega arith) (omega arith), num_same n s t (i + 1) (λ j a b. h j (omega arith) (omega arith)))

num-stored : (s : List ℕ) (at u : ℕ) → at + 4 ≤ length s → u < 2 ^ 32 → num_at 4 (sets s at (bytes_of 4 u)) at ≡ u
num-stored s at u h l =
    let n : length (bytes_of 4 u) ≡ 4 = length-bytes_of 4 u in
    let e : sets s at (bytes_of 4 u) ≡ take at s ++ (bytes_of 4 u ++ drop (at + length (bytes_of 4 u)) s) =
    sets-eq (bytes_of 4 u) s at (omega arith) ∙ append_assoc (take at s) (bytes_of 4 u) (drop (at + length (bytes_of 4 u)) s) in
    sym (num_part 4 4 at (sets s at (bytes_of 4 u)) (omega arith))
    ∙ ap (λ (x : List ℕ). num_at 4 (take 4 x) 0) (ap (drop at) e ∙ drop_at (take at s) (bytes_of 4 u ++ drop (at + length (bytes_of 4 u)) s) at
    (length-take-le at s (omega arith)))
    ∙ ap (λ (x : List ℕ). num_at 4 x 0) (take_at (bytes_of 4 u) (drop (at + length (bytes_of 4 u)) s) 4 n)
    ∙ num_bytes u l

float_here : (d : List ℕ) (p : ℕ) (x : Float) → 4 * p + 4 ≤ length d → T (fits binary32 x) → f32_at (sets d (4 * p) (float_bytes x)) p ≡ x
unfolding f32_at float_bytes
float_here d p x h f = ap (of_bits binary32) (num-stored d (4 * p) (to_bits binary32 x) h (to_bits-lt binary32 x f)) ∙ of_bits-to_bits binary32 x f

float_else : (d : List ℕ) (p q : ℕ) (x : Float) → (q ≡ p → ⊥) → f32_at (sets d (4 * p) (float_bytes x)) q ≡ f32_at d q
unfolding f32_at float_bytes
float_else d p q x g =
    ap (of_bits binary32)
    (num_same 4 (sets d (4 * p) (bytes_of 4 (to_bits binary32 x))) d (4 * q)
    (λ j a b. sets_else d (4 * p) (bytes_of 4 (to_bits binary32 x)) j (side j a b (dec_lt q p))))
  where
    n : length (bytes_of 4 (to_bits binary32 x)) ≡ 4
    n = length-bytes_of 4 (to_bits binary32 x)

    side : (j : ℕ) → 4 * q ≤ j → j < 4 * q + 4 → Dec (q < p) → (j < 4 * p) ⊎ (4 * p + length (bytes_of 4 (to_bits binary32 x)) ≤ j)
    side j a b (yes l) = inl (omega arith)
    side j a b (no f) = inr (omega (arith, n))

-- ---- the state
put_mark : (m : List ℕ) (p v : ℕ) → p < length m → (λ (i : ℕ). get_or (set m p v) i 0) ≡ put (λ i. get_or m i 0) p v
put_mark m p v h =
    fun_ext (λ q. at-or_else (λ x. get_or (set m p v) x 0 ≡ put (λ i. get_or m i 0) p v x) p q
    (get_or-set_same m p v 0 h ∙ sym (put_here (λ i. get_or m i 0) p v)) (λ o. get_or-set_other m p q v 0 o ∙ sym (put_else (λ i. get_or m i 0) p v q o)))

put_distance : (d : List ℕ) (p : ℕ) (x : Float) → 4 * p + 4 ≤ length d → T (fits binary32 x) → f32_at (sets d (4 * p) (float_bytes x)) ≡ put (f32_at d) p x
put_distance d p x h f =
    fun_ext (λ q. at-or_else (λ k. f32_at (sets d (4 * p) (float_bytes x)) k ≡ put (f32_at d) p x k) p q
    (float_here d p x h f ∙ sym (put_here (f32_at d) p x)) (λ o. float_else d p q x o ∙ sym (put_else (f32_at d) p x q o)))

pub state_marked : (e d m : List ℕ) (p v : ℕ) → p < length m
    → state_of e d (set m p v) ≡ record { size = length m; estimate = f32_at e; distance = f32_at d; mark = put (λ i. get_or m i 0) p v }
state_marked e d m p v h =
    ap₂ (λ (n : ℕ) (f : ℕ → ℕ). record { size = n; estimate = f32_at e; distance = f32_at d; mark = f }) (length-set m p v) (put_mark m p v h)

pub state_given : (e d m : List ℕ) (p : ℕ) → p < length m → state_of e d (set m p 2) ≡ given (state_of e d m) p
state_given e d m p h = state_marked e d m p 2 h

pub state_supplied : (e d m : List ℕ) (p : ℕ) (x : Float) → p < length m → 4 * p + 4 ≤ length d → T (fits binary32 x)
    → state_of e (sets d (4 * p) (float_bytes x)) (set m p 1) ≡ supplied (state_of e d m) p x
state_supplied e d m p x h k f =
    state_marked e (sets d (4 * p) (float_bytes x)) m p 1 h
    ∙ ap (λ (g : ℕ → Float). record { size = length m; estimate = f32_at e; distance = g; mark = put (λ i. get_or m i 0) p 1 }) (put_distance d p x k f)
