-- Laws of numbers in bytes: a number of a part, a number in two halves, bytes stored one after the other. Assumes nothing.
use Prim.Native.Nat.{ℕ, zero, suc, ◌+◌, ◌-◌, ◌*◌, ◌/◌, ◌^◌, ◌<◌, ◌≤◌}
use mathlib.Core.Path.{◌≡◌, refl, sym, ap, ◌∙◌}
use native.Mathlib.Omega.{arith}
use native.Mathlib.Nat.{add_assoc, add-zero, add-suc, suc-add, le_trans, le-add_right}
use mathlib.Core.List.{List, [], ◌∷◌, ◌++◌, append-nil, append_assoc}
use lib.ListN.{length, take, drop, set, length-append, drop_of_length-le}
use lib.Seq.{sets, sets-eq, take_at, length-take-le, get_or-take, get_or-drop}
use borrow.Rule.Slice.PartMut.{put_mid, Post-is}
use lib.Ieee.{Float, to_bits, binary32}
use Rattle.std.specs.Int.{from_le_bytes, to_le_bytes}
use Rattle.std.proofs.Common.{w32, w64}
use Rattle.words.specs.Bytes.{num_at, bytes_of, float_bytes}

-- a number of a part of the bytes
pub num_part_from : (n m at : ℕ) (s : List ℕ) (i : ℕ) → i + n ≤ m → num_at n (take m (drop at s)) i ≡ num_at n s (at + i)
unfolding num_at
num_part_from zero m at s i h = refl
num_part_from (suc n) m at s i h =
    rw (get_or-take m (drop at s) i 0 (omega arith), get_or-drop at s i 0, num_part_from n m at s (i + 1) (omega arith), add_assoc) refl

pub num_part : (n m at : ℕ) (s : List ℕ) → n ≤ m → num_at n (take m (drop at s)) 0 ≡ num_at n s at
num_part n m at s h = num_part_from n m at s 0 (omega arith) ∙ rw add-zero refl

-- eight bytes are two times four
pub num_8 : (s : List ℕ) (at : ℕ) → num_at 8 s at ≡ num_at 4 s at + num_at 4 s (at + 4) * 0x1_0000_0000
unfolding num_at
num_8 s at = simp add_assoc (omega arith)

-- std's number of four bytes
pub le_number : (a b c d : ℕ) → from_le_bytes w32 (a ∷ b ∷ c ∷ d ∷ []) ≡ a + 256 * (b + 256 * (c + 256 * (d + 256 * 0)))
le_number a b c d = omega arith

-- std's bytes of a number
pub le_bytes : (x : ℕ) → to_le_bytes w32 x ≡ bytes_of 4 x
unfolding bytes_of
le_bytes x =
    let e2 : x / 0x1_0000 ≡ x / 256 / 256 = omega arith in
    let e3 : x / 0x100_0000 ≡ x / 256 / 256 / 256 = omega arith in
    rw (e2, e3) refl

pub le_bytes_8 : (x : ℕ) → to_le_bytes w64 x ≡ bytes_of 8 x
unfolding bytes_of
le_bytes_8 x =
    let e2 : x / 0x1_0000 ≡ x / 256 / 256 = omega arith in
    let e3 : x / 0x100_0000 ≡ x / 256 / 256 / 256 = omega arith in
    let e4 : x / 0x1_0000_0000 ≡ x / 256 / 256 / 256 / 256 = omega arith in
    let e5 : x / 0x100_0000_0000 ≡ x / 256 / 256 / 256 / 256 / 256 = omega arith in
    let e6 : x / 0x1_0000_0000_0000 ≡ x / 256 / 256 / 256 / 256 / 256 / 256 = omega arith in
    let e7 : x / 0x100_0000_0000_0000 ≡ x / 256 / 256 / 256 / 256 / 256 / 256 / 256 = omega arith in
    rw (e2, e3, e4, e5, e6, e7) refl

-- what was written reads back
pub num_bytes : (x : ℕ) → x < 2 ^ 32 → num_at 4 (bytes_of 4 x) 0 ≡ x
unfolding num_at bytes_of
num_bytes x h = omega arith

-- ---- bytes that are stored one after the other

-- one store more
pub sets_snoc : (l : List ℕ) (i : ℕ) (vs : List ℕ) (a : ℕ) → sets l i (vs ++ (a ∷ [])) ≡ set (sets l i vs) (i + length vs) a
sets_snoc l i [] a = rw add-zero refl
sets_snoc l i (v ∷ vs) a = sets_snoc (set l i v) (suc i) vs a ∙ rw (suc-add, add-suc) refl

-- what then stands before the place after the last byte
pub take-sets : (l : List ℕ) (at : ℕ) (vs : List ℕ) → at + length vs ≤ length l → take (at + length vs) (sets l at vs) ≡ take at l ++ vs
take-sets l at vs h =
    rw (sets-eq vs l at h)
    (take_at (take at l ++ vs) (drop (at + length vs) l) (at + length vs)
    (length-append (take at l) vs ∙ ap (λ (k : ℕ). k + length vs) (length-take-le at l (le_trans (le-add_right at (length vs)) h))))

pub length-bytes_of : (n x : ℕ) → length (bytes_of n x) ≡ n
unfolding bytes_of
length-bytes_of zero x = refl
length-bytes_of (suc n) x = ap suc (length-bytes_of n (x / 256))

pub length-float_bytes : (x : Float) → length (float_bytes x) ≡ 4
unfolding float_bytes
length-float_bytes x = length-bytes_of 4 (to_bits binary32 x)

-- a buffer that is written whole
pub sets_all : (l vs : List ℕ) → length l ≡ length vs → sets l 0 vs ≡ vs
sets_all l vs e = sets-eq vs l 0 (omega arith) ∙ ap (λ (r : List ℕ). vs ++ r) (drop_of_length-le l {i = 0 + length vs} (omega arith)) ∙ append-nil vs

-- two stores one after the other
pub sets_append : (l : List ℕ) (at : ℕ) (vs ws : List ℕ) → sets (sets l at vs) (at + length vs) ws ≡ sets l at (vs ++ ws)
sets_append l at [] ws = rw add-zero refl
sets_append l at (v ∷ vs) ws = rw (add-suc, sym (suc-add at (length vs))) (sets_append (set l at v) (suc at) vs ws)

-- a part that is written whole
pub put_part : (l : List ℕ) (at n : ℕ) (vs : List ℕ) → length vs ≡ n → at + n ≤ length l → put_mid at (at + n - at) l vs ≡ sets l at vs
put_part l at n vs e h =
    ap (λ (r : List ℕ). take at l ++ (vs ++ r)) (Post-is at (at + n) l (omega arith))
    ∙ rw (sym e) (sym (append_assoc (take at l) vs (drop (at + length vs) l)) ∙ sym (sets-eq vs l at (omega arith)))
