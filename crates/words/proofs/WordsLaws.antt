-- Laws of `words_of`: numbers written one after the other, cut in parts, put over a list, and read back. Assumes nothing.
use mathlib.Core.Path.{◌≡◌, sym, ap, ap₂, ◌∙◌}
use Prim.Native.Nat.{ℕ, ◌+◌, ◌*◌, ◌^◌, ◌<◌, ◌≤◌}
use mathlib.Core.List.{List, [], ◌++◌}
use native.Mathlib.Omega.{arith}
use native.Mathlib.Nat.{mul_comm}
use lib.Dec.{T}
use lib.ListN.{length, take, drop, length-append, length-drop}
use lib.Seq.{sets, sets-eq, take_at, drop-append-add, drop-drop}
use lib.Ieee.{Float, of_bits, to_bits, binary32, fits}
use lib.Ieee.Bits.{of_bits-to_bits, to_bits-lt}
use Rattle.words.specs.Bytes.{num_at, bytes_of, f32_at, words_of, floats_of}
use Rattle.words.proofs.ListLaws.{joined-none, joined_more, joined_ext, joined-split, joined_part, joined_at, length-joined}
use Rattle.words.proofs.ByteLaws.{length-bytes_of, num_part, num_part_from, num_bytes, take-sets}

pub length-words_of : (n : ℕ) (f : ℕ → ℕ) → length (words_of n f) ≡ 4 * n
unfolding words_of
length-words_of n f = length-joined 4 n (λ i. bytes_of 4 (f i)) (λ i l. length-bytes_of 4 (f i)) ∙ mul_comm n 4

pub words_zero : (f : ℕ → ℕ) → words_of 0 f ≡ []
unfolding words_of
words_zero f = joined-none (λ i. bytes_of 4 (f i))

-- one number more
pub words_suc : (n : ℕ) (f : ℕ → ℕ) → words_of (n + 1) f ≡ words_of n f ++ bytes_of 4 (f n)
unfolding words_of
words_suc n f = joined_more n (λ i. bytes_of 4 (f i))

pub words_ext : (n : ℕ) (f g : ℕ → ℕ) → ((k : ℕ) → k < n → f k ≡ g k) → words_of n f ≡ words_of n g
unfolding words_of
words_ext n f g h = joined_ext n (λ i. bytes_of 4 (f i)) (λ i. bytes_of 4 (g i)) (λ i l. ap (bytes_of 4) (h i l))

pub words_split : (m n : ℕ) (f : ℕ → ℕ) → words_of (m + n) f ≡ words_of m f ++ words_of n (λ j. f (m + j))
unfolding words_of
words_split m n f = joined-split m n (λ i. bytes_of 4 (f i))

-- m of n numbers, from number k on
pub words_part : (n k m : ℕ) (f : ℕ → ℕ) → k + m ≤ n → take (4 * m) (drop (4 * k) (words_of n f)) ≡ words_of m (λ j. f (k + j))
unfolding words_of
words_part n k m f h = joined_part 4 n k m (λ i. bytes_of 4 (f i)) (λ i l. length-bytes_of 4 (f i)) h

-- ---- loops that write them

pub words_none : (out : List ℕ) (f : ℕ → ℕ) → take 0 out ≡ words_of 0 f
words_none out f = sym (words_zero f)

-- a turn of a loop that writes them one after the other
pub words_more : (out : List ℕ) (k : ℕ) (f : ℕ → ℕ) → 4 * k + 4 ≤ length out → take (4 * k) out ≡ words_of k f
    → take (4 * (k + 1)) (sets out (4 * k) (bytes_of 4 (f k))) ≡ words_of (k + 1) f
words_more out k f h e =
    let at : 4 * (k + 1) ≡ 4 * k + length (bytes_of 4 (f k)) = rw length-bytes_of (omega arith) in
    rw at (take-sets out (4 * k) (bytes_of 4 (f k)) (rw length-bytes_of h) ∙ ap (λ (l : List ℕ). l ++ bytes_of 4 (f k)) e ∙ sym (words_suc k f))

-- a turn of a loop that writes them over a list
pub words_over : (l : List ℕ) (k : ℕ) (f : ℕ → ℕ) → 4 * k + 4 ≤ length l
    → sets (words_of k f ++ drop (4 * k) l) (4 * k) (bytes_of 4 (f k)) ≡ words_of (k + 1) f ++ drop (4 * (k + 1)) l
words_over l k f h =
    let a = words_of k f in
    let v = bytes_of 4 (f k) in
    let la : length a ≡ 4 * k = length-words_of k f in
    let lv : length v ≡ 4 = length-bytes_of 4 (f k) in
    let ld = length-drop (4 * k) l in
    let lr = length-append a (drop (4 * k) l) in
    let next : 4 * k + length v ≡ 4 * (k + 1) = omega arith in
    let past : drop (4 * k + length v) (a ++ drop (4 * k) l) ≡ drop (4 * (k + 1)) l =
    ap (λ (x : ℕ). drop (x + length v) (a ++ drop (4 * k) l)) (sym la) ∙ drop-append-add a (drop (4 * k) l) (length v) ∙ drop-drop (length v) (4 * k) l
    ∙ ap (λ (x : ℕ). drop x l) next in
    sets-eq v (a ++ drop (4 * k) l) (4 * k) (omega arith)
    ∙ ap₂ (λ (x y : List ℕ). x ++ v ++ y) (take_at a (drop (4 * k) l) (4 * k) la) past
    ∙ ap (λ (x : List ℕ). x ++ drop (4 * (k + 1)) l) (sym (words_suc k f))

-- ---- read back

-- number j of c numbers that s begins with
pub num_words : (s : List ℕ) (c j : ℕ) (f : ℕ → ℕ) → take (4 * c) s ≡ words_of c f → j < c → f j < 2 ^ 32 → num_at 4 s (4 * j) ≡ f j
unfolding words_of
num_words s c j f e l b =
    sym (num_part_from 4 (4 * c) 0 s (4 * j) (omega arith) ∙ ap (num_at 4 s) (omega arith))
    ∙ ap (λ (x : List ℕ). num_at 4 x (4 * j)) e
    ∙ sym (num_part 4 4 (4 * j) (words_of c f) (omega arith))
    ∙ ap (λ (x : List ℕ). num_at 4 x 0) (joined_at 4 c j (λ i. bytes_of 4 (f i)) (λ i l. length-bytes_of 4 (f i)) l)
    ∙ num_bytes (f j) b

-- the floats that were written
pub floats_back : (s : List ℕ) (c j : ℕ) (g : ℕ → Float) → take (4 * c) s ≡ floats_of c g
    → T (fits binary32 (g j)) → j < c → f32_at s j ≡ g j
unfolding f32_at
floats_back s c j g e h l =
    ap (of_bits binary32) (num_words s c j (λ i. to_bits binary32 (g i)) e l (to_bits-lt binary32 (g j) h)) ∙ of_bits-to_bits binary32 (g j) h
