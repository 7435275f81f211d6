-- Laws of specs/Walk: records, the bounds that loops write, marks. Assumes nothing.
use mathlib.Core.Path.{◌≡◌, refl, sym, ap, ap₂, ◌∙◌}
use mathlib.Core.Bool.{Bool, false, ◌&&◌}
use Prim.Native.Nat.{ℕ, zero, suc, ◌+◌, ◌-◌, ◌*◌, ◌/◌, ◌%◌, ◌<◌, ◌≤◌, zero-le}
use mathlib.Core.List.{List, ◌∷◌, [], ◌++◌}
use native.Mathlib.Omega.{arith}
use native.Mathlib.Nat.{mul-le-mul, mul_comm, add-mul, zero-add, suc-add}
use lib.Dec.{T, ltb}
use lib.ListN.{length, take, drop}
use lib.Seq.{sets, length-sets, take-take, take_all, take-nil}
use lib.Ieee.{Float, is_nan, fits, to_bits, binary32}
use borrow.Author.Tests.{lt-ltb, ltb-false}
use Rattle.words.specs.Bytes.{bytes_of, words_of, floats_of, f32_at}
use Rattle.words.specs.Floats.{any_nan}
use Rattle.words.specs.Lists.{any_below, record_of}
use Rattle.words.specs.declared.metric.Metric.{Metric}
use Rattle.words.proofs.ByteLaws.{take-sets, put_part}
use borrow.Rule.Slice.PartMut.{put_mid, Post-is}
use Rattle.words.proofs.ListLaws.{any_ext}
use Rattle.words.proofs.WordsLaws.{length-words_of, words_ext, words_split, words_part, words_over, words_zero, floats_back}
use Rattle.code.specs.Code.{code_size}
use Rattle.block.specs.Block.{block_size}
use Rattle.estimate.specs.declared.Asked.TheVariants.{LowerBound}
use Rattle.estimate.specs.declared.Query.{Query}
use Rattle.estimate.specs.Record.{estimate_of, code_estimate, lane_estimate, lane_words}
use Rattle.estimate.proofs.EstimateLaws.{estimate-fits}
use Rattle.walk.specs.declared.layout.Layout.{Layout}
use Rattle.walk.specs.declared.layout.Layout.TheVariants.{Single, Blocks}
use Rattle.walk.specs.Walk.{records_size, bound_of, bound_words, out_of_range}

-- ---- records

pub record_end : (i n size total : ℕ) → i < n → total ≡ n * size → size * i + size ≤ total
record_end i n size total h e =
    let p : (i + 1) * size ≤ n * size = mul-le-mul (omega arith) (omega arith) in
    omega (arith, add-mul i 1 size, mul_comm size i)

-- each record of a layout lies within the records
pub code_end : (l : Layout) (dims n i size : ℕ) (rs : List ℕ) → l ≡ Single → length rs ≡ records_size l dims n → size ≡ code_size dims → i < n
    → size * i + size ≤ length rs
unfolding records_size
code_end l dims n i size rs el sized e h = record_end i n size (length rs) h (sized ∙ rw (el, e) refl)

pub block_end : (l : Layout) (dims n i size : ℕ) (rs : List ℕ) → l ≡ Blocks → length rs ≡ records_size l dims n → size ≡ block_size dims → i < (n + 31) / 32
    → size * i + size ≤ length rs
unfolding records_size
block_end l dims n i size rs el sized e h = record_end i ((n + 31) / 32) size (length rs) h (sized ∙ rw (el, e) refl)

-- ---- loops that write bounds

-- the bound of a single code
pub code_bound : (m : Metric) (v : Query) (qs rs code : List ℕ) (size i : ℕ) (x : Float) → size ≡ code_size (length qs) → code ≡ record_of size rs i
    → x ≡ code_estimate LowerBound m v qs code → x ≡ bound_of Single m v qs rs i
unfolding bound_of
code_bound m v qs rs code size i x es ec e = e ∙ rw (ec, es) refl

-- one block more: the b-th 32 numbers of f are those of g
blocks_more : (buf buf' : List ℕ) (b : ℕ) (f g : ℕ → ℕ) → 128 * b + 128 ≤ length buf → buf' ≡ sets buf (128 * b) (words_of 32 g)
    → ((k : ℕ) → k < 32 → g k ≡ f (32 * b + k)) → take (128 * b) buf ≡ words_of (32 * b) f
    → (take (128 * (b + 1)) buf' ≡ words_of (32 * (b + 1)) f) × (length buf' ≡ length buf)
blocks_more buf buf' b f g h e same w =
    let size = length-words_of 32 g in
    let at : 128 * (b + 1) ≡ 128 * b + length (words_of 32 g) = omega arith in
    let next : 32 * b + 32 ≡ 32 * (b + 1) = omega arith in
    rw e (
      ap (λ (x : ℕ). take x (sets buf (128 * b) (words_of 32 g))) at ∙ take-sets buf (128 * b) (words_of 32 g) (omega arith)
          ∙ ap₂ (λ (x y : List ℕ). x ++ y) w (words_ext 32 g (λ k. f (32 * b + k)) same)
          ∙ sym (words_split (32 * b) 32 f) ∙ ap (λ (x : ℕ). words_of x f) next,
      length-sets buf (128 * b) (words_of 32 g),
    )

-- lane k of block first + b is id 32 * first + (32 * b + k)
lane_bound : (m : Metric) (v : Query) (qs rs : List ℕ) (first b k : ℕ) → k < 32
    → lane_estimate LowerBound m v qs (record_of (block_size (length qs)) rs (first + b)) k ≡ bound_of Blocks m v qs rs (32 * first + (32 * b + k))
unfolding bound_of
lane_bound m v qs rs first b k h =
    let block : first + b ≡ (32 * first + (32 * b + k)) / 32 = omega arith in
    let lane : k ≡ (32 * first + (32 * b + k)) % 32 = omega arith in
    ap₂ (λ (x y : ℕ). lane_estimate LowerBound m v qs (record_of (block_size (length qs)) rs x) y) block lane

-- so the bounds of one block more
pub block_more : (m : Metric) (v : Query) (qs rs block buf out : List ℕ) (first b size : ℕ) → size ≡ block_size (length qs)
    → block ≡ record_of size rs (first + b) → out ≡ lane_words LowerBound m v qs block → 128 * b + 128 ≤ length buf
    → take (128 * b) buf ≡ floats_of (32 * b) (λ j. bound_of Blocks m v qs rs (32 * first + j))
    → take (128 * (b + 1)) (put_mid (128 * b) (128 * b + 128 - 128 * b) buf out) ≡ floats_of (32 * (b + 1)) (λ j. bound_of Blocks m v qs rs (32 * first + j))
unfolding lane_words
block_more m v qs rs block buf out first b size es eb eo h w =
    let g : ℕ → ℕ = λ k. to_bits binary32 (lane_estimate LowerBound m v qs (record_of (block_size (length qs)) rs (first + b)) k) in
    let e : out ≡ words_of 32 g = eo ∙ rw (eb, es) refl in
    (blocks_more buf _ b _ g h (rw e (put_part buf (128 * b) 128 (words_of 32 g) (length-words_of 32 g) h))
    (λ k l. ap (to_bits binary32) (lane_bound m v qs rs first b k l)) w).0

-- a part of what a list begins with
drop-take : (k n : ℕ) (l : List ℕ) → drop k (take (k + n) l) ≡ take n (drop k l)
drop-take zero n l = ap (λ (x : ℕ). take x l) (zero-add n)
drop-take (suc k) n [] = ap (drop (suc k)) (take-nil {A = ℕ} (suc k + n)) ∙ sym (take-nil n)
drop-take (suc k) n (x ∷ l) = ap (λ (y : ℕ). drop (suc k) (take y (x ∷ l))) (suc-add k n) ∙ drop-take k n l

pub part_of_front : (n k m : ℕ) (l : List ℕ) → k + m ≤ n → take m (drop k l) ≡ take m (drop k (take n l))
part_of_front n k m l h =
    let e : k + (n - k) ≡ n = omega arith in
    sym (ap (λ (x : ℕ). take m (drop k (take x l))) (sym e) ∙ ap (take m) (drop-take k (n - k) l) ∙ take-take m (n - k) (drop k l) (omega arith))

-- c ids from start on, among the lanes of the blocks that they reach into
pub wanted : (m : Metric) (v : Query) (qs rs : List ℕ) (start c : ℕ) (buf : List ℕ)
    → (let count = (start % 32 + c + 31) / 32 in take (128 * count) buf ≡ bound_words Blocks m v qs rs (32 * (start / 32)) (32 * count))
    → take (4 * (start % 32 + c) - 4 * (start % 32)) (drop (4 * (start % 32)) buf) ≡ bound_words Blocks m v qs rs start c
unfolding bound_words
wanted m v qs rs start c buf e =
    let f : ℕ → ℕ = λ j. to_bits binary32 (bound_of Blocks m v qs rs (32 * (start / 32) + j)) in
    let count = (start % 32 + c + 31) / 32 in
    let size : 4 * (start % 32 + c) - 4 * (start % 32) ≡ 4 * c = omega arith in
    ap (λ (n : ℕ). take n (drop (4 * (start % 32)) buf)) size
    ∙ part_of_front (128 * count) (4 * (start % 32)) (4 * c) buf (omega arith)
    ∙ ap (λ (x : List ℕ). take (4 * c) (drop (4 * (start % 32)) x)) e
    ∙ words_part (32 * count) (start % 32) c f (omega arith)
    ∙ words_ext c (λ j. f (start % 32 + j)) (λ j. to_bits binary32 (bound_of Blocks m v qs rs (start + j)))
    (λ j l. ap (λ (i : ℕ). to_bits binary32 (bound_of Blocks m v qs rs i)) (id j))
  where
    id : (j : ℕ) → 32 * (start / 32) + (start % 32 + j) ≡ start + j
    id j = omega arith

-- ---- NaN bounds

bound_fits : (l : Layout) (m : Metric) (v : Query) (qs rs : List ℕ) (i : ℕ) → T (fits binary32 (bound_of l m v qs rs i))
unfolding bound_of code_estimate lane_estimate estimate_of
bound_fits Single m v qs rs i = estimate-fits LowerBound m v _ _ _
bound_fits Blocks m v qs rs i = estimate-fits LowerBound m v _ _ _

-- they are read back from what was written
pub nans_back : (l : Layout) (m : Metric) (v : Query) (qs rs : List ℕ) (start c : ℕ) (bs : List ℕ) → bs ≡ bound_words l m v qs rs start c
    → any_nan c bs ≡ any_below c (λ j. is_nan (bound_of l m v qs rs (start + j)))
unfolding bound_words any_nan
nans_back l m v qs rs start c bs e =
    let size = ap length e ∙ length-words_of c (λ j. to_bits binary32 (bound_of l m v qs rs (start + j))) in
    let all = take_all (4 * c) bs (omega arith) ∙ e in
    any_ext (λ j. is_nan (f32_at bs j)) (λ j. is_nan (bound_of l m v qs rs (start + j))) c
    (λ j h. ap is_nan (floats_back bs c j (λ i. bound_of l m v qs rs (start + i)) all (bound_fits l m v qs rs (start + j)) h))

-- ---- lists

-- a list whose first n elements are written
pub put_front : (l vs : List ℕ) (n : ℕ) → put_mid 0 (n - 0) l vs ≡ vs ++ drop n l
put_front l vs n = ap (λ (r : List ℕ). vs ++ r) (Post-is 0 n l zero-le)

-- the ids from start on, before the first and after one more
pub no_ids : (ids : List ℕ) (start : ℕ) → ids ≡ words_of (start - start) (λ j. start + j) ++ drop (4 * (start - start)) ids
no_ids ids start =
    let z : start - start ≡ 0 = omega arith in
    rw z (sym (ap (λ (l : List ℕ). l ++ ids) (words_zero (λ j. start + j))))

pub id_more : (ids old : List ℕ) (start id : ℕ) → start ≤ id → 4 * (id - start) + 4 ≤ length old
    → ids ≡ words_of (id - start) (λ j. start + j) ++ drop (4 * (id - start)) old
    → sets ids (4 * (id - start)) (bytes_of 4 id) ≡ words_of (id + 1 - start) (λ j. start + j) ++ drop (4 * (id + 1 - start)) old
id_more ids old start id h room e =
    let n = id - start in
    let here : id ≡ start + n = omega arith in
    let next : id + 1 - start ≡ n + 1 = omega arith in
    let one = λ (x : ℕ). sets (words_of n (λ j. start + j) ++ drop (4 * n) old) (4 * n) (bytes_of 4 x) in
    rw (e, next) (ap one here ∙ words_over old n (λ j. start + j) room)

-- ---- the range

pub range_inside : (n start end : ℕ) → out_of_range n start end ≡ false → 0 < end - start → start + (end - start) ≤ n
unfolding out_of_range
range_inside n start end e h =
    let s : start < end = omega arith in
    let r : ltb n end ≡ false = ap (λ (b : Bool). b && ltb n end) (sym (lt-ltb start end s)) ∙ e in
    omega (arith, ltb-false n end r)
