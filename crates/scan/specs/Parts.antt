-- What the scan of the reranker's lists asks and promises. No public promise cites this file.
use Rattle.std.specs.Prelude.{◌≡◌, Bool, cond, List, ℕ, zero, suc, ◌+◌, ◌-◌, ◌*◌, ◌%◌, ◌<◌, ◌≤◌, min, eqb, leb, ltb, get_or, Some, None}
use Rattle.std.specs.declared.option.Option.{Option}
use Rattle.std.specs.Float.{binary32}
use Rattle.std.specs.Float.Ieee.{nan_bits}
use Rattle.words.specs.Bytes.{num_at}
use Rattle.words.specs.Limits.{most_mark}
use Rattle.words.specs.Sums.{sum_to}
use Rattle.scan.specs.Lists.{Places}
use Rattle.scan.specs.declared.pass.Keys.{Keys}
use Rattle.scan.specs.declared.pass.Least.{Least}
use Rattle.scan.specs.declared.pass.Scan.{Scan}

-- the places of a stretch, which are counted in bytes
abbrev pub stretch_places : ℕ
stretch_places = 128

-- a whole number for each float's bits, in the order of the floats: 2^31 for both zeros
unfoldable pub key_of : ℕ → ℕ
key_of u = cond (ltb u 0x8000_0000) (0x8000_0000 + u) (0x8000_0000 - u % 0x8000_0000)

-- above every key of a number
abbrev pub no_key : ℕ
no_key = 0xFFFF_FFFF

abbrev pub key_if : Bool → ℕ → ℕ
key_if b u = cond b (key_of u) no_key

-- the key of place i of a list, where its mark is k
unfoldable pub key_at : ℕ → List ℕ → List ℕ → ℕ → ℕ
key_at k s m i = key_if (eqb (get_or m i 0) k) (num_at 4 s (4 * i))

-- the keys of the waiting places, and of the asked ones
abbrev pub waiting_key : Places → ℕ → ℕ
waiting_key l = key_at 0 l.estimates l.marks

abbrev pub asked_key : Places → ℕ → ℕ
asked_key l = key_at 1 l.distances l.marks

-- the least of g 0, .., g (n - 1)
unfoldable pub least_key : ℕ → (ℕ → ℕ) → ℕ
least_key zero g = no_key
least_key (suc n) g = min (least_key n g) (g n)

-- how many NaNs a place of the mark m has, where none may be: its estimate, and its distance where it is asked
abbrev pub nan_one : ℕ → ℕ
nan_one u = cond (nan_bits binary32 u) 1 0

unfoldable pub lacks : ℕ → ℕ → ℕ → ℕ
lacks m e d = nan_one e + cond (eqb m 1) (nan_one d) 0

unfoldable pub lack_at : Places → ℕ → ℕ
lack_at l i = lacks (get_or l.marks i 0) (num_at 4 l.estimates (4 * i)) (num_at 4 l.distances (4 * i))

-- 1 where the mark is above the greatest, and where it is not 0
abbrev pub above_most : ℕ → ℕ
above_most m = cond (leb m most_mark) 0 1

abbrev pub not_zero : ℕ → ℕ
not_zero m = cond (eqb m 0) 0 1

-- what is known of the places below i
pub record KeysTo (l : Places) (i : ℕ) (s : Keys) : Type 0 where
  pub missing : s.missing ≡ sum_to i (lack_at l)
  pub waiting : s.waiting ≡ least_key i (waiting_key l)
  pub asked : s.asked ≡ least_key i (asked_key l)

-- and of the marks from one place up to another: how many are above the greatest, and how many are not 0
pub record CountsOf (m : List ℕ) (from to bad count : ℕ) : Type 0 where
  pub bad_is : sum_to to (λ i. above_most (get_or m i 0)) ≡ sum_to from (λ i. above_most (get_or m i 0)) + bad
  pub count_is : sum_to to (λ i. not_zero (get_or m i 0)) ≡ sum_to from (λ i. not_zero (get_or m i 0)) + count
  pub few_bad : bad + from ≤ to
  pub few : count + from ≤ to

-- the least key of the places below i; no place before the stretch that starts at x.from has it
pub record LeastTo (g : ℕ → ℕ) (i : ℕ) (x : Least) : Type 0 where
  pub key : x.key ≡ least_key i g
  pub ahead : (q : ℕ) → q < x.from → x.key < g q

pub record ScanTo (l : Places) (i : ℕ) (s : Scan) : Type 0 where
  pub missing : s.missing ≡ sum_to i (lack_at l)
  pub bad : s.bad ≡ sum_to i (λ j. above_most (get_or l.marks j 0))
  pub count : s.count ≡ sum_to i (λ j. not_zero (get_or l.marks j 0))
  pub waiting : LeastTo (waiting_key l) i s.waiting
  pub asked : LeastTo (asked_key l) i s.asked

-- the least key of n places, where one of them has a key
abbrev pub LeastOf : (ℕ → ℕ) → ℕ → Option Least → Type 0
LeastOf g n None = least_key n g ≡ no_key
LeastOf g n (Some x) = (x.key < no_key) × LeastTo g n x

-- the first place from `from` on whose key this is, if there is one
abbrev pub FirstAt : (ℕ → ℕ) → ℕ → ℕ → ℕ → Option ℕ → Type 0
FirstAt g from n key None = (q : ℕ) → from ≤ q → q < n → g q ≡ key → ⊥
FirstAt g from n key (Some p) = (p < n) × (g p ≡ key) × ((q : ℕ) → from ≤ q → q < p → g q ≡ key → ⊥)

-- the first of all places whose key this is
pub record FirstPlace (g : ℕ → ℕ) (n key p : ℕ) : Type 0 where
  pub inside : p < n
  pub here : g p ≡ key
  pub none_before : (q : ℕ) → q < p → g q ≡ key → ⊥
