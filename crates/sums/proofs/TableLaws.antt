-- Module 6's nibble table: the sum of the entries that a record's nibbles pick is the plain sum over its bits. Assumes nothing.
use mathlib.Core.Path.{◌≡◌, sym, ap, ap₂, ◌∙◌}
use Prim.Native.Nat.{ℕ, ◌+◌, ◌*◌, ◌/◌, ◌%◌, ◌^◌, ◌<◌}
use mathlib.Core.List.{List}
use native.Mathlib.Omega.{arith}
use native.Mathlib.Nat.{zero-add, mod-lt}
use lib.Dec.{lit<}
use lib.ListN.{length, get_or, drop}
use lib.Seq.{get_or-drop}
use Rattle.words.specs.Digits.{bit}
use Rattle.words.proofs.SumLaws.{sum_ext, sum-none, sum_more}
use Rattle.words.proofs.ListLaws.{length-tabulate, tabulate-at}
use Rattle.block.specs.Block.{block_groups, lane_nibble, lane_bit}
use Rattle.block.proofs.LaneLaws.{lane_bit-lt}
use Rattle.sums.specs.Sums.{plain_sum, nibble_bit, groups_nibble, group_sum, table_of, table_count, QueryCodes}
use Rattle.sums.specs.Parts.{Table, groups_sum, Scanned, LaneSums}
use Rattle.sums.proofs.PlainLaws.{plain_ext, plain_le}
use Rattle.sums.proofs.GroupLaws.{groups_plain}

pub groups_nibble-lt : (groups : List ℕ) (k g : ℕ) → groups_nibble groups k g < 16
unfolding groups_nibble
groups_nibble-lt groups k g = mod-lt (get_or groups (16 * g + k % 16) 0 / 16 ^ (k / 16)) (lit< tt)

-- a block's bytes after its factors
pub groups_of_block : (block : List ℕ) (k g : ℕ) → groups_nibble (drop 512 block) k g ≡ lane_nibble block k g
unfolding groups_nibble lane_nibble
groups_of_block block k g =
    let e : 512 + (16 * g + k % 16) ≡ 512 + 16 * g + k % 16 = omega arith in
    ap (λ (x : ℕ). x / 16 ^ (k / 16) % 16) (get_or-drop 512 block (16 * g + k % 16) 0 ∙ ap (λ (x : ℕ). get_or block x 0) e)

-- ---- the count

pub count_none : (t : List ℕ) (m : ℕ → ℕ) → table_count t m 0 ≡ 0
unfolding table_count
count_none t m = sum-none (λ g. get_or t (16 * g + m g) 0)

pub count_more : (t : List ℕ) (m : ℕ → ℕ) (n : ℕ) → table_count t m (n + 1) ≡ table_count t m n + get_or t (16 * n + m n) 0
unfolding table_count
count_more t m n = sum_more n (λ g. get_or t (16 * g + m g) 0)

-- of a query's table
pub count_plain : (qs t : List ℕ) (m : ℕ → ℕ) → Table qs t → ((g : ℕ) → m g < 16) → table_count t m (block_groups (length qs)) ≡ plain_sum qs (nibble_bit m)
unfolding table_count groups_sum
count_plain qs t m table small =
    sum_ext (block_groups (length qs)) (λ g. get_or t (16 * g + m g) 0) (λ g. group_sum qs (0 + g) (m (0 + g)))
    (λ g l. table.each (16 * g + m g) (inside g l) ∙ ap₂ (group_sum qs) (high g) (low g) ∙ ap (λ (x : ℕ). group_sum qs x (m x)) (sym (zero-add g)))
    ∙ groups_plain qs m (block_groups (length qs)) (omega arith)
  where
    inside : (g : ℕ) → g < block_groups (length qs) → 16 * g + m g < 16 * block_groups (length qs)
    inside g l = omega (arith, small g)

    high : (g : ℕ) → (16 * g + m g) / 16 ≡ g
    high g = omega (arith, small g)

    low : (g : ℕ) → (16 * g + m g) % 16 ≡ m g
    low g = omega (arith, small g)

-- the table as the paper has it
pub table_of_lem : (qs : List ℕ) → Table qs (table_of qs)
unfolding table_of
table_of_lem qs = record {
  room = omega (arith, length-tabulate (16 * block_groups (length qs)) (λ i. group_sum qs (i / 16) (i % 16)));
  each = λ i l. tabulate-at (16 * block_groups (length qs)) (λ i. group_sum qs (i / 16) (i % 16)) i l;
}

-- the lanes of a block
pub scanned_plain : (qs t block : List ℕ) {s : List ℕ} → QueryCodes qs → Table qs t
    → Scanned t (drop 512 block) (block_groups (length qs)) s → LaneSums qs block s
unfolding nibble_bit lane_bit
scanned_plain qs t block {s} q table held = record {
  sums = record { long = held.long; each = plain };
  most = λ k h. omega (arith, plain k h, plain_le qs (lane_bit block k) q (lane_bit-lt block k));
}
  where
    same : (k d : ℕ) → nibble_bit (groups_nibble (drop 512 block) k) d ≡ lane_bit block k d
    same k d = ap (λ (x : ℕ). bit x (d % 4)) (groups_of_block block k (d / 4))

    plain : (k : ℕ) → k < 32 → get_or s k 0 ≡ plain_sum qs (lane_bit block k)
    plain k h =
        held.each k h ∙ count_plain qs t (groups_nibble (drop 512 block) k) table (groups_nibble-lt (drop 512 block) k)
        ∙ plain_ext qs (nibble_bit (groups_nibble (drop 512 block) k)) (lane_bit block k) (λ d _. same k d)
