-- Demand 1 holds. Assumes nothing.
use mathlib.Core.Path.{◌≡◌, refl}
use Prim.Native.Nat.{ℕ, zero, suc, ◌*◌, ◌-◌, ◌+◌}
use mathlib.Core.Bool.{Bool, true, false, not, ◌||◌, cond}
use mathlib.Core.List.{List, [], ◌∷◌}
use lib.Dec.{leb, ltb}
use lib.ListN.{length}
use lib.Ieee.{Float, is_nan}
use Rattle.std.specs.Prelude.{is_none}
use Rattle.words.specs.Floats.{missing}
use Rattle.words.specs.Limits.{most_dims, most_scalar_dims, top_code}
use Rattle.words.specs.Lists.{any_below, any_above}
use Rattle.words.specs.Metrics.{metric_of}
use Rattle.words.specs.Refusals.{answer, or_else, bad_dims, bad_length, bad_lists, bad_form, size_number, size_answer}
use Rattle.words.proofs.RefusalLaws.{after_refused}
use Rattle.digits.specs.Digits.{is_width, top, packed_size}
use Rattle.digits.specs.Calls as digits
use Rattle.scalar.specs.Table.{table_size, sum_of}
use Rattle.scalar.specs.Calls as scalar
use Rattle.root.specs.Root.{root_of}
use Rattle.root.specs.Calls as root
use Rattle.code.specs.Code.{code_size}
use Rattle.code.specs.Calls as single
use Rattle.block.specs.Block.{block_size}
use Rattle.block.specs.Calls as blocks
use Rattle.sums.specs.Calls as sums
use Rattle.estimate.specs.declared.Query.{Query}
use Rattle.estimate.specs.Record.{code_estimate}
use Rattle.estimate.specs.Calls as estimates
use Rattle.walk.specs.Walk as walks
use Rattle.rerank.specs.Rerank.{State, asks_for, bad_mark, next_refusal, supply_refusal}
use Rattle.rerank.specs.Rerank as rule
use Rattle.rerank.specs.Calls as rerank
use Rattle.paper.specs.Demand1.{one_of, Listed, Meets, Demand1}

-- ---- an answer, by its number alone

meets : {numbers : List ℕ} {n : ℕ} (old new : List ℕ) → Listed (0 ∷ numbers) n → Meets numbers old (answer n old new)
unfolding answer
meets {numbers} {n} old new h = record { listed = h; kept = λ e. after_refused n old new e }

-- a number of the list
at : {numbers : List ℕ} {n : ℕ} → one_of n numbers ≡ true → Listed numbers n
at h = record { one = h }

-- a row of a table
row : {numbers : List ℕ} {n rest : ℕ} (b : Bool) → Listed numbers n → Listed numbers rest → Listed numbers (cond b n rest)
row true h k = h
row false h k = k

-- one table, and where it has no refusal another
joint : {numbers : List ℕ} (a b : ℕ) → Listed numbers a → Listed numbers b → Listed numbers (or_else a b)
unfolding or_else
joint zero b h k = k
joint (suc a) b h k = h

-- ---- the tables that several calls share

sized : {numbers : List ℕ} (dims : ℕ) (out : List ℕ) → Listed numbers 1 → Listed numbers 3 → Listed numbers 0 → Listed numbers (size_number dims out)
unfolding size_number
sized dims out h1 h3 h0 = row (bad_dims most_dims dims) h1 (row (bad_length out 4) h3 h0)

vectors : (dims : ℕ) (vector lo hi : List ℕ) (other form : Bool) → Listed (0 ∷ 1 ∷ 2 ∷ 3 ∷ 4 ∷ 5 ∷ []) (scalar.vectors_number dims vector lo hi other form)
vectors dims vector lo hi other form =
    row (scalar.bad_vectors dims vector lo hi || other) (at refl)
    (row (scalar.any_missing dims vector lo hi) (at refl) (row (scalar.above_max dims lo hi || form) (at refl) (at refl)))

summed : (dims : ℕ) (query : List ℕ) (other : Bool) → Listed (0 ∷ 1 ∷ 3 ∷ 5 ∷ []) (sums.sum_number dims query other)
unfolding sums.sum_number
summed dims query other =
    row (bad_dims most_dims dims) (at refl) (row (bad_length query dims || other) (at refl) (row (any_above top_code query) (at refl) (at refl)))

queried : {numbers : List ℕ} (dims : ℕ) (other : Bool) (v : Query) (query : List ℕ) (form : Bool)
    → Listed numbers 1 → Listed numbers 3 → Listed numbers 4 → Listed numbers 5 → Listed numbers 0
    → Listed numbers (estimates.query_number dims other v query form)
unfolding estimates.query_number
queried dims other v query form h1 h3 h4 h5 h0 =
    row (bad_dims most_dims dims) h1
    (row (bad_length query dims || other) h3 (row (estimates.missing_query v) h4 (row (form || estimates.bad_query v query) h5 h0)))

ruled : {numbers : List ℕ} (s : State) → Listed numbers 4 → Listed numbers 5 → Listed numbers 0 → Listed numbers (next_refusal s)
unfolding next_refusal
ruled s h4 h5 h0 = row (rule.missing s) h4 (row (bad_mark s) h5 h0)

-- ---- the modules

module_1 :
    ((dims bits : ℕ) (out : List ℕ) → Meets (1 ∷ 2 ∷ 3 ∷ []) out (digits.size_answer dims bits out))
    × ((dims bits : ℕ) (codes out : List ℕ) → Meets (1 ∷ 2 ∷ 3 ∷ 5 ∷ []) out (digits.pack_answer dims bits codes out))
    × ((dims bits : ℕ) (packed : List ℕ) (index : ℕ) (out : List ℕ) → Meets (1 ∷ 2 ∷ 3 ∷ 6 ∷ []) out (digits.read_answer dims bits packed index out))
unfolding digits.size_answer digits.size_number digits.pack_answer digits.pack_number digits.read_answer digits.read_number
module_1 = (
  λ dims bits out.
      meets _ _ (row (bad_dims most_scalar_dims dims) (at refl) (row (not (is_width bits)) (at refl) (row (bad_length out 4) (at refl) (at refl)))),
  λ dims bits codes out.
      meets _ _ (row (bad_dims most_scalar_dims dims) (at refl) (row (not (is_width bits)) (at refl)
      (row (bad_length codes dims || bad_length out (packed_size bits dims)) (at refl) (row (any_above (top bits) codes) (at refl) (at refl))))),
  λ dims bits packed index out.
      meets _ _ (row (bad_dims most_scalar_dims dims) (at refl) (row (not (is_width bits)) (at refl)
      (row (bad_length packed (packed_size bits dims) || bad_length out 4) (at refl) (row (leb dims index) (at refl) (at refl))))),
)

module_2 :
    ((dims bits : ℕ) (vector lo hi out : List ℕ) → Meets (1 ∷ 2 ∷ 3 ∷ 4 ∷ 5 ∷ []) out (scalar.encode_answer dims bits vector lo hi out))
    × ((metric dims bits : ℕ) (vector lo hi out : List ℕ) → Meets (1 ∷ 2 ∷ 3 ∷ 4 ∷ 5 ∷ []) out (scalar.table_answer metric dims bits vector lo hi out))
    × ((metric dims bits : ℕ) (table packed out : List ℕ) → Meets (1 ∷ 2 ∷ 3 ∷ 5 ∷ 8 ∷ []) out (scalar.distance_answer metric dims bits table packed out))
unfolding scalar.encode_answer scalar.encode_number scalar.table_answer scalar.table_number scalar.distance_answer
module_2 = (
  λ dims bits vector lo hi out.
      meets _ _ (row (bad_dims most_scalar_dims dims) (at refl) (row (not (is_width bits)) (at refl)
      (vectors dims vector lo hi (bad_length out (packed_size bits dims)) false))),
  λ metric dims bits vector lo hi out.
      meets _ _ (row (bad_dims most_scalar_dims dims) (at refl) (row (not (is_width bits)) (at refl)
      (vectors dims vector lo hi (bad_length out (table_size bits dims)) (bad_form metric)))),
  λ metric dims bits table packed out.
      meets _ _ (row (bad_dims most_scalar_dims dims) (at refl) (row (not (is_width bits)) (at refl)
      (row (bad_length table (table_size bits dims) || bad_length packed (packed_size bits dims) || bad_length out 4) (at refl)
      (row (bad_form metric) (at refl) (row (is_nan (sum_of bits dims table packed)) (at refl) (at refl)))))),
)

modules_3_4_5 :
    ((x : Float) (out : List ℕ) → Meets (3 ∷ 4 ∷ []) out (root.root_answer x out))
    × ((dims : ℕ) (factors vector out : List ℕ) → Meets (1 ∷ 3 ∷ 4 ∷ []) out (single.encode_answer dims factors vector out))
    × ((dims : ℕ) (code : List ℕ) (index : ℕ) (out : List ℕ) → Meets (1 ∷ 3 ∷ 6 ∷ []) out (single.bit_answer dims code index out))
    × ((dims : ℕ) (codes out : List ℕ) → Meets (1 ∷ 3 ∷ []) out (blocks.pack_answer dims codes out))
    × ((dims : ℕ) (block : List ℕ) (lane : ℕ) (out : List ℕ) → Meets (1 ∷ 3 ∷ 6 ∷ []) out (blocks.lane_answer dims block lane out))
unfolding root.root_answer root.root_number single.encode_answer single.encode_number single.bit_answer single.bit_number blocks.pack_answer
    blocks.pack_number blocks.lane_answer blocks.lane_number
modules_3_4_5 = (
  λ x out. meets _ _ (row (bad_length out 4) (at refl) (row (is_none (root_of x)) (at refl) (at refl))),
  λ dims factors vector out.
      meets _ _ (row (bad_dims most_dims dims) (at refl)
      (row (bad_length factors 16 || bad_length vector (4 * dims) || bad_length out (code_size dims)) (at refl) (row (missing dims vector) (at refl) (at refl)))),
  λ dims code index out.
      meets _ _ (row (bad_dims most_dims dims) (at refl)
      (row (bad_length code (code_size dims) || bad_length out 4) (at refl) (row (leb dims index) (at refl) (at refl)))),
  λ dims codes out.
      meets _ _ (row (bad_dims most_dims dims) (at refl) (row (bad_length codes (32 * code_size dims) || bad_length out (block_size dims)) (at refl) (at refl))),
  λ dims block lane out.
      meets _ _ (row (bad_dims most_dims dims) (at refl)
      (row (bad_length block (block_size dims) || bad_length out (code_size dims)) (at refl) (row (ltb 31 lane) (at refl) (at refl)))),
)

pub demand_1 : Demand1
unfolding size_answer sums.query_sum_answer sums.code_sum_answer sums.block_sums_answer estimates.code_answer estimates.code_number
    estimates.block_answer estimates.record_number walks.walk_answer walks.walk_number walks.range_number rerank.next_answer rerank.next_number
    rerank.supply_answer rerank.supply_number supply_refusal
demand_1 =
    record {
      lk_digits_size = module_1.0;
      lk_code_size = λ dims out. meets _ _ (sized dims out (at refl) (at refl) (at refl));
      lk_block_size = λ dims out. meets _ _ (sized dims out (at refl) (at refl) (at refl));
      lk_digits_pack = module_1.1;
      lk_digits_read = module_1.2;
      lk_scalar_encode = module_2.0;
      lk_scalar_table = module_2.1;
      lk_scalar_distance = module_2.2;
      lk_root = modules_3_4_5.0;
      lk_code_encode = modules_3_4_5.1;
      lk_code_bit = modules_3_4_5.2;
      lk_block_pack = modules_3_4_5.3;
      lk_block_lane = modules_3_4_5.4;
      lk_query_sum = λ dims query out. meets _ _ (summed dims query (bad_length out 4));
      lk_code_sum = λ dims query code out. meets _ _ (summed dims query (bad_length code (code_size dims) || bad_length out 4));
      lk_block_sums = λ dims query block out. meets _ _ (summed dims query (bad_length block (block_size dims) || bad_length out 128));
      lk_code_estimate = λ asked metric dims v query code out.
          meets _ _ (joint _ _
          (queried dims (bad_length code (code_size dims) || bad_length out 4) v query (bad_form metric) (at refl) (at refl) (at refl) (at refl) (at refl))
          (row (is_nan (code_estimate asked (metric_of metric) v query code)) (at refl) (at refl)));
      lk_block_estimates = λ asked metric dims v query block out.
          meets _ _
          (queried dims (bad_length block (block_size dims) || bad_length out 128) v query (bad_form metric) (at refl) (at refl) (at refl) (at refl) (at refl));
      lk_walk = λ metric layout dims v query records n start end ids bounds marks count.
          let number = walks.walk_number metric layout dims v query records n start end ids bounds marks count in
          record {
            listed = joint _ _
                (queried dims
                (walks.bad_lengths layout dims n (length records) (walks.bad_outs (length ids) (length bounds) (length marks) (length count))) v query
                (bad_form metric || bad_form layout) (at refl) (at refl) (at refl) (at refl) (at refl))
                (joint _ _ (row (walks.out_of_range n start end) (at refl) (row (ltb (length marks) (end - start)) (at refl) (at refl)))
                (row (any_below (end - start) (λ j. is_nan (walks.bound_of (walks.layout_of layout) (metric_of metric) v query records (start + j)))) (at refl)
                (at refl)));
            kept = λ e. (after_refused number ids _ e, after_refused number bounds _ e, after_refused number marks _ e, after_refused number count _ e);
          };
      lk_rerank_next = λ estimates distances marks out.
          let number = rerank.next_number estimates distances marks out in
          record {
            listed = row (bad_lists (length estimates) (length distances) (length marks) || bad_length out 16) (at refl) (ruled _ (at refl) (at refl) (at refl));
            kept = λ e. (after_refused number marks _ e, after_refused number out _ e);
          };
      lk_rerank_supply = λ estimates distances marks place distance out.
          let number = rerank.supply_number estimates distances marks place distance out in
          let state = rerank.state_of estimates distances marks in
          record {
            listed = row (bad_lists (length estimates) (length distances) (length marks) || bad_length out 4) (at refl)
                (row (rule.missing state || is_nan distance) (at refl)
                (row (bad_mark state) (at refl) (row (asks_for (rule.answer_of state) place) (at refl) (at refl))));
            kept = λ e. (after_refused number distances _ e, after_refused number marks _ e, after_refused number out _ e);
          };
    }
