-- Demand 1: any bytes, numbers and call order are met with an answer. Bad input gets one refusal number of the paper's table, and a refused
-- call changes no byte of any buffer it was lent. The functions of crates/lintelkite require nothing, and each is proved to give the answer
-- named here for every input. So what is said of the answer is said of the function.
use Rattle.std.specs.Prelude.{◌≡◌, ℕ, Bool, true, false, ◌||◌, List, [], ◌∷◌, eqb, Float}
use Rattle.digits.specs.Calls as digits
use Rattle.scalar.specs.Calls as scalar
use Rattle.root.specs.Calls as root
use Rattle.code.specs.Calls as single
use Rattle.block.specs.Calls as blocks
use Rattle.sums.specs.Calls as sums
use Rattle.estimate.specs.declared.Asked.{Asked}
use Rattle.estimate.specs.declared.Query.{Query}
use Rattle.estimate.specs.Calls as estimates
use Rattle.walk.specs.Walk as walks
use Rattle.rerank.specs.Calls as rerank

-- n is one of the numbers
abbrev pub one_of : ℕ → List ℕ → Bool
one_of n [] = false
one_of n (m ∷ ms) = eqb n m || one_of n ms

pub record Listed (numbers : List ℕ) (n : ℕ) : Type 0 where
  pub one : one_of n numbers ≡ true

-- the answer of a call with one writable buffer: 0 or one of the call's numbers, and a refusal leaves the buffer as it was
pub record Meets (numbers old : List ℕ) (answer : ℕ × List ℕ) : Type 0 where
  pub listed : Listed (0 ∷ numbers) answer.0
  pub kept : (answer.0 ≡ 0 → ⊥) → answer.1 ≡ old

-- with two, three and four
pub record Meets2 (numbers old₁ old₂ : List ℕ) (answer : ℕ × List ℕ × List ℕ) : Type 0 where
  pub listed : Listed (0 ∷ numbers) answer.0
  pub kept : (answer.0 ≡ 0 → ⊥) → (answer.1 ≡ old₁) × (answer.2 ≡ old₂)

pub record Meets3 (numbers old₁ old₂ old₃ : List ℕ) (answer : ℕ × List ℕ × List ℕ × List ℕ) : Type 0 where
  pub listed : Listed (0 ∷ numbers) answer.0
  pub kept : (answer.0 ≡ 0 → ⊥) → (answer.1 ≡ old₁) × (answer.2 ≡ old₂) × (answer.3 ≡ old₃)

pub record Meets4 (numbers old₁ old₂ old₃ old₄ : List ℕ) (answer : ℕ × List ℕ × List ℕ × List ℕ × List ℕ) : Type 0 where
  pub listed : Listed (0 ∷ numbers) answer.0
  pub kept : (answer.0 ≡ 0 → ⊥) → (answer.1 ≡ old₁) × (answer.2 ≡ old₂) × (answer.3 ≡ old₃) × (answer.4 ≡ old₄)

-- each call with the numbers that it can give. lk_code_rough and lk_code_lower_bound are the two cases of `asked`, and so are the block's
pub record Demand1 : Type 0 where
  pub lk_digits_size : (dims bits : ℕ) (out : List ℕ) → Meets (1 ∷ 2 ∷ 3 ∷ []) out (digits.size_answer dims bits out)
  pub lk_code_size : (dims : ℕ) (out : List ℕ) → Meets (1 ∷ 3 ∷ []) out (single.size_answer dims out)
  pub lk_block_size : (dims : ℕ) (out : List ℕ) → Meets (1 ∷ 3 ∷ []) out (blocks.size_answer dims out)
  pub lk_digits_pack : (dims bits : ℕ) (codes out : List ℕ) → Meets (1 ∷ 2 ∷ 3 ∷ 5 ∷ []) out (digits.pack_answer dims bits codes out)
  pub lk_digits_read : (dims bits : ℕ) (packed : List ℕ) (index : ℕ) (out : List ℕ)
      → Meets (1 ∷ 2 ∷ 3 ∷ 6 ∷ []) out (digits.read_answer dims bits packed index out)
  pub lk_scalar_encode : (dims bits : ℕ) (vector lo hi out : List ℕ)
      → Meets (1 ∷ 2 ∷ 3 ∷ 4 ∷ 5 ∷ []) out (scalar.encode_answer dims bits vector lo hi out)
  pub lk_scalar_table : (metric dims bits : ℕ) (vector lo hi out : List ℕ)
      → Meets (1 ∷ 2 ∷ 3 ∷ 4 ∷ 5 ∷ []) out (scalar.table_answer metric dims bits vector lo hi out)
  pub lk_scalar_distance : (metric dims bits : ℕ) (table packed out : List ℕ)
      → Meets (1 ∷ 2 ∷ 3 ∷ 5 ∷ 8 ∷ []) out (scalar.distance_answer metric dims bits table packed out)
  pub lk_root : (x : Float) (out : List ℕ) → Meets (3 ∷ 4 ∷ []) out (root.root_answer x out)
  pub lk_code_encode : (dims : ℕ) (factors vector out : List ℕ) → Meets (1 ∷ 3 ∷ 4 ∷ []) out (single.encode_answer dims factors vector out)
  pub lk_code_bit : (dims : ℕ) (code : List ℕ) (index : ℕ) (out : List ℕ) → Meets (1 ∷ 3 ∷ 6 ∷ []) out (single.bit_answer dims code index out)
  pub lk_block_pack : (dims : ℕ) (codes out : List ℕ) → Meets (1 ∷ 3 ∷ []) out (blocks.pack_answer dims codes out)
  pub lk_block_lane : (dims : ℕ) (block : List ℕ) (lane : ℕ) (out : List ℕ) → Meets (1 ∷ 3 ∷ 6 ∷ []) out (blocks.lane_answer dims block lane out)
  pub lk_query_sum : (dims : ℕ) (query out : List ℕ) → Meets (1 ∷ 3 ∷ 5 ∷ []) out (sums.query_sum_answer dims query out)
  pub lk_code_sum : (dims : ℕ) (query code out : List ℕ) → Meets (1 ∷ 3 ∷ 5 ∷ []) out (sums.code_sum_answer dims query code out)
  pub lk_block_sums : (dims : ℕ) (query block out : List ℕ) → Meets (1 ∷ 3 ∷ 5 ∷ []) out (sums.block_sums_answer dims query block out)
  pub lk_code_estimate : (asked : Asked) (metric dims : ℕ) (v : Query) (query code out : List ℕ)
      → Meets (1 ∷ 3 ∷ 4 ∷ 5 ∷ 8 ∷ []) out (estimates.code_answer asked metric dims v query code out)
  pub lk_block_estimates : (asked : Asked) (metric dims : ℕ) (v : Query) (query block out : List ℕ)
      → Meets (1 ∷ 3 ∷ 4 ∷ 5 ∷ []) out (estimates.block_answer asked metric dims v query block out)
  pub lk_walk : (metric layout dims : ℕ) (v : Query) (query records : List ℕ) (n start end : ℕ) (ids bounds marks count : List ℕ)
      → Meets4 (1 ∷ 3 ∷ 4 ∷ 5 ∷ 6 ∷ 7 ∷ 8 ∷ []) ids bounds marks count
      (walks.walk_answer metric layout dims v query records n start end ids bounds marks count)
  pub lk_rerank_next : (estimates distances marks out : List ℕ)
      → Meets2 (3 ∷ 4 ∷ 5 ∷ []) marks out (rerank.next_answer estimates distances marks out)
  pub lk_rerank_supply : (estimates distances marks : List ℕ) (place : ℕ) (distance : Float) (out : List ℕ)
      → Meets3 (3 ∷ 4 ∷ 5 ∷ 9 ∷ []) distances marks out (rerank.supply_answer estimates distances marks place distance out)
