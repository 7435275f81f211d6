-- The estimate of a record in bytes: of a single code, and of a lane of a block.
use Rattle.std.specs.Prelude.{ℕ, ◌+◌, List, Float}
use Rattle.words.specs.Bytes.{f32_at, floats_of}
use Rattle.words.specs.declared.metric.Metric.{Metric}
use Rattle.code.specs.declared.parts.reader.Factors.{Factors}
use Rattle.code.specs.Code.{code_bit}
use Rattle.code.specs.Reader.{factors_at}
use Rattle.block.specs.Block.{lane_bit}
use Rattle.sums.specs.Sums.{plain_sum, query_sum}
use Rattle.estimate.specs.declared.Asked.{Asked}
use Rattle.estimate.specs.declared.Query.{Query}
use Rattle.estimate.specs.Estimate.{estimate}

-- of a record with the factors f and the bits b: S is the sum of the query codes qs at the set bits, Q that of all of them
unfoldable pub estimate_of : Asked → Metric → Query → List ℕ → Factors → (ℕ → ℕ) → Float
estimate_of w m v qs f b = estimate w m v f (plain_sum qs b) (query_sum qs)

-- of a single code
unfoldable pub code_estimate : Asked → Metric → Query → List ℕ → List ℕ → Float
code_estimate w m v qs code = estimate_of w m v qs (factors_at code) (code_bit code)

-- 32 dis_u_2, 32 factor_ppc, 32 factor_ip, 32 factor_err
abbrev pub lane_factors : List ℕ → ℕ → Factors
lane_factors block k = record {
  dis_u_2 = f32_at block k;
  factor_ppc = f32_at block (32 + k);
  factor_ip = f32_at block (64 + k);
  factor_err = f32_at block (96 + k);
}

-- of lane k of a block
unfoldable pub lane_estimate : Asked → Metric → Query → List ℕ → List ℕ → ℕ → Float
lane_estimate w m v qs block k = estimate_of w m v qs (lane_factors block k) (lane_bit block k)

-- the estimates of the 32 lanes, lane 0 first, four bytes each
unfoldable pub lane_words : Asked → Metric → Query → List ℕ → List ℕ → List ℕ
lane_words w m v qs block = floats_of 32 (lane_estimate w m v qs block)
