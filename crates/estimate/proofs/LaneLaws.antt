-- A lane of a block gives the estimate of its single code. Assumes nothing.
use mathlib.Core.Path.{◌≡◌, refl, sym, ap, ap₂, ◌∙◌}
use Prim.Native.Nat.{ℕ, zero, suc, ◌+◌, ◌*◌, ◌/◌, ◌%◌, ◌<◌}
use mathlib.Core.List.{List}
use native.Mathlib.Omega.{arith}
use native.Mathlib.Nat.{add-zero}
use lib.ListN.{length, get_or}
use lib.Ieee.{Float, of_bits, binary32}
use Rattle.words.specs.Bytes.{num_at, f32_at}
use Rattle.words.specs.declared.metric.Metric.{Metric}
use Rattle.code.specs.declared.parts.reader.Factors.{Factors}
use Rattle.code.specs.Code.{code_bit, code_of, cleared_code}
use Rattle.code.proofs.CodeLaws.{code-bit-lt, factor_of_code, bit_of_code}
use Rattle.block.specs.Block.{lane_factor, lane_bit, lane_code}
use Rattle.block.proofs.LaneLaws.{lane_bit-lt}
use Rattle.sums.specs.Sums.{query_sum}
use Rattle.sums.proofs.PlainLaws.{plain_ext}
use Rattle.estimate.specs.declared.Asked.{Asked}
use Rattle.estimate.specs.declared.Query.{Query}
use Rattle.estimate.specs.Estimate.{estimate}
use Rattle.estimate.specs.Record.{estimate_of, code_estimate, lane_estimate}

-- the same bytes write the same number
num_ext : (n : ℕ) (s t : List ℕ) (i j : ℕ) → ((b : ℕ) → b < n → get_or s (i + b) 0 ≡ get_or t (j + b) 0) → num_at n s i ≡ num_at n t j
unfolding num_at
num_ext zero s t i j h = refl
num_ext (suc n) s t i j h =
    ap₂ (λ (x y : ℕ). x + 256 * y)
    (ap (λ (k : ℕ). get_or s k 0) (sym (add-zero i)) ∙ h 0 (omega arith) ∙ ap (λ (k : ℕ). get_or t k 0) (add-zero j))
    (num_ext n s t (i + 1) (j + 1) (λ b l. ap (λ (k : ℕ). get_or s k 0) (next i b) ∙ h (suc b) (omega arith) ∙ ap (λ (k : ℕ). get_or t k 0) (sym (next j b))))
  where
    next : (i b : ℕ) → i + 1 + b ≡ i + suc b
    next i b = omega arith

-- factor j of a code whose factor bytes are f, where s has those bytes from 4 * i on
factor_same : (dims j i : ℕ) (s : List ℕ) (f b : ℕ → ℕ) → j < 4 → ((x : ℕ) → x < 4 → get_or s (4 * i + x) 0 ≡ f (4 * j + x))
    → f32_at s i ≡ f32_at (code_of dims f b) j
unfolding f32_at
factor_same dims j i s f b l h =
    ap (of_bits binary32) (num_ext 4 s (code_of dims f b) (4 * i) (4 * j) (λ x k. h x k ∙ sym (factor_of_code dims f b (4 * j + x) (omega arith))))

-- an estimate goes by the four factors and by the bits of the dims
four : (a b c d a' b' c' d' : Float) → a ≡ a' → b ≡ b' → c ≡ c' → d ≡ d'
    → ◌≡◌ {A = Factors} (record { dis_u_2 = a; factor_ppc = b; factor_ip = c; factor_err = d })
    (record { dis_u_2 = a'; factor_ppc = b'; factor_ip = c'; factor_err = d' })
four a b c d a' b' c' d' ea eb ec ed = rw (ea, eb, ec, ed) refl

estimate_ext : (w : Asked) (m : Metric) (v : Query) (qs : List ℕ) (f g : Factors) (b b' : ℕ → ℕ) → f ≡ g
    → ((d : ℕ) → d < length qs → b d ≡ b' d) → estimate_of w m v qs f b ≡ estimate_of w m v qs g b'
unfolding estimate_of
estimate_ext w m v qs f g b b' e h = ap₂ (λ (x : Factors) (y : ℕ). estimate w m v x y (query_sum qs)) e (plain_ext qs b b' h)

-- ---- a code and its lane

module _ (w : Asked) (m : Metric) (v : Query) (qs : List ℕ) where
  -- pad bits don't matter
  pub cleared_same : (code : List ℕ) → code_estimate w m v qs (cleared_code (length qs) code) ≡ code_estimate w m v qs code
  unfolding code_estimate cleared_code
  cleared_same code =
      sym (estimate_ext w m v qs _ _ _ _ (four _ _ _ _ _ _ _ _ (same 0 (omega arith)) (same 1 (omega arith)) (same 2 (omega arith)) (same 3 (omega arith)))
      (λ d l. sym (bit_of_code (length qs) f (code_bit code) (code-bit-lt code) d l)))
    where
      f : ℕ → ℕ
      f i = get_or code i 0

      same : (j : ℕ) → j < 4 → f32_at code j ≡ f32_at (code_of (length qs) f (code_bit code)) j
      same j l = factor_same (length qs) j j code f (code_bit code) l (λ x k. refl)

  -- module 7: a lane gives the estimate of its single code
  pub lane_is_code : (block : List ℕ) (k : ℕ) → k < 32 → lane_estimate w m v qs block k ≡ code_estimate w m v qs (lane_code (length qs) block k)
  unfolding lane_estimate code_estimate lane_code lane_factor
  lane_is_code block k h =
      estimate_ext w m v qs _ _ _ _
      (four _ _ _ _ _ _ _ _ (same 0 k (omega arith) (omega arith)) (same 1 (32 + k) (omega arith) (omega arith))
      (same 2 (64 + k) (omega arith) (omega arith)) (same 3 (96 + k) (omega arith) (omega arith)))
      (λ d l. sym (bit_of_code (length qs) (lane_factor block k) (lane_bit block k) (lane_bit-lt block k) d l))
    where
      same : (j i : ℕ) → j < 4 → i ≡ 32 * j + k → f32_at block i ≡ f32_at (code_of (length qs) (lane_factor block k) (lane_bit block k)) j
      same j i l e =
          factor_same (length qs) j i block (lane_factor block k) (lane_bit block k) l
          (λ x hx. let at : 4 * i + x ≡ 128 * ((4 * j + x) / 4) + 4 * k + (4 * j + x) % 4 = omega arith in ap (λ (y : ℕ). get_or block y 0) at)
