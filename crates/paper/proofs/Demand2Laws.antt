-- Demand 2 holds. Assumes nothing.
use Rattle.digits.proofs.DigitLaws.{read_packed}
use Rattle.scalar.proofs.TableLaws.{table_back}
use Rattle.code.proofs.CodeLaws.{word_bit, pad_of_code, code_cleared, sign_lt}
use Rattle.block.proofs.LaneLaws.{lane_bit-lt}
use Rattle.block.proofs.RoundLaws.{lane_of_packed, packed_of_lanes, pad_of_packed, block_cleared}
use Rattle.sums.proofs.SumsLaws.{counted, packed-sum}
use Rattle.estimate.proofs.AgreeLaws.{lane_or_none}
use Rattle.walk.proofs.PackedLaws.{packed_walk}
use mathlib.Core.Path.{◌≡◌, ◌∙◌}
use mathlib.Core.List.{List, [], ◌∷◌}
use Prim.Native.Nat.{ℕ, zero, suc, ◌+◌, ◌*◌, ◌<◌}
use native.Mathlib.Nat.{le_refl, mul-le-mul}
use native.Mathlib.Omega.{arith}
use lib.ListN.{length, get_or, take, drop, length-drop}
use lib.Seq.{length-take-le, get_or-drop}
use Rattle.words.specs.Lists.{record_of}
use Rattle.code.specs.Code.{code_size, sign_clear}
use Rattle.block.specs.Block.{lane_factor, lane_bit, lane_code, packed_block}
use Rattle.paper.specs.Demand2.{Bytes, ZeroPads, Demand2}

nothing : (i : ℕ) → get_or {A = ℕ} [] i 0 < 256
nothing i = omega arith

bytes_take : (n : ℕ) (s : List ℕ) → Bytes s → Bytes (take n s)
bytes_take zero s h i = omega arith
bytes_take (suc n) [] h i = omega arith
bytes_take (suc n) (x ∷ s) h zero = h 0
bytes_take (suc n) (x ∷ s) h (suc i) = bytes_take n s (λ j. h (suc j)) i

bytes_drop : (n : ℕ) (s : List ℕ) → Bytes s → Bytes (drop n s)
bytes_drop n s h i = rw (get_or-drop n s i 0) (h (n + i))

code_same : (dims : ℕ) (codes : List ℕ) (k : ℕ) → length codes ≡ 32 * code_size dims → Bytes codes → k < 32
    → ZeroPads dims (record_of (code_size dims) codes k) → lane_code dims (packed_block dims codes) k ≡ record_of (code_size dims) codes k
unfolding record_of
code_same dims codes k size byte h pad = lane_of_packed dims codes k h ∙ code_cleared dims (record_of (code_size dims) codes k) long bytes pad
  where
    long : length (record_of (code_size dims) codes k) ≡ code_size dims
    long =
        length-take-le (code_size dims) (drop (code_size dims * k) codes)
        (omega (arith, length-drop (code_size dims * k) codes, mul-le-mul (le_refl (code_size dims)) h))

    bytes : Bytes (record_of (code_size dims) codes k)
    bytes = bytes_take (code_size dims) (drop (code_size dims * k) codes) (bytes_drop (code_size dims * k) codes byte)

lane_zero : (dims : ℕ) (block : List ℕ) (k : ℕ) → ZeroPads dims (lane_code dims block k)
unfolding lane_code
lane_zero dims block k = pad_of_code dims (lane_factor block k) (lane_bit block k) (lane_bit-lt block k)

pub demand_2 : Demand2
demand_2 =
    record {
      digits = read_packed;
      entries = λ m w dims vector lo hi i j h k. table_back m w dims vector lo hi i j h k;
      planes = λ query code q b. (counted query code [] q b).planes;
      table = λ query code q b. (counted query code [] q b).table;
      most = λ query code q b. (counted query code [] q b).small;
      lanes = λ query block k q. (counted query [] block q nothing).lanes k;
      lane_table = λ query block k q. (counted query [] block q nothing).lane_table k;
      lane_most = λ query block k q. (counted query [] block q nothing).lane_small k;
      packed_sums = packed-sum;
      word_bits = λ code w i h l. word_bit code h w i l;
      lane_back = lane_of_packed;
      block_back = packed_of_lanes;
      code_again = code_same;
      block_again = λ dims block size byte pad. packed_of_lanes dims block ∙ block_cleared dims block size byte pad;
      lane_pads = lane_zero;
      packed_pads = pad_of_packed;
      encoded_pads = λ dims factors vector. pad_of_code dims (λ i. get_or factors i 0) (sign_clear vector) (sign_lt vector);
      lane_estimate_lem = λ asked metric dims v query block out lanes one k. lane_or_none asked metric dims v query block out lanes one k;
      walks = packed_walk;
    }
