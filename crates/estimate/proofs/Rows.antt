-- The paper's worked row of module 7, computed: the bits of L2 rough, dot rough, and their lower bounds. Assumes nothing.
use mathlib.Core.Path.{◌≡◌, refl}
use mathlib.Core.List.{[], ◌∷◌, map}
use Prim.Native.Nat.{ℕ}
use lib.Ieee.{Float, binary32, of_bits, to_bits, add, sub, mul, of_int}
use Rattle.words.specs.declared.metric.Metric.TheVariants.{L2, Dot}
use Rattle.root.specs.Root.{root_of}
use Rattle.code.specs.declared.parts.reader.Factors.{Factors}
use Rattle.estimate.specs.declared.Query.{Query}
use Rattle.estimate.specs.Estimate.{query_of, halved, ppc_term, ip_term, rough, err, root_float, two_s_minus_q, lower_bound}

abbrev pub float : ℕ → Float
float = of_bits binary32

-- dis_v_2 4, b 0, k 1
abbrev pub query : Query
query = query_of (float 0x4080_0000) (float 0) (float 0x3F80_0000)

-- dis_u_2 1, ppc 0, ip -0.5; the paper gives no err, so 0.25
abbrev pub factors : Factors
factors = record { dis_u_2 = float 0x3F80_0000; factor_ppc = float 0; factor_ip = float 0xBF00_0000; factor_err = float 0x3E80_0000 }

-- S 26, Q 27: L2 rough -7.5, dot rough -6.25. Their err is 0.5 and 0.25, so the bounds are -8.45 and -6.725, rounded
pub worked : map (to_bits binary32)
    (rough L2 query factors 26 27 ∷ rough Dot query factors 26 27 ∷ lower_bound L2 query factors 26 27 ∷ lower_bound Dot query factors 26 27 ∷ [])
    ≡ (0xC0F0_0000 ∷ 0xC0C8_0000 ∷ 0xC107_3333 ∷ 0xC0D7_3333 ∷ [])
unfolding rough ppc_term ip_term halved lower_bound err root_float root_of two_s_minus_q add sub mul of_int of_bits to_bits
worked = refl
