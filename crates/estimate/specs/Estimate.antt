-- Module 7, estimates: the paper's formulas. Each operation rounds once, from the left. s and q are the paper's S and Q.
use Rattle.std.specs.Prelude.{ℕ, pos, Float}
use Rattle.std.specs.Float.{nan, binary32}
use Rattle.std.specs.Float.Ieee.{of_int, of_bits}
use Rattle.std.specs.Option.{unwrap_or}
use Rattle.words.specs.Floats.{◌⊕◌, ◌⊖◌, ◌⊗◌}
use Rattle.words.specs.declared.metric.Metric.{Metric}
use Rattle.words.specs.declared.metric.Metric.TheVariants.{L2, Dot}
use Rattle.root.specs.Root.{root_of}
use Rattle.code.specs.declared.parts.reader.Factors.{Factors}
use Rattle.estimate.specs.declared.Asked.{Asked}
use Rattle.estimate.specs.declared.Asked.TheVariants.{Rough, LowerBound}
use Rattle.estimate.specs.declared.Query.{Query}

-- the query record of three numbers
abbrev pub query_of : Float → Float → Float → Query
query_of d b k = record { dis_v_2 = d; b = b; k = k }

-- 2, 0.5 and 1.9, by their bits
abbrev pub two : Float
two = of_bits binary32 0x4000_0000

abbrev pub half : Float
half = of_bits binary32 0x3F00_0000

abbrev pub epsilon : Float
epsilon = of_bits binary32 0x3FF3_3333

-- 2*S - Q, both turned to f32
unfoldable pub two_s_minus_q : ℕ → ℕ → Float
two_s_minus_q s q = (two ⊗ of_int binary32 (pos s)) ⊖ of_int binary32 (pos q)

-- a term of L2, and half of it for dot: each half is taken last
unfoldable pub halved : Metric → Float → Float
halved L2 x = x
halved Dot x = half ⊗ x

-- b*factor_ppc
unfoldable pub ppc_term : Metric → Query → Factors → Float
ppc_term m v f = halved m (v.b ⊗ f.factor_ppc)

-- ((2*S - Q)*factor_ip)*k
unfoldable pub ip_term : Metric → Query → Factors → ℕ → ℕ → Float
ip_term m v f s q = halved m ((two_s_minus_q s q ⊗ f.factor_ip) ⊗ v.k)

-- L2: ((dis_u_2 + dis_v_2) + b*factor_ppc) + ((2*S - Q)*factor_ip)*k; dot has the two halves alone
unfoldable pub rough : Metric → Query → Factors → ℕ → ℕ → Float
rough L2 v f s q = ((f.dis_u_2 ⊕ v.dis_v_2) ⊕ ppc_term L2 v f) ⊕ ip_term L2 v f s q
rough Dot v f s q = ppc_term Dot v f ⊕ ip_term Dot v f s q

-- root(dis_v_2) by module 3. An accepted query has one
unfoldable pub root_float : Float → Float
root_float x = unwrap_or (root_of x) nan

-- factor_err * root(dis_v_2)
unfoldable pub err : Metric → Query → Factors → Float
err m v f = halved m (f.factor_err ⊗ root_float v.dis_v_2)

-- rough - 1.9*err
unfoldable pub lower_bound : Metric → Query → Factors → ℕ → ℕ → Float
lower_bound m v f s q = rough m v f s q ⊖ (epsilon ⊗ err m v f)

-- whichever number the call gives
unfoldable pub estimate : Asked → Metric → Query → Factors → ℕ → ℕ → Float
estimate Rough m v f s q = rough m v f s q
estimate LowerBound m v f s q = lower_bound m v f s q
