-- Module 4, the reader: the four factors of a code, and the word bytes after them.
use Rattle.std.specs.Prelude.{ℕ, List, drop}
use Rattle.words.specs.Bytes.{f32_at}
use Rattle.code.specs.declared.parts.reader.Code.{Code}
use Rattle.code.specs.declared.parts.reader.Factors.{Factors}

-- bytes 0..15: dis_u_2, factor_ppc, factor_ip, factor_err
abbrev pub factors_at : List ℕ → Factors
factors_at code = record { dis_u_2 = f32_at code 0; factor_ppc = f32_at code 1; factor_ip = f32_at code 2; factor_err = f32_at code 3 }

-- those that a reader keeps
abbrev pub kept_factors : Code → Factors
kept_factors c = c.factors

-- the word bytes of a code
abbrev pub words_at : List ℕ → List ℕ
words_at code = drop 16 code
