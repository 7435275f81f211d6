-- What numbers the patterns stand for, as `root_is_nearest` speaks of them, and what the workers behind `square_root` promise each other.
-- No public promise cites this file.
use Rattle.std.specs.Prelude.{◌≡◌, ℕ, ◌+◌, ◌-◌, ◌*◌, ◌/◌, ◌%◌, ◌^◌, ◌≤◌, ◌<◌, cond, ltb}

-- the number that b, the pattern of a finite number not below 0, stands for, in units of 2 ^ -149
abbrev pub units_of : ℕ → ℕ
units_of b = cond (ltb b 0x80_0000) b ((0x80_0000 + b % 0x80_0000) * 2 ^ (b / 0x80_0000 - 1))

-- m * 2 ^ e is that number in units of 2 ^ -298
pub record IsParts (b m e : ℕ) : Type 0 where
  pub m_low : 2 ^ 23 ≤ m
  pub m_high : m < 2 ^ 24
  pub e_low : 126 ≤ e
  pub e_high : e ≤ 402
  pub same : m * 2 ^ e ≡ units_of b * 2 ^ 149

-- n * 4 ^ k is m * 2 ^ e
pub record IsScaled (m e n k : ℕ) : Type 0 where
  pub n_low : 2 ^ 46 ≤ n
  pub n_high : n ≤ 2 ^ 48 - 2 ^ 24
  pub k_low : 1 ≤ k
  pub k_high : k ≤ 189
  pub same : n * (2 ^ k * 2 ^ k) ≡ m * 2 ^ e
