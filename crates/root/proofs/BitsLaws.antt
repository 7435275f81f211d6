-- What `root_bits` works out is the root's pattern: `rounded-up` and `rounded-down` of PatternLaws, from what its three callees ensure.
-- Assumes nothing.
use mathlib.Core.Path.{◌≡◌}
use Prim.Native.Nat.{ℕ, ◌+◌, ◌-◌, ◌*◌, ◌≤◌, ◌<◌, ◌^◌}
use native.Mathlib.Omega.{arith}
use lib.Ieee.{binary32, of_bits}
use Rattle.root.specs.Root.{root_of}
use Rattle.root.specs.Parts.{IsParts, IsScaled}
use Rattle.std.specs.Prelude.{Some}
use Rattle.root.proofs.SquareLaws.{Floor}
use Rattle.root.proofs.FieldLaws.{Whole, whole_of}
use Rattle.root.proofs.PatternLaws.{q_high, rounded-down, rounded-up}

module _ (b m e n k q : ℕ) (B : (0 < b) × (b < 0x7F80_0000)) (p : IsParts b m e) (s : IsScaled m e n k)
    (r : (q * q ≤ n) × (n < (q + 1) * (q + 1))) where
  floor : Floor n q
  floor = (r.0, omega (arith, r.1))

  whole : Whole b n k
  whole = whole_of b m e n k p s

  small : q < 2 ^ 24
  small = q_high b n k q B.0 B.1 whole floor

  pub bits_up : q < n - q * q → (k * 0x80_0000 + q + 1 < 0x7F80_0000) × (root_of (of_bits binary32 b) ≡ Some (of_bits binary32 (k * 0x80_0000 + q + 1)))
  bits_up h = (omega (arith, small, s.k_high), rounded-up b n k q B.0 B.1 whole floor (omega (arith, h, r.0)))

  pub bits_down : n - q * q ≤ q → (k * 0x80_0000 + q < 0x7F80_0000) × (root_of (of_bits binary32 b) ≡ Some (of_bits binary32 (k * 0x80_0000 + q)))
  bits_down h = (omega (arith, small, s.k_high), rounded-down b n k q B.0 B.1 whole floor (omega (arith, h, r.0)))
