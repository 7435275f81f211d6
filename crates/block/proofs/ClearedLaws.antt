-- A byte of which all digits are left.
use mathlib.Core.Path.{◌≡◌, sym, ap, ◌∙◌}
use Prim.Native.Nat.{ℕ, ◌%◌, ◌^◌, ◌<◌, ◌≤◌, min}
use native.Mathlib.Nat.{min-eq_left, mod-eq_of_lt}

pub all_left : (x left : ℕ) → x < 256 → 8 ≤ left → x ≡ x % 2 ^ min 8 left
all_left x left b l = sym (ap (λ (k : ℕ). x % 2 ^ k) (min-eq_left l) ∙ mod-eq_of_lt b)
