-- `digits::parts::Codes::whole` meets its contract. Assumes nothing.
use Prim.Native.Nat.{ℕ, ◌+◌, ◌-◌, ◌*◌, ◌/◌, ◌%◌, ◌≤◌}
use mathlib.Core.List.{List}
use mathlib.Core.Path.{◌≡◌, refl, ◌∙◌}
use native.Mathlib.Nat.{add-zero}
use native.Mathlib.Omega.{arith}
use lib.ListN.{get_or, take, drop}
use lib.Seq.{get_or-take, get_or-drop}
use Rattle.words.specs.Digits.{join}
use Rattle.words.specs.Sums.{sum_to}
use Rattle.digits.proofs.DigitLaws.{only_eight, per_pos, small}
use Rattle.digits.proofs.WholeLaws.{two_codes, four_bytes, four_codes, eight_bytes, eight_codes}
use Rattle.digits.proofs.parts.Codes.whole.Goals as goal
use Rattle.digits.proofs.parts.Codes.whole.Goals.{After-u64_at-x, After-u32_at-x, After-from_le_bytes-x}

eight : (g : _) (c : After-u64_at-x g) → let x = c.u64_at-x.result in let p = x + x / 0x80 in let q = p + p / 0x4000 in
    (x ≤ 0x0101_0101_0101_0101) × ((q + q / 0x1000_0000) % 256 ≡ join 1 8 (λ j. get_or c.self.inside.codes.now (c.args.at + j) 0))
eight g c =
    let s = c.self.inside.codes.now in let at = c.args.at in let x = c.u64_at-x.result in let p = x + x / 0x80 in
    eight_codes (λ j. get_or s (at + j) 0) (λ j. small 1 s (rw c.in-1.is at c.self.invariant.1) (at + j)) x p (p + p / 0x4000)
    (c.u64_at-x.ensures ∙ eight_bytes s at) refl refl

pub overflow_add-pairs : goal.overflow_add-pairs
overflow_add-pairs g c = omega (arith, (eight g c).0)

pub overflow_add-fours : goal.overflow_add-fours
overflow_add-fours g c = omega (arith, (eight g (goal.at.overflow_add-fours g c).After-u64_at-x).0)

pub overflow_add-result : goal.overflow_add-result
overflow_add-result g c = omega (arith, (eight g (goal.at.overflow_add-result g c).After-u64_at-x).0)

pub returns-in-1 : goal.returns-in-1
returns-in-1 g c = rw (c.in-1.is, ← c.self.view_is) (eight g (goal.at.returns-in-1 g c).After-u64_at-x).1

four : (g : _) (c : After-u32_at-x g) → let x = c.u32_at-x.result in let p = x + x / 0x40 in
    (x ≤ 0x0303_0303) × ((p + p / 0x1000) % 256 ≡ join 2 4 (λ j. get_or c.self.inside.codes.now (c.args.at + j) 0))
four g c =
    let s = c.self.inside.codes.now in let at = c.args.at in let x = c.u32_at-x.result in
    four_codes x (x + x / 0x40) (λ j. get_or s (at + j) 0) (λ j. small 2 s (rw c.in-2.is at c.self.invariant.1) (at + j)) (c.u32_at-x.ensures ∙ four_bytes s at) refl

pub overflow_add-pairs-in-2 : goal.overflow_add-pairs-in-2
overflow_add-pairs-in-2 g c = omega (arith, (four g c).0)

pub overflow_add-result-in-2 : goal.overflow_add-result-in-2
overflow_add-result-in-2 g c = omega (arith, (four g (goal.at.overflow_add-result-in-2 g c).After-u32_at-x).0)

pub returns-in-2 : goal.returns-in-2
returns-in-2 g c = rw (c.in-2.is, ← c.self.view_is) (four g (goal.at.returns-in-2 g c).After-u32_at-x).1

-- the two bytes of a part
part : (s : List ℕ) (at x n : ℕ) → n ≡ 2 → x ≡ get_or (take n (drop at s)) 0 0 + get_or (take n (drop at s)) 1 0 * 256
    → x ≡ join 8 2 (λ j. get_or s (at + j) 0)
unfolding join sum_to
part s at x n h e =
    let a = get_or-take n (drop at s) 0 0 (omega arith) ∙ get_or-drop at s 0 0 in
    let b = get_or-take n (drop at s) 1 0 (omega arith) ∙ get_or-drop at s 1 0 in
    omega arith

two : (g : _) (c : After-from_le_bytes-x g) → let x = c.from_le_bytes-x.result in
    (x ≤ 0x0F0F) × ((x + x / 0x10) % 256 ≡ join 4 2 (λ j. get_or c.self.inside.codes.now (c.args.at + j) 0))
two g c =
    let s = c.self.inside.codes.now in let at = c.args.at in let x = c.from_le_bytes-x.result in
    two_codes x (λ j. get_or s (at + j) 0) (λ j. small 4 s (rw c.in-4.is at c.self.invariant.1) (at + j))
    (part s at x (at + 2 - at) (omega arith) c.from_le_bytes-x.ensures)

pub overflow_add-result-in-4 : goal.overflow_add-result-in-4
overflow_add-result-in-4 g c = omega (arith, (two g c).0)

pub returns-in-4 : goal.returns-in-4
returns-in-4 g c = rw (c.in-4.is, ← c.self.view_is) (two g (goal.at.returns-in-4 g c).After-from_le_bytes-x).1

pub bounds-self-inside-at : goal.bounds-self-inside-at
bounds-self-inside-at g c = rw c.self.view_is (omega (arith, per_pos g.row.BITS c.self.invariant.0))

pub returns-in_default : goal.returns-in_default
unfolding join sum_to
returns-in_default g c =
    let e : g.row.BITS ≡ 8 = only_eight g.row.BITS c.self.invariant.0 (λ p. omega arith) (λ p. omega arith) (λ p. omega arith) in
    rw (e, ← c.self.view_is, add-zero) (omega arith)
