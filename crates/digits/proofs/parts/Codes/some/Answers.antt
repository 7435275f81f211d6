-- `digits::parts::Codes::some` meets its contract. Assumes nothing.
use Prim.Native.Nat.{ℕ, ◌+◌, ◌-◌, ◌*◌, ◌%◌, ◌^◌, ◌<◌, ◌≤◌}
use mathlib.Core.List.{List}
use mathlib.Core.Path.{ap, ◌≡◌, refl, sym, ◌∙◌}
use native.Mathlib.Omega.{arith}
use lib.ListN.{get_or, take, drop, length}
use lib.Seq.{get_or-take, get_or-drop}
use Rattle.std.proofs.lemmas.List.{length-take-le}
use Rattle.std.proofs.Common.{length-drop}
use Rattle.words.specs.Digits.{join}
use Rattle.words.proofs.DigitLaws.{join-none}
use Rattle.digits.proofs.DigitLaws.{join-turn, small}
use Rattle.digits.proofs.parts.Codes.some.Goals as goal
use Rattle.digits.proofs.parts.Codes.some.Goals.{After-self, In-loop-j}

-- how many codes the loop goes over
count : (g : _) (c : After-self g) → length (take (c.args.at + c.args.n - c.args.at) (drop c.args.at c.self.inside.codes.now)) ≡ c.args.n
count g c =
    let s = c.self.inside.codes.now in let m = c.args.at + c.args.n - c.args.at in
    let r : c.args.at + c.args.n ≤ length s = rw c.self.view_is c.requires.1 in
    length-take-le m (drop c.args.at s) (omega (arith, length-drop c.args.at s)) ∙ omega arith

-- a turn
turn : (g : _) (c : In-loop-j g) → let w = g.row.BITS in let l = c.loop-j in let s = c.self.inside.codes.now in
    let x = l.byte + get_or (take (c.args.at + c.args.n - c.args.at) (drop c.args.at s)) l.j 0 * 2 ^ (w * l.j) % 256 in
    (x ≡ join w (l.j + 1) (λ j. get_or c.args.self.now (c.args.at + j) 0)) × (x < 256)
turn g c =
    let s = c.self.inside.codes.now in let l = c.loop-j in let w = g.row.BITS in let m = c.args.at + c.args.n - c.args.at in
    let k : l.j < c.args.n = omega (arith, count g (goal.at.In-loop-j g c).After-self) in
    let here = get_or-take m (drop c.args.at s) l.j 0 (omega arith) ∙ get_or-drop c.args.at s l.j 0
    ∙ ap (λ (x : List ℕ). get_or x (c.args.at + l.j) 0) c.self.view_is in
    join-turn w l.j (w * l.j) l.byte _ (λ j. get_or c.args.self.now (c.args.at + j) 0) c.self.invariant.0
    (λ j. small w c.args.self.now (rw c.self.view_is at c.self.invariant.1) (c.args.at + j)) (omega arith) refl l.invariant here

pub overflow_add-byte : goal.overflow_add-byte
overflow_add-byte g c = record { fits = (turn g (goal.at.overflow_add-byte g c).In-loop-j).1 }

pub loop-j-preserved : goal.loop-j-preserved
loop-j-preserved g c = (turn g (goal.at.loop-j-preserved g c).In-loop-j).0

pub loop-j-init : goal.loop-j-init
loop-j-init g c = sym (join-none _ _)

pub returns : goal.returns
returns g c =
    let l = c.loop-j in
    let e : l.j ≡ c.args.n = omega (arith, count g (goal.at.returns g c).After-self) in rw (← e) l.invariant
