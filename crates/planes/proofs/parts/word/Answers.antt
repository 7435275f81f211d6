-- `planes::parts::word` meets its contract. Assumes nothing.
use mathlib.Core.Path.{◌≡◌, refl, sym, ap, ◌∙◌}
use Prim.Native.Nat.{ℕ, ◌+◌, ◌*◌, ◌%◌, ◌^◌, ◌<◌}
use native.Mathlib.Omega.{arith}
use lib.ListN.{get_or}
use Rattle.words.specs.Digits.{join}
use Rattle.words.proofs.DigitLaws.{bits_lt, digit_more, join-none}
use Rattle.planes.proofs.WordLaws.{join_nibbles}
use Rattle.planes.proofs.parts.word.Goals as goal
use Rattle.planes.proofs.parts.word.Goals.{After-nibble}

-- nibble i of the word
nibble_of : (c : After-nibble) → ℕ → ℕ
nibble_of c i = join 1 4 (λ j. get_or c.args.d.now (4 * i + j) 0)

step : (c : After-nibble) → let l = c.loop-k in
    (l.r + c.nibble.result * 2 ^ (4 * l.k) % 2 ^ 64 ≡ join 4 (l.k + 1) (nibble_of c)) × (l.r + c.nibble.result * 2 ^ (4 * l.k) % 2 ^ 64 < 2 ^ 64)
unfolding nibble_of
step c =
    let l = c.loop-k in
    digit_more 4 64 l.k (4 * l.k) l.r _ (nibble_of c) (λ i. bits_lt 4 _ (λ j. c.requires (4 * i + j))) (omega arith) refl l.invariant
    c.nibble.ensures.0

pub loop-k-init : goal.loop-k-init
loop-k-init c = sym (join-none 4 _)

pub nibble-requires : goal.nibble-requires
nibble-requires c = (omega arith, c.requires)

pub overflow_add-r : goal.overflow_add-r
overflow_add-r c = record { fits = (step c).1 }

pub loop-k-preserved : goal.loop-k-preserved
unfolding nibble_of
loop-k-preserved c = (step c).0

pub returns : goal.returns
returns c =
    let d = c.args.d.now in
    let e : c.loop-k.k ≡ 16 = omega arith in
    c.loop-k.invariant ∙ ap (λ (n : ℕ). join 4 n (λ i. join 1 4 (λ j. get_or d (4 * i + j) 0))) e ∙ join_nibbles 16 (λ i. get_or d i 0)
