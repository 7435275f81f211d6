-- `walk::put_ids` meets its contract. Assumes nothing.
use mathlib.Core.Path.{◌≡◌}
use mathlib.Core.List.{◌++◌}
use Prim.Native.Nat.{◌+◌, ◌-◌, ◌*◌, ◌≤◌}
use lib.ListN.{drop}
use Rattle.words.specs.Bytes.{words_of}
use Rattle.walk.proofs.put_ids.Given as goal

abbrev pub invariant-loop-id : goal.invariant-loop-id
invariant-loop-id l =
    let n = l.id - l.start in
    (n ≤ l.end - l.start) × (l.ids ≡ words_of n (λ j. l.start + j) ++ drop (4 * n) l.initial.ids)
