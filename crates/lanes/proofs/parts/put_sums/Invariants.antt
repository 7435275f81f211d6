-- `lanes::parts::put_sums` meets its contract. Assumes nothing.
use Rattle.std.proofs.Common.{◌≡◌, ◌*◌, length, get_or, take}
use Rattle.words.specs.Bytes.{words_of}
use Rattle.lanes.proofs.parts.put_sums.Given as goal

abbrev pub invariant-loop-k : goal.invariant-loop-k
invariant-loop-k l = (length l.out ≡ 128) × (take (4 * l.k) l.out ≡ words_of l.k (λ j. get_or l.sums j 0))
