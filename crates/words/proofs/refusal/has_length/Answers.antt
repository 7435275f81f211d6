-- `words::refusal::has_length` meets its contract. Assumes nothing.
use Rattle.std.proofs.Common.{refl}
use Rattle.words.proofs.RefusalLaws.{sized, unsized}
use Rattle.words.proofs.refusal.has_length.Goals as goal

pub returns-then-s-n : goal.returns-then-s-n
returns-then-s-n c = record { refused = sized _ _ c.if-s-n.true; length = c.if-s-n.true }

pub returns-else-s-n : goal.returns-else-s-n
returns-else-s-n c = record { refused = (unsized _ _ c.if-s-n.false, refl); length = tt }
