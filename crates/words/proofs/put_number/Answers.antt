-- `words::put_number` meets its contract. Assumes nothing.
use mathlib.Core.Path.{sym, ◌∙◌}
use Rattle.words.specs.Bytes.{bytes_of}
use Rattle.words.proofs.ByteLaws.{sets_all, length-bytes_of}
use Rattle.words.proofs.put_number.Goals as goal

pub returns : goal.returns
returns c =
    c.put_u32.ensures ∙ sets_all c.args.out.now (bytes_of 4 c.args.x) (c.requires ∙ sym (length-bytes_of 4 c.args.x))
