-- `words::put_float` meets its contract. Assumes nothing.
use mathlib.Core.Path.{sym, ◌∙◌}
use Rattle.words.specs.Bytes.{float_bytes}
use Rattle.words.proofs.ByteLaws.{sets_all, length-float_bytes}
use Rattle.words.proofs.put_float.Goals as goal

pub returns : goal.returns
returns c =
    c.put_f32.ensures ∙ sets_all c.args.out.now (float_bytes c.args.x) (c.requires ∙ sym (length-float_bytes c.args.x))
