-- `words::put_f32` meets its contract. Assumes nothing.
use Rattle.std.proofs.Common.{sym, ◌∙◌, ◌≡◌}
use Rattle.std.specs.Float.Ieee.{to_bits}
use Rattle.std.specs.Float.{binary32}
use Rattle.words.specs.Bytes.{float_bytes}
use Rattle.words.proofs.FloatLaws.{nan_written}
use Rattle.words.proofs.put_f32.Goals as goal
use Rattle.words.proofs.put_f32.Goals.{then-is_nan, else-is_nan}

pub returns : goal.returns
unfolding float_bytes
returns c =
    let x = c.args.x in
    let written : c.if-is_nan.pattern ≡ to_bits binary32 x = elim c.if-is_nan.branch [
      | then-is_nan w ↦ w.pattern-is ∙ sym (nan_written x (sym c.is_nan.ensures.value ∙ w.if-is_nan.true))
      | else-is_nan w ↦ w.pattern-is
    ] in
    rw (sym written) c.put_u32.ensures
