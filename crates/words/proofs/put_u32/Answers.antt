-- `words::put_u32` meets its contract. Assumes nothing.
use Rattle.std.proofs.Common.{◌∙◌}
use Rattle.words.specs.Bytes.{bytes_of}
use Rattle.words.proofs.ByteLaws.{put_part, length-bytes_of, le_bytes}
use Rattle.words.proofs.put_u32.Goals as goal

pub returns : goal.returns
returns c =
    let a = c.args in
    rw (c.copy_from_slice.ensures.after ∙ c.to_le_bytes.ensures ∙ le_bytes a.x)
    (put_part a.out.now a.at 4 (bytes_of 4 a.x) (length-bytes_of 4 a.x) c.requires)
