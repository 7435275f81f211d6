-- `words::put_u64` meets its contract. Assumes nothing.
use Rattle.std.proofs.Common.{◌∙◌}
use Rattle.words.specs.Bytes.{bytes_of}
use Rattle.words.proofs.ByteLaws.{put_part, length-bytes_of, le_bytes_8}
use Rattle.words.proofs.put_u64.Goals as goal

pub returns : goal.returns
returns c =
    let a = c.args in
    rw (c.copy_from_slice.ensures.after ∙ c.to_le_bytes.ensures ∙ le_bytes_8 a.x)
    (put_part a.out.now a.at 8 (bytes_of 8 a.x) (length-bytes_of 8 a.x) c.requires)
