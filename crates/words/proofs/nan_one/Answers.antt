-- `words::nan_one` meets its contract. Assumes nothing.
use lib.Ieee.{binary32}
use lib.Ieee.Bits.{nan_bits_above}
use Rattle.words.proofs.nan_one.Goals as goal

pub returns : goal.returns
returns c = rw (nan_bits_above binary32 c.args.n) c.reaches.ensures
