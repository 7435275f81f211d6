-- `planes::parts::shared` meets its contract. Assumes nothing.
use mathlib.Core.Path.{refl}
use Rattle.words.proofs.DigitLaws.{shared_le}
use Rattle.planes.proofs.parts.shared.Goals as goal

pub returns : goal.returns
returns c = (refl, shared_le c.args.a c.args.b c.ranges.a.fits)
