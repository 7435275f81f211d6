-- `lanes::tabled::Tabled::group` meets its contract. Assumes nothing.
use Rattle.std.proofs.Common.{◌≡◌, ◌+◌, ◌*◌, ◌/◌, ◌%◌, ◌<◌, sym, ap, ◌∙◌, arith, get_or}
use Rattle.sums.specs.Sums.{group_sum}
use Rattle.block.proofs.LaneLaws.{nibble_low, nibble_high}
use Rattle.lanes.proofs.LaneLaws.{group_of}
use Rattle.lanes.proofs.tabled.Tabled.group.Goals as goal

pub returns : goal.returns
returns c =
    let s = c.args.self.now in
    let g = c.args.g in
    let j = c.args.j in
    let x = get_or s.block.now (512 + 16 * g + j) 0 in
    let byte : x < 256 = omega arith in
    let half : x % 16 * 16 / 16 ≡ x % 16 = omega arith in
    let wide = s.ready.wide in record {
      low = (group_of _ _ wide g j _ _ c.requires.0 c.requires.1 c.four.ensures.0 ∙ ap (group_sum s.codes.now g) (half ∙ sym (nibble_low s.block.now j g c.requires.1)), c.four.ensures.1);
      high = (group_of _ _ wide g j _ _ c.requires.0 c.requires.1 c.four-2.ensures.0 ∙ ap (group_sum s.codes.now g) (sym (nibble_high s.block.now j g c.requires.1 byte)), c.four-2.ensures.1);
    }
