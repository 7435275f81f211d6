-- `sums::parts::table::table_sums` meets its contract. Assumes nothing.
use Rattle.std.proofs.Common.{◌≡◌, ◌-◌, arith, length, drop, length-drop}
use lib.Seq.{take_all}
use Rattle.block.specs.Block.{block_groups}
use Rattle.sums.proofs.TableLaws.{scanned_plain}
use Rattle.sums.proofs.parts.table.table_sums.Goals as goal

pub returns : goal.returns
returns c =
    let block = c.args.block.now in
    let all = take_all (length block - 512) (drop 512 block) (omega (arith, length-drop 512 block)) in
    let n : c.div_ceil.result ≡ block_groups (length c.args.q.now) = omega arith in
    scanned_plain _ _ block c.requires.0 c.gen_table.ensures (rw (all, n) at c.fast_scan_b4.ensures)
