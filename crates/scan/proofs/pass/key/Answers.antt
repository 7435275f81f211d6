-- `scan::pass::key` meets its contract. Assumes nothing.
use Rattle.scan.proofs.ScanLaws.{key_up, key_down}
use native.Mathlib.Omega.{arith}
use Rattle.scan.proofs.pass.key.Goals as goal

pub returns-then-u-lt2147483648 : goal.returns-then-u-lt2147483648
returns-then-u-lt2147483648 c = key_up _ c.if-u-lt2147483648.true

pub returns-else-u-lt2147483648 : goal.returns-else-u-lt2147483648
returns-else-u-lt2147483648 c = key_down _ (omega arith) (omega arith)
