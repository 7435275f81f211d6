use Rattle.std.proofs.Common.{arith}
use Rattle.cabinet_job.proofs.RoomLaws.{walk_room}
use Rattle.cabinet_job.proofs.lists.Lists.walk.Goals as goal

pub returns : goal.returns
returns c = omega (arith, walk_room _ _ _ _ _ _ _ _ _ _ _ _ _ c.lk_walk.ensures c.in_ok-lk_walk.was)
