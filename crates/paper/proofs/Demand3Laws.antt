-- Demand 3 holds. Assumes nothing.
use Rattle.rerank.proofs.DemandLaws.{demand}
use Rattle.paper.specs.Demand3.{Demand3}

pub demand_3 : Demand3
demand_3 = demand
