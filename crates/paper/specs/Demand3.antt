-- Demand 3: the reranker asks one by one, hands out every candidate once, in order, and asks for no more than the truth needs. It is stated over
-- any lent lists and any calls on them, as C sees them, in crates/rerank/specs/Demand.
use Rattle.rerank.specs.Demand.{Demand}

abbrev pub Demand3 : Type 0
Demand3 = Demand
