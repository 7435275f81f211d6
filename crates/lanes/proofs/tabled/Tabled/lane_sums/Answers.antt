-- `lanes::tabled::Tabled::lane_sums` meets its contract. Assumes nothing.
use Rattle.std.proofs.Common.{ℕ, ◌≡◌, ◌+◌, min, subst, replicate, arith}
use Rattle.lanes.specs.Parts.{Lanes}
use Rattle.lanes.proofs.LaneLaws.{lanes_none, lanes_fit, lanes_more, lanes_plain}
use Rattle.lanes.proofs.tabled.Tabled.lane_sums.Goals as goal
use Rattle.lanes.proofs.tabled.Tabled.lane_sums.Goals.{After-stretch}

-- the groups before this stretch
before : (c : After-stretch) → let s = c.args.self.now in Lanes s.codes.now s.block.now 0 c.loop-g.g c.loop-g.sums
before c =
    let s = c.args.self.now in
    let e : min c.loop-g.g c.div_ceil-n.result ≡ c.loop-g.g = omega arith in
    subst (λ (k : ℕ). Lanes s.codes.now s.block.now 0 k c.loop-g.sums) e c.loop-g.invariant

pub loop-g-init : goal.loop-g-init
loop-g-init c =
    let s = c.args.self.now in
    let e : 0 ≡ min 0 c.div_ceil-n.result = omega arith in
    subst (λ (k : ℕ). Lanes s.codes.now s.block.now 0 k (replicate 32 0)) e (lanes_none s.codes.now s.block.now)

pub added-sums-requires : goal.added-sums-requires
added-sums-requires c =
    lanes_fit _ _ _ _ (before (goal.at.added-sums-requires c).After-stretch) c.stretch.ensures c.args.self.now.ready.query

pub loop-g-smaller : goal.loop-g-smaller
loop-g-smaller c = omega arith

pub loop-g-preserved : goal.loop-g-preserved
loop-g-preserved c =
    let s = c.args.self.now in
    let g = c.loop-g.g in
    let e : g + c.min.result ≡ min (g + 1024) c.div_ceil-n.result = omega arith in
    let sums = lanes_more _ _ _ _ (before (goal.at.loop-g-preserved c).After-stretch) c.stretch.ensures c.added-sums.ensures in
    subst (λ (k : ℕ). Lanes s.codes.now s.block.now 0 k c.added-sums.result) e sums

pub returns : goal.returns
returns c =
    lanes_plain _ _ _ c.args.self.now.ready.query (omega arith) c.loop-g.invariant

-- the same, where one step more would pass the greatest usize
pub returns-2 : goal.returns-2
returns-2 c =
    let sums = lanes_more _ _ _ _ (before (goal.at.returns-2 c).After-stretch) c.stretch.ensures c.added-sums.ensures in
    lanes_plain _ _ (c.loop-g.g + c.min.result) c.args.self.now.ready.query (omega arith) sums
