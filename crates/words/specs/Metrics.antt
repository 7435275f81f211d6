-- The metric of a call, as a number: 1 is L2, 2 is dot.
use Rattle.std.specs.Prelude.{ℕ, cond, eqb}
use Rattle.words.specs.declared.metric.Metric.{Metric}
use Rattle.words.specs.declared.metric.Metric.TheVariants.{L2, Dot}

-- the metric of 1 or 2: a call refuses every other number first
unfoldable pub metric_of : ℕ → Metric
metric_of n = cond (eqb n 1) L2 Dot
