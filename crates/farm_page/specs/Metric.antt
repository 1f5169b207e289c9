-- The metrics of a farm, as their rows in the code have them.
use Rattle.std.specs.Prelude.{ℕ, List, [], codes, map}
use Rattle.std.specs.Borrow.{Bor}
use Rattle.farm_page.specs.declared.metric.MetricKind.{MetricKind}
use Rattle.farm_page.specs.declared.metric.MetricKind.TheVariants.{Counter, Gauge}
use Rattle.farm_page.specs.declared.metric.Row.{Row}
use Rattle.farm_page.specs.declared.metric.TheConstants.{METRICS}
use Rattle.farm_page.specs.declared.metric.Value.{Value}
use Rattle.farm_page.specs.declared.metric.Value.TheVariants.{Cause, Farm, Function, Host}

abbrev pub kind_name : MetricKind → List ℕ
kind_name Counter = codes "counter"
kind_name Gauge = codes "gauge"

-- what names the thing that a sample is of; the one sample of the farm has no label
abbrev pub label : Value → List ℕ
label (Farm number) = []
label (Function number) = codes "function"
label (Host number) = codes "host"
label Cause = codes "cause"

-- ---- the rows, apart from how their words are held

abbrev pub Metric : Type 0
Metric = Row (List ℕ)

abbrev pub row_view : {T : Type 0} → (T → List ℕ) → Row T → Metric
row_view words row = record { name = words row.name; kind = row.kind; value = row.value; help = words row.help }

-- a row that is lent, and several
abbrev pub metric_view : Row (Bor (List ℕ)) → Metric
metric_view row = row_view (λ t. t.now) row

abbrev pub metrics_view : List (Row (Bor (List ℕ))) → List Metric
metrics_view rows = map metric_view rows

abbrev pub metrics : List Metric
metrics = map (row_view (λ t. t.now)) METRICS
