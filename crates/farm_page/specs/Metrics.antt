-- The metrics of a farm in the text format of Prometheus.
use Rattle.std.specs.Prelude.{ℕ, List, [], ◌++◌, Option, codes, string_bytes}
use Rattle.std.specs.Fmt.{decimal}
use Rattle.std.specs.List.{flat_map}
use Rattle.std.specs.Option.{option_map_or}
use Rattle.farm_page.specs.Escaping.{label_text}
use Rattle.farm_page.specs.Measured.{farm_value, function_value, host_value}
use Rattle.farm_page.specs.Metric.{Metric, kind_name, label, metrics}
use Rattle.farm_page.specs.declared.health.Moment.{Moment}
use Rattle.farm_page.specs.declared.measured.FunctionNumber.{FunctionNumber}
use Rattle.farm_page.specs.declared.measured.HostNumber.{HostNumber}
use Rattle.farm_page.specs.declared.metric.Value.{Value}
use Rattle.farm_page.specs.declared.metric.Value.TheVariants.{Cause, Farm, Function, Host}
use Rattle.farm_page.specs.declared.view.EndView.{EndView}
use Rattle.farm_page.specs.declared.view.FarmView.{FarmView}
use Rattle.farm_page.specs.declared.view.FunctionView.{FunctionView}
use Rattle.farm_page.specs.declared.view.HostView.{HostView}
use Rattle.text_pieces.specs.Lines.{ended}

-- a line that tells something of a metric
abbrev pub told : List ℕ → Metric → List ℕ → List ℕ
told lead m words = ended (lead ++ m.name ++ codes " " ++ words)

-- what a metric means, and its type
abbrev pub head : Metric → List ℕ
head m = told (codes "# HELP ") m m.help ++ told (codes "# TYPE ") m (kind_name m.kind)

abbrev pub sample : Metric → ℕ → List ℕ
sample m value = ended (m.name ++ codes " " ++ decimal value)

-- the sample of one function, host or cause, which its label names
abbrev pub labelled : Metric → List ℕ → ℕ → List ℕ
labelled m named value =
    ended (m.name ++ codes "{" ++ label m.value ++ codes "=\"" ++ label_text named ++ codes "\"} " ++ decimal value)

-- what is not known has no sample
abbrev pub labelled_if : Metric → List ℕ → Option ℕ → List ℕ
labelled_if m named value = option_map_or (labelled m named) value []

-- a metric of the farm without a value is left out
abbrev pub farm_family : Metric → Option ℕ → List ℕ
farm_family m value = option_map_or (λ n. head m ++ sample m n) value []

abbrev pub function_sample : Metric → FunctionNumber → FunctionView → List ℕ
function_sample m number f = labelled_if m (string_bytes f.name) (function_value f number)

abbrev pub function_family : Metric → FunctionNumber → List FunctionView → List ℕ
function_family m number functions = head m ++ flat_map (function_sample m number) functions

abbrev pub host_sample : Metric → HostNumber → HostView → List ℕ
host_sample m number h = labelled_if m (string_bytes h.name) (host_value h number)

abbrev pub host_family : Metric → HostNumber → List HostView → List ℕ
host_family m number hosts = head m ++ flat_map (host_sample m number) hosts

abbrev pub end_sample : Metric → EndView → List ℕ
end_sample m end = labelled m (string_bytes end.cause) end.count

abbrev pub ends_family : Metric → List EndView → List ℕ
ends_family m ends = head m ++ flat_map (end_sample m) ends

abbrev pub samples : FarmView → Moment → Metric → Value → List ℕ
samples view moment m (Farm number) = farm_family m (farm_value view moment number)
samples view moment m (Function number) = function_family m number view.functions.items
samples view moment m (Host number) = host_family m number view.hosts.items
samples view moment m Cause = ends_family m view.ends.items

-- a metric with all its samples
abbrev pub family : FarmView → Moment → Metric → List ℕ
family view moment m = samples view moment m m.value

abbrev pub metrics_text : FarmView → Moment → List ℕ
metrics_text view moment = flat_map (family view moment) metrics
