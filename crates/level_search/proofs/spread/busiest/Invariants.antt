use Rattle.std.proofs.Common.{◌≡◌, ◌<◌, ◌==◌, true, length, slice_index, IfSome}
use Rattle.std.specs.List.{list_any}
use Rattle.level_search.proofs.spread.busiest.Given as goal

abbrev pub invariant-loop-function : goal.invariant-loop-function
invariant-loop-function l = record {
  known : IfSome l.choice (λ f. f < length l.input.least);
  permitted : IfSome l.choice (λ f. list_any (λ g. g == f) l.function-items ≡ true);
  room : IfSome l.choice (λ f. slice_index l.tables.count.now f < slice_index l.tables.most.now f);
}
