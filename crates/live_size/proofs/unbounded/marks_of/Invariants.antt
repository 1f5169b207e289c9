use Rattle.std.proofs.Common.{◌≡◌, map}
use Rattle.std.specs.List.{range_with_len}
use Rattle.toml.specs.View.{table_view}
use Rattle.live_size.specs.Farms.{is_unbounded}
use Rattle.live_size.proofs.unbounded.marks_of.Given as goal

abbrev pub invariant-loop-number : goal.invariant-loop-number
invariant-loop-number l = l.marks.items ≡ map (is_unbounded (table_view l.file.tree) l.settings) (range_with_len 0 l.number)
