use Rattle.std.proofs.Common.{◌≡◌, ◌+◌, ◌≤◌, sum}
use Rattle.pool_settings.specs.Entries.{entries_view, table_entries}
use Rattle.pool_settings.specs.Reading.{column_of, workers_key}
use Rattle.pool_settings.proofs.limits.table_workers_fit.Given as goal

-- what is left decides
abbrev pub invariant-loop-name : goal.invariant-loop-name
invariant-loop-name l = record {
  total : l.total + sum (column_of workers_key 0 (entries_view l._name-iterator)) ≡ sum (column_of workers_key 0 (table_entries l.table));
  small : l.total ≤ 4096;
}
