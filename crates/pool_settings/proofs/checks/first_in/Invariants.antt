use Rattle.std.proofs.Common.{◌≡◌, Option}
use Rattle.pool_settings.specs.Entries.{AnswersAs, entries_if, entries_view}
use Rattle.pool_settings.specs.Place.{first_in}
use Rattle.pool_settings.specs.Reading.{Where}
use Rattle.file_keys.specs.Tree.{Entry}
use Rattle.pool_settings.proofs.checks.first_in.Given as goal

-- what is left decides
abbrev pub invariant-loop-key : goal.invariant-loop-key
invariant-loop-key g l =
    goal.F-IsAlwaysCallable g l.check
    × ((find : Entry → Option Where) → AnswersAs (goal.F-post g l.check) find → first_in find (entries_view l.key-iterator) ≡ first_in find (entries_if l.table))
