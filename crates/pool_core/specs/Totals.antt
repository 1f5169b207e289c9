-- The counts of a pool as a line gives them, without its line feed.
use Rattle.std.specs.Prelude.{ℕ, ◌++◌, List, codes}
use Rattle.std.specs.Fmt.{decimal}
use Rattle.pool_core.specs.declared.answer.Totals.{Totals}

abbrev pub totals_line : Totals → List ℕ
totals_line t =
    (codes "totals grabbed " ++ decimal t.grabbed ++ codes " running " ++ decimal t.running ++ codes " reported " ++ decimal t.reported)
    ++ (codes " lost " ++ decimal t.lost ++ codes " rounds " ++ decimal t.rounds ++ codes " events " ++ decimal t.events)
