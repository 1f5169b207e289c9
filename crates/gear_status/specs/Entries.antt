-- The entries of the map, as lines.
use Rattle.std.specs.Prelude.{ℕ, List, map, Vec}
use Rattle.std.specs.declared.alloc.Global.{Global}
use Rattle.gear_status.specs.declared.load.Counts.{Counts}
use Rattle.gear_status.specs.Status.{Line}

abbrev pub line_view : Vec ℕ Global × Counts → Line
line_view e = (e.0.items, e.1)

abbrev pub lines_view : List (Vec ℕ Global × Counts) → List Line
lines_view = map line_view
