-- What the two jobs of the example report.
use Rattle.std.specs.Prelude.{ℕ, List, [], ◌∷◌, ◌==◌, if◌then◌else◌}
use Rattle.std.specs.Fmt.{decimal}
use Rattle.std.specs.List.{count_by, ends_with}
use Rattle.job_runner.specs.Told.{Told, complete, fail}

-- how many line feeds an input has
abbrev pub lines_in : List ℕ → ℕ
lines_in input = count_by (λ byte. byte == 10) input

-- `lines`: their number, in decimal
abbrev pub told_by_lines : List ℕ → Told
told_by_lines input = record { remarks = []; finish = complete (decimal (lines_in input)) }

-- `whole`: the input again if a line feed is its last byte; else it was cut, and the job fails
abbrev pub told_by_whole : List ℕ → Told
told_by_whole input = record { remarks = []; finish = if ends_with (λ a b. a == b) input (10 ∷ []) then complete input else fail }
