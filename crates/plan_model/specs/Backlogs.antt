-- The backlog number of an answer, as people read it.
use Rattle.std.specs.Prelude.{ℕ, ◌-◌, ◌^◌, List, ◌++◌, nat_lt, codes, if◌then◌else◌}
use Rattle.std.specs.Fmt.{decimal}
use Rattle.plan_model.specs.declared.level.Backlog.{Backlog}
use Rattle.plan_model.specs.declared.level.Backlog.TheVariants.{Jobs, Unserved}

-- A number above all numbers of jobs counts what nobody serves.
abbrev pub as_backlog : ℕ → Backlog
as_backlog number = if nat_lt number (2 ^ 32) then Jobs number else Unserved (number - 2 ^ 32)

abbrev pub backlog_words : Backlog → List ℕ
backlog_words (Jobs jobs) = codes "backlog " ++ decimal jobs
backlog_words (Unserved jobs) = codes "unserved " ++ decimal jobs
