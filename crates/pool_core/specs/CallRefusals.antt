-- The labels of refusals, as lines print them, each with its place in the order in which its call looks, from 1; and which one is
-- out of memory.
use Rattle.std.specs.Prelude.{Bool, true, false, codes}
use Rattle.refusal.specs.Label.{Label, label}
use Rattle.pool_core.specs.declared.error.JoinError.{JoinError}
use Rattle.pool_core.specs.declared.error.JoinError.TheVariants as join
use Rattle.pool_core.specs.declared.error.LoadError.{LoadError}
use Rattle.pool_core.specs.declared.error.LoadError.TheVariants as load
use Rattle.pool_core.specs.declared.error.RoundError.{RoundError}
use Rattle.pool_core.specs.declared.error.RoundError.TheVariants as round
use Rattle.pool_core.specs.declared.error.ViewError.{ViewError}
use Rattle.pool_core.specs.declared.error.ViewError.TheVariants as view
use Rattle.pool_core.specs.declared.error.AdoptError.{AdoptError}
use Rattle.pool_core.specs.declared.error.AdoptError.TheVariants as adopt
use Rattle.pool_core.specs.declared.error.GrabError.{GrabError}
use Rattle.pool_core.specs.declared.error.GrabError.TheVariants as grab
use Rattle.pool_core.specs.declared.error.BeginError.{BeginError}
use Rattle.pool_core.specs.declared.error.BeginError.TheVariants as begin
use Rattle.pool_core.specs.declared.error.ReportError.{ReportError}
use Rattle.pool_core.specs.declared.error.ReportError.TheVariants as report
use Rattle.pool_core.specs.declared.error.LoseError.{LoseError}
use Rattle.pool_core.specs.declared.error.LoseError.TheVariants as lose
use Rattle.pool_core.specs.declared.error.ExpireError.{ExpireError}
use Rattle.pool_core.specs.declared.error.ExpireError.TheVariants as expire
use Rattle.pool_core.specs.declared.error.ChapterError.{ChapterError}
use Rattle.pool_core.specs.declared.error.ChapterError.TheVariants as chapter

abbrev pub join_label : JoinError → Label
join_label join.AlreadyLive = label 1 (codes "AlreadyLive")
join_label join.GenerationsUsed = label 2 (codes "GenerationsUsed")
join_label join.HistoryFull = label 3 (codes "HistoryFull")
join_label join.Memory = label 4 (codes "Memory")

abbrev pub is_join_memory : JoinError → Bool
is_join_memory join.AlreadyLive = false
is_join_memory join.GenerationsUsed = false
is_join_memory join.HistoryFull = false
is_join_memory join.Memory = true

abbrev pub load_label : LoadError → Label
load_label load.HistoryFull = label 1 (codes "HistoryFull")
load_label load.Memory = label 2 (codes "Memory")

abbrev pub is_load_memory : LoadError → Bool
is_load_memory load.HistoryFull = false
is_load_memory load.Memory = true

abbrev pub round_label : RoundError → Label
round_label round.NoLoad = label 1 (codes "NoLoad")
round_label round.HistoryFull = label 2 (codes "HistoryFull")
round_label round.Memory = label 3 (codes "Memory")

abbrev pub is_round_memory : RoundError → Bool
is_round_memory round.NoLoad = false
is_round_memory round.HistoryFull = false
is_round_memory round.Memory = true

abbrev pub view_label : ViewError → Label
view_label view.NoLoad = label 1 (codes "NoLoad")
view_label view.Memory = label 2 (codes "Memory")

abbrev pub is_view_memory : ViewError → Bool
is_view_memory view.NoLoad = false
is_view_memory view.Memory = true

abbrev pub adopt_label : AdoptError → Label
adopt_label adopt.NoLoad = label 1 (codes "NoLoad")
adopt_label adopt.Stale = label 2 (codes "Stale")
adopt_label adopt.HistoryFull = label 3 (codes "HistoryFull")
adopt_label adopt.Memory = label 4 (codes "Memory")

abbrev pub is_adopt_memory : AdoptError → Bool
is_adopt_memory adopt.NoLoad = false
is_adopt_memory adopt.Stale = false
is_adopt_memory adopt.HistoryFull = false
is_adopt_memory adopt.Memory = true

abbrev pub grab_label : GrabError → Label
grab_label grab.Gone = label 1 (codes "Gone")
grab_label grab.Busy = label 2 (codes "Busy")
grab_label grab.HistoryFull = label 3 (codes "HistoryFull")
grab_label grab.Memory = label 4 (codes "Memory")

abbrev pub is_grab_memory : GrabError → Bool
is_grab_memory grab.Gone = false
is_grab_memory grab.Busy = false
is_grab_memory grab.HistoryFull = false
is_grab_memory grab.Memory = true

abbrev pub begin_label : BeginError → Label
begin_label begin.Gone = label 1 (codes "Gone")
begin_label begin.WrongTicket = label 2 (codes "WrongTicket")
begin_label begin.AlreadyReporting = label 3 (codes "AlreadyReporting")

abbrev pub report_label : ReportError → Label
report_label report.Gone = label 1 (codes "Gone")
report_label report.WrongTicket = label 2 (codes "WrongTicket")
report_label report.NotReporting = label 3 (codes "NotReporting")

abbrev pub lose_label : LoseError → Label
lose_label lose.Gone = label 1 (codes "Gone")

abbrev pub expire_label : ExpireError → Label
expire_label expire.Gone = label 1 (codes "Gone")
expire_label expire.NoJob = label 2 (codes "NoJob")
expire_label expire.Reporting = label 3 (codes "Reporting")
expire_label expire.NotLate = label 4 (codes "NotLate")

abbrev pub chapter_label : ChapterError → Label
chapter_label chapter.ChaptersUsed = label 1 (codes "ChaptersUsed")
chapter_label chapter.Memory = label 2 (codes "Memory")

abbrev pub is_chapter_memory : ChapterError → Bool
is_chapter_memory chapter.ChaptersUsed = false
is_chapter_memory chapter.Memory = true
