-- What a command prints, without its line feed.
use Rattle.std.specs.Prelude.{ℕ, ◌++◌, List, [], length, Option, Some, None, Result, Ok, Err, codes, nat_lt, if◌then◌else◌}
use Rattle.std.specs.Fmt.{decimal}
use Rattle.plan_model.specs.Backlogs.{as_backlog, backlog_words}
use Rattle.plan_model.specs.Certificate.{Certificate}
use Rattle.plan_model.specs.declared.answer.Answer.{Answer}
use Rattle.plan_model.specs.declared.answer.Answer.TheVariants as answers
use Rattle.pool_settings.specs.Names.{name_at}
use Rattle.pool_settings.specs.Settings.{Settings}
use Rattle.pool_settings.specs.Slots.{slots, worker_text}
use Rattle.worker_state.specs.Causes.{cause_label}
use Rattle.worker_state.specs.declared.slot.WorkerName.{WorkerName}
use Rattle.worker_state.specs.declared.job.EndKind.TheVariants as end
use Rattle.worker_state.specs.declared.job.Standing.{Standing}
use Rattle.worker_state.specs.declared.job.Standing.TheVariants as standing
use Rattle.worker_state.specs.declared.order.Order.{Order}
use Rattle.worker_state.specs.declared.order.What.{What}
use Rattle.worker_state.specs.declared.order.What.TheVariants.{Idle, Work, Stop}
use Rattle.pool_core.specs.declared.error.JoinError.{JoinError}
use Rattle.pool_core.specs.declared.error.ViewError.{ViewError}
use Rattle.pool_core.specs.declared.error.GrabError.{GrabError}
use Rattle.pool_core.specs.declared.error.ReportError.{ReportError}
use Rattle.pool_core.specs.declared.error.ChapterError.{ChapterError}
use Rattle.pool_core.specs.declared.event.Chapter.{Chapter}
use Rattle.refusal.specs.Label.{Label, label_words}
use Rattle.pool_core.specs.CallRefusals.{join_label, view_label, grab_label, report_label, chapter_label}
use Rattle.pool_core.specs.declared.answer.StayOrRetire.{StayOrRetire}
use Rattle.pool_core.specs.declared.answer.StayOrRetire.TheVariants.{Stay, Retire}
use Rattle.pool_core.specs.declared.answer.Ran.{Ran}

-- ---- refusals

-- the number of a refusal in its call, and its name
abbrev pub refused_line : Label → List ℕ
refused_line label = codes "refused " ++ label_words label

-- these two are refusals of the desk, not of the pool, and have no number
abbrev pub no_pass : List ℕ
no_pass = codes "refused NoPass"

abbrev pub no_view : List ℕ
no_view = codes "refused NoView"

-- ---- answers

-- a worker as command lines name it, and the empty text if there is no such slot
abbrev pub worker_words : Settings → WorkerName → List ℕ
worker_words settings worker =
    if nat_lt worker.slot (slots settings) then worker_text settings worker.slot worker.generation else []

-- `ok`, or the refusal
abbrev pub ok_line : {A E : Type 0} → (E → Label) → Result A E → List ℕ
ok_line label_of (Ok x) = codes "ok"
ok_line label_of (Err e) = refused_line (label_of e)

abbrev pub join_line : Settings → Result WorkerName JoinError → List ℕ
join_line settings (Ok worker) = codes "ok " ++ worker_words settings worker
join_line settings (Err e) = refused_line (join_label e)

abbrev pub grab_line : Result ℕ GrabError → List ℕ
grab_line (Ok ticket) = codes "ok " ++ decimal ticket
grab_line (Err e) = refused_line (grab_label e)

abbrev pub report_line : Result StayOrRetire ReportError → List ℕ
report_line (Ok Stay) = codes "ok stay"
report_line (Ok Retire) = codes "ok retire"
report_line (Err e) = refused_line (report_label e)

-- what the backlog number of an answer says, and `noplan` if it has none
abbrev pub found_words : Option ℕ → List ℕ
found_words None = codes "noplan"
found_words (Some number) = backlog_words (as_backlog number)

abbrev pub ran_line : Ran → List ℕ
ran_line ran = codes "ok " ++ decimal ran.number ++ codes " " ++ found_words ran.backlog ++ codes " moved " ++ decimal ran.moved

abbrev pub ran_or : {E : Type 0} → (E → Label) → Result Ran E → List ℕ
ran_or label_of (Ok ran) = ran_line ran
ran_or label_of (Err e) = refused_line (label_of e)

abbrev pub backlog_if_planned : Answer → Option ℕ
backlog_if_planned (answers.Planned plan backlog short) = Some backlog
backlog_if_planned (answers.NoPlan short) = None

abbrev pub view_line : Result Certificate ViewError → List ℕ
view_line (Ok viewed) = codes "ok " ++ found_words (backlog_if_planned viewed.answer)
view_line (Err e) = refused_line (view_label e)

abbrev pub job_line : Settings → Option Standing → List ℕ
job_line settings None = codes "none"
job_line settings (Some standing.Running) = codes "running"
job_line settings (Some standing.Reporting) = codes "reporting"
job_line settings (Some (standing.Reported end.Complete)) = codes "reported complete"
job_line settings (Some (standing.Reported end.Fail)) = codes "reported fail"
job_line settings (Some (standing.Lost worker cause)) =
    codes "lost " ++ worker_words settings worker ++ codes " " ++ (cause_label cause).name

-- the pool gives no order to stop
abbrev pub what_line : Settings → ℕ → What → List ℕ
what_line settings round Idle = codes "idle"
what_line settings round (Work function) = codes "work " ++ name_at settings.functions function ++ codes " round " ++ decimal round
what_line settings round Stop = codes "stop"

abbrev pub order_line : Settings → Order → List ℕ
order_line settings order = what_line settings order.round order.what

-- the number of the chapter that has ended, and how many events were handed out with it
abbrev pub chapter_line : Result Chapter ChapterError → List ℕ
chapter_line (Ok chapter) = codes "ok chapter " ++ decimal chapter.number ++ codes " events " ++ decimal (length chapter.events.items)
chapter_line (Err e) = refused_line (chapter_label e)
