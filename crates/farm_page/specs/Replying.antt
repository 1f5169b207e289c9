-- What a request is answered.
use Rattle.std.specs.Prelude.{ℕ, ◌≡◌, Bool, List, Option, Some, None, Result, Ok, Err, codes, if◌then◌else◌}
use Rattle.farm_page.specs.Evidence.{evidence_text, lost_text}
use Rattle.farm_page.specs.Health.{condition_at, health_text, is_healthy, is_live, sentence_at}
use Rattle.farm_page.specs.Markup.{IsPageOf}
use Rattle.farm_page.specs.Metrics.{metrics_text}
use Rattle.farm_page.specs.Notices.{notices}
use Rattle.farm_page.specs.Rows.{workers_row}
use Rattle.farm_page.specs.Sections.{Holds, body_tag, end_rows, failures_part, function_rows, headline, host_rows}
use Rattle.farm_page.specs.Told.{Told}
use Rattle.farm_page.specs.declared.answer.Allowed.{Allowed}
use Rattle.farm_page.specs.declared.answer.Allowed.TheVariants.{Posts, Reads}
use Rattle.farm_page.specs.declared.answer.Content.TheVariants as content
use Rattle.farm_page.specs.declared.answer.Status.{Status}
use Rattle.farm_page.specs.declared.answer.Status.TheVariants as status
use Rattle.farm_page.specs.declared.page.Refresh.{Refresh}
use Rattle.farm_page.specs.declared.page.Refresh.TheVariants.{Never, Soon}
use Rattle.farm_page.specs.declared.replying.Part.{Part}
use Rattle.farm_page.specs.declared.replying.Part.TheVariants as part
use Rattle.farm_page.specs.declared.replying.RelaxedPart.{RelaxedPart}
use Rattle.farm_page.specs.declared.replying.RelaxedPart.TheVariants as relaxed
use Rattle.farm_page.specs.declared.replying.Reply.{Reply}
use Rattle.farm_page.specs.declared.replying.Reply.TheVariants.{Drain, Told as told}
use Rattle.farm_page.specs.declared.replying.Seen.{Seen}
use Rattle.farm_page.specs.declared.request.Asked.{Asked}
use Rattle.farm_page.specs.declared.request.Place.{Place}
use Rattle.farm_page.specs.declared.request.Place.TheVariants as place
use Rattle.farm_page.specs.declared.request.Refusal.{Refusal}
use Rattle.farm_page.specs.declared.request.Refusal.TheVariants as refusal
use Rattle.farm_page.specs.declared.sections.Share.TheVariants.{Busy, Quiet}
use Rattle.farm_page.specs.declared.view.Evidence.{Evidence}
use Rattle.farm_page.specs.declared.view.RelaxedPlan.{RelaxedPlan}
use Rattle.farm_page.specs.declared.view.SizeView.{SizeView}
use Rattle.farm_page.specs.declared.view.SizeView.TheVariants as size

abbrev pub text_of : Status → List ℕ → Told
text_of status words = record { status = status; content = content.Text; attempt = None; allowed = None; body = words }

abbrev pub not_allowed : Allowed → List ℕ → Told
not_allowed allowed words =
    record { status = status.MethodNotAllowed; content = content.Text; attempt = None; allowed = Some allowed; body = words }

-- each refusal with its status
abbrev pub refused : Refusal → Told
refused refusal.OtherHost = text_of status.Forbidden (codes "403: this page has another host\n")
refused refusal.NoSuchPath = text_of status.NotFound (codes "404: there is nothing here\n")
refused refusal.OnlyRead = not_allowed Reads (codes "405: this is only read\n")
refused refusal.OnlyPosted = not_allowed Posts (codes "405: this is only posted to\n")
refused refusal.NoDrain = text_of status.Forbidden (codes "403: a drain comes from this machine, with its header\n")

-- ---- the evidence

abbrev pub part_text : Part → Evidence → Option RelaxedPlan → SizeView → List ℕ
part_text part.Whole evidence plan size = evidence_text evidence plan size
part_text part.Report evidence plan size = evidence.report.items
part_text part.Status evidence plan size = evidence.status.items
part_text part.Lost evidence plan size = lost_text evidence

-- the text, with the number of the attempt that it is of
abbrev pub part_answer : Part → Option Evidence → Option RelaxedPlan → SizeView → Told
part_answer part None plan size = text_of status.Unavailable (codes "503: there was no round yet\n")
part_answer part (Some evidence) plan size = record {
  status = status.Ok;
  content = content.Text;
  attempt = Some evidence.attempt;
  allowed = None;
  body = part_text part evidence plan size;
}

abbrev pub relaxed_part : RelaxedPart → RelaxedPlan → List ℕ
relaxed_part relaxed.Settings plan = plan.settings.items
relaxed_part relaxed.Report plan = plan.report.items

-- a part of the plan that leaves out least numbers, if one is in force
abbrev pub relaxed_answer : RelaxedPart → Option Evidence → Option RelaxedPlan → Told
relaxed_answer part None plan = text_of status.Unavailable (codes "503: no least numbers are left out\n")
relaxed_answer part (Some evidence) None = text_of status.Unavailable (codes "503: no least numbers are left out\n")
relaxed_answer part (Some evidence) (Some plan) = record {
  status = status.Ok;
  content = content.Text;
  attempt = Some evidence.attempt;
  allowed = None;
  body = relaxed_part part plan;
}

-- ---- the size

abbrev pub size_text_answer : ℕ → List ℕ → Told
size_text_answer attempt text =
    record { status = status.Ok; content = content.Text; attempt = Some attempt; allowed = None; body = text }

-- how many workers are missing, and nothing if no backlog is wanted
abbrev pub size_answer : SizeView → Told
size_answer size.NotAsked = refused refusal.NoSuchPath
size_answer size.NoRound = text_of status.Unavailable (codes "503: there was no round yet\n")
size_answer size.NoMemory = text_of status.Unavailable (codes "503: there was no memory for the size\n")
size_answer (size.Text attempt text) = size_text_answer attempt text.items

-- ---- the farm

abbrev pub metrics_answer : Seen → Told
metrics_answer seen = record {
  status = status.Ok;
  content = content.Metrics;
  attempt = Some seen.farm.now.attempt;
  allowed = None;
  body = metrics_text seen.farm.now seen.moment;
}

-- how the farm is, with 200 if it is as it was asked
abbrev pub state_answer : Seen → Bool → Told
state_answer seen is_so = text_of (if is_so then status.Ok else status.Unavailable) (health_text seen.farm.now seen.moment)

abbrev pub health_answer : Seen → Told
health_answer seen = state_answer seen (is_healthy seen.farm.now seen.moment)

abbrev pub live_answer : Seen → Told
live_answer seen = state_answer seen (is_live seen.moment)

-- a page without a tag that is not its own, which asks for itself again or does not, with the condition of the farm at the moment,
-- its sentence, what is to be done, and a row for all workers and for each function, host, cause and job that was not completed
pub record IsPage (seen : Seen) (refresh : Refresh) (answer : Told) : Type 0 where
  pub found : answer.status ≡ status.Ok
  pub shown : answer.content ≡ content.Page
  pub attempt : answer.attempt ≡ Some seen.farm.now.attempt
  pub allowed : answer.allowed ≡ None
  pub own : IsPageOf refresh answer.body
  pub condition : Holds answer.body (body_tag (condition_at seen.farm.now seen.moment))
  pub sentence : Holds answer.body (headline (sentence_at seen.farm.now seen.moment))
  pub busy : Holds answer.body (function_rows Busy seen.farm.now.workers.all seen.farm.now.functions.items)
  pub quiet : Holds answer.body (function_rows Quiet seen.farm.now.workers.all seen.farm.now.functions.items)
  pub notices : Holds answer.body (notices seen.farm.now)
  pub hosts : Holds answer.body (host_rows seen.farm.now.hosts.items)
  pub workers : Holds answer.body (workers_row seen.farm.now)
  pub ends : Holds answer.body (end_rows seen.farm.now.ends.items)
  pub failures : Holds answer.body (failures_part seen.farm.now.failures)

-- ---- all together

abbrev pub part_of : Seen → Part → Told
part_of seen part = part_answer part seen.farm.now.evidence seen.farm.now.relaxed seen.farm.now.size

abbrev pub relaxed_of : Seen → RelaxedPart → Told
relaxed_of seen part = relaxed_answer part seen.farm.now.evidence seen.farm.now.relaxed

abbrev pub RepliesAt : Seen → Refresh → Place → Reply → Type 0
RepliesAt seen refresh place.Page reply = (answer : Told) × (reply ≡ told answer) × IsPage seen refresh answer
RepliesAt seen refresh place.Metrics reply = reply ≡ told (metrics_answer seen)
RepliesAt seen refresh place.Evidence reply = reply ≡ told (part_of seen part.Whole)
RepliesAt seen refresh place.Report reply = reply ≡ told (part_of seen part.Report)
RepliesAt seen refresh place.Status reply = reply ≡ told (part_of seen part.Status)
RepliesAt seen refresh place.Lost reply = reply ≡ told (part_of seen part.Lost)
RepliesAt seen refresh place.RelaxedSettings reply = reply ≡ told (relaxed_of seen relaxed.Settings)
RepliesAt seen refresh place.RelaxedReport reply = reply ≡ told (relaxed_of seen relaxed.Report)
RepliesAt seen refresh place.Size reply = reply ≡ told (size_answer seen.farm.now.size)
RepliesAt seen refresh place.Health reply = reply ≡ told (health_answer seen)
RepliesAt seen refresh place.Live reply = reply ≡ told (live_answer seen)
RepliesAt seen refresh place.Drain reply = reply ≡ Drain

-- the page holds still if it is asked to
abbrev pub refresh_of : Asked → Refresh
refresh_of asked = if asked.is_still then Never else Soon

-- what is asked for, or the refusal
abbrev pub Replies : Seen → Asked → Result Place Refusal → Reply → Type 0
Replies seen asked (Ok at) reply = RepliesAt seen (refresh_of asked) at reply
Replies seen asked (Err refusal) reply = reply ≡ told (refused refusal)
