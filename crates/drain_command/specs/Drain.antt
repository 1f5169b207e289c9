-- A drain: the request for it, what came of it, and what the command does then.
use Rattle.std.specs.Prelude.{◌≡◌, ◌≢◌, ◌⊎◌, ℕ, Bool, List, [], ◌∷◌, ◌++◌, codes, take, Option, Result, Ok, Err}
use Rattle.std.specs.Prelude.{Vec, true, false}
use Rattle.std.specs.declared.alloc.Global.{Global}
use Rattle.httparse.specs.Grammar.{status_code}
use Rattle.http1.specs.Fields.{Header}
use Rattle.http1.specs.Message.{Response}
use Rattle.byte_io.specs.Sides.{Input, Output, and_then}
use Rattle.job_runner.specs.Run.{Link, seen_link}
use Rattle.http_jobs.specs.Exchange.{Explains}
use Rattle.http_jobs.specs.Post.{post_text}
use Rattle.http_jobs.specs.Reasons.{HasStatus, Seen}
use Rattle.http_jobs.specs.Response.{Answers, OnlyLarger, ends_with_connection, head_limits}
use Rattle.http_jobs.specs.Serving.{DialCall, IsNew, IsFailedDial, closed, opened}
use Rattle.http_jobs.specs.declared.answers.Answer.{Answer}
use Rattle.http_jobs.specs.declared.answers.Received.{Received}
use Rattle.http_jobs.specs.declared.answers.Received.TheVariants as received
use Rattle.http_jobs.specs.declared.fault.NotDone.{NotDone}
use Rattle.http_jobs.specs.declared.fault.NotDone.TheVariants.{Unserved as Not, Memory as NoMemory}
use Rattle.http_jobs.specs.declared.fault.Unserved.{Unserved}
use Rattle.http_jobs.specs.declared.fault.Unserved.TheVariants as why
use Rattle.plan_commands.specs.Ending.{Delivers, Stops}
use Rattle.plan_commands.specs.Fault.{answered}
use Rattle.plan_commands.specs.ServicesMistake.{ReadsPage}
use Rattle.plan_commands.specs.declared.ending.Exit.{Exit}
use Rattle.plan_commands.specs.declared.fault.Fault.{Fault}
use Rattle.plan_commands.specs.declared.fault.Fault.TheVariants as fault
use Rattle.plan_commands.specs.declared.fault.PageError.{PageError}
use Rattle.plan_commands.specs.declared.fault.PageError.TheVariants as page
use Rattle.service_settings.specs.Services.{Page}

-- ---- the request

abbrev pub drain_target : List ℕ
drain_target = codes "/drain"

abbrev pub drain_headers : List Header
drain_headers = (codes "host", codes "localhost") ∷ (codes "poolman", codes "drain") ∷ []

abbrev pub drain_request : List ℕ
drain_request = post_text drain_target drain_headers []

-- the most bytes that totals may have
abbrev pub most_totals : ℕ
most_totals = 1048576

-- ---- what came over a connection

-- the connection was new, and these bytes went over it, out and in
pub record Carried (sent read : List ℕ) (before after : Link) : Type 0 where
  pub fresh : IsNew before
  pub out : after.output.got ≡ and_then before.output.got sent
  pub back : after.input.given ≡ and_then before.input.given read

-- The request went out over a new connection, and a whole response of status 200 came back over it, whose body, of a bounded length, is
-- these totals.
pub record IsTold (totals : List ℕ) (after : Link) : Type 0 where
  pub before : Link
  pub read : List ℕ
  pub rest : List ℕ
  pub response : Response
  pub carried : Carried drain_request read before after
  pub answers : Answers head_limits read response rest
  pub status : status_code response.head ≡ 200
  pub bounded : ends_with_connection response.head ≡ false
  pub body : totals ≡ response.body.bytes

-- a whole response with this status, which is another than 200
abbrev pub AnswersBy : List ℕ → ℕ → Type 0
AnswersBy read status =
    (response : Response) × (rest : List ℕ) × Answers head_limits read response rest × (status_code response.head ≡ status) × (status ≢ 200)

-- Over a new connection over which a prefix of the request went out a response with this status came back.
abbrev pub IsRefused : ℕ → Link → Type 0
IsRefused status after = (before : Link) × (count : ℕ) × (read : List ℕ) × Carried (take count drain_request) read before after
    × (AnswersBy read status ⊎ HasStatus head_limits read status)

-- why what came is no whole answer: no response did, or one that is too large, or one that may be cut
abbrev pub IsNoAnswer : Option ℕ → Seen → Link → Link → Type 0
IsNoAnswer deadline seen before after =
    ((why : Unserved) × Explains most_totals deadline seen before after (Not why))
    ⊎ (OnlyLarger head_limits most_totals seen.read
    ⊎ ((response : Response) × (rest : List ℕ) × Answers head_limits seen.read response rest × (ends_with_connection response.head ≡ true)))

-- Over a new connection over which a prefix of the request went out no whole answer came back.
abbrev pub IsUnanswered : Link → Type 0
IsUnanswered after = (before : Link) × (count : ℕ) × (deadline : Option ℕ) × (seen : Seen)
    × Carried (take count drain_request) seen.read before after × IsNoAnswer deadline seen before after

-- ---- the calls of what dials

-- the last connection was closed as it was
abbrev pub EndsOver : List DialCall → Link → Type 0
EndsOver calls after = (before : List DialCall) × (calls ≡ before ++ opened ∷ closed after ∷ [])

-- the first connection was
abbrev pub BeginsOver : List DialCall → Link → Type 0
BeginsOver calls after = (more : List DialCall) × (calls ≡ opened ∷ closed after ∷ more)

-- These totals were told over the last connection.
abbrev pub IsToldIn : List DialCall → List ℕ → Type 0
IsToldIn calls totals = (after : Link) × EndsOver calls after × IsTold totals after

-- Why no totals were told: the only dial failed, or the first connection brought no whole answer, or the last one a refusal. Or memory was
-- refused.
abbrev pub IsNotToldIn : List DialCall → Fault → Type 0
IsNotToldIn calls (fault.Page page.Unreached) = IsFailedDial calls
IsNotToldIn calls (fault.Page page.Unanswered) = (after : Link) × BeginsOver calls after × IsUnanswered after
IsNotToldIn calls (fault.Page (page.Refused status)) = (after : Link) × EndsOver calls after × IsRefused status after
IsNotToldIn calls fault.Memory = Unit {0}
IsNotToldIn calls other = ⊥

-- ---- the command

-- The services file has a page, and by some calls these totals were told.
abbrev pub IsToldBy : List ℕ → List ℕ → Type 0
IsToldBy services_text totals = (p : Page) × ReadsPage services_text (Ok p) × ((calls : List DialCall) × IsToldIn calls totals)

-- The services file has a mistake, or by some calls no totals were told.
abbrev pub IsNotToldBy : List ℕ → Fault → Type 0
IsNotToldBy services_text f =
    ReadsPage services_text (Err f)
    ⊎ ((p : Page) × ReadsPage services_text (Ok p) × ((calls : List DialCall) × IsNotToldIn calls f))

-- Totals were told, which are written, with status 0. Or none were, and nothing is written.
abbrev pub Drains : List ℕ → Output → Output → Exit → Type 0
Drains services_text old new exit =
    ((totals : List ℕ) × IsToldBy services_text totals × Delivers totals (answered 0) old new exit)
    ⊎ ((f : Fault) × IsNotToldBy services_text f × Stops f old new exit)

-- ---- steps

abbrev pub IsNewLink : {L : Type 0} → (L → Input) → (L → Output) → L → Type 0
IsNewLink input output link = IsNew (seen_link input output link)

-- what a request over a new connection came to
abbrev pub ComesTo : Link → Result (Vec ℕ Global) Fault → Type 0
ComesTo after (Ok totals) = IsTold totals.items after
ComesTo after (Err (fault.Page page.Unanswered)) = IsUnanswered after
ComesTo after (Err (fault.Page (page.Refused status))) = IsRefused status after
ComesTo after (Err fault.Memory) = Unit {0}
ComesTo after (Err other) = ⊥

abbrev pub ComesOver : {L : Type 0} → (L → Input) → (L → Output) → L → Result (Vec ℕ Global) Fault → Type 0
ComesOver input output after r = ComesTo (seen_link input output after) r

-- A whole answer is taken as totals if its status is 200 and its body is bounded.
abbrev pub TakesAnswer : Answer → Result (Vec ℕ Global) PageError → Type 0
TakesAnswer answer (Ok totals) = (answer.status ≡ 200) × (answer.is_unbounded ≡ false) × (totals ≡ answer.body)
TakesAnswer answer (Err page.Unanswered) = (answer.status ≡ 200) × (answer.is_unbounded ≡ true)
TakesAnswer answer (Err (page.Refused status)) = (answer.status ≢ 200) × (status ≡ answer.status)
TakesAnswer answer (Err page.Unreached) = ⊥

abbrev pub as_fault : Result (Vec ℕ Global) PageError → Result (Vec ℕ Global) Fault
as_fault (Ok totals) = Ok totals
as_fault (Err e) = Err (fault.Page e)

-- what came of the request, as totals or as a fault
abbrev pub TakesWhatCame : Result Received NotDone → Result (Vec ℕ Global) Fault → Type 0
TakesWhatCame (Ok (received.Whole answer)) r = (taken : Result (Vec ℕ Global) PageError) × TakesAnswer answer taken × (r ≡ as_fault taken)
TakesWhatCame (Ok received.TooLarge) r = r ≡ Err (fault.Page page.Unanswered)
TakesWhatCame (Err (Not (why.Status status))) r = r ≡ Err (fault.Page (page.Refused status))
TakesWhatCame (Err (Not other)) r = r ≡ Err (fault.Page page.Unanswered)
TakesWhatCame (Err NoMemory) r = r ≡ Err fault.Memory

-- what a try comes to after others, over whose connections no whole answer came
abbrev pub came_to : Bool → Result (Vec ℕ Global) Fault → Result (Vec ℕ Global) Fault
came_to true (Err (fault.Page page.Unreached)) = Err (fault.Page page.Unanswered)
came_to was_there came = came

-- no other try comes after one that came to this
abbrev pub is_last : Result (Vec ℕ Global) Fault → Bool
is_last (Err (fault.Page page.Unanswered)) = false
is_last _ = true

-- the calls of the tries so far, if there was one: over the first connection no whole answer came
abbrev pub AfterTries : Bool → List DialCall → Type 0
AfterTries false calls = calls ≡ []
AfterTries true calls = (after : Link) × BeginsOver calls after × IsUnanswered after
