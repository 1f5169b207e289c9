-- When a host is left alone.
use Rattle.std.specs.Prelude.{ℕ, ◌+◌, ◌-◌, ◌^◌, min, Bool, true, false, not, ◌&&◌, ◌==◌, if◌then◌else◌}
use Rattle.std.specs.Prelude.{◌≡◌, ◌≤◌, ◌*◌, ◌/◌, ⊤, IfSome, max, nat_le, nat_lt}
use Rattle.std.specs.Prelude.{Option, Some, None, Result, Ok, Err}
use Rattle.devices.specs.declared.dial_error.DialError.{DialError}
use Rattle.devices.specs.declared.dial_error.DialError.TheVariants.{NoPort, TooManyFiles, Memory, NoAddress, NoAnswer}
use Rattle.http_jobs.specs.declared.fault.NotDone.{NotDone}
use Rattle.http_jobs.specs.declared.fault.NotDone.TheVariants as not_done
use Rattle.http_jobs.specs.declared.fault.Unserved.TheVariants as unserved
use Rattle.http_jobs.specs.declared.outcome.Reply.{Reply}
use Rattle.job_runner.specs.declared.jobs.Readiness.{Readiness}
use Rattle.job_runner.specs.declared.jobs.Readiness.TheVariants.{Lost}
use Rattle.farm_hosts.specs.declared.host_sign.HostSign.{HostSign}
use Rattle.farm_hosts.specs.declared.host_sign.HostSign.TheVariants as sign
use Rattle.farm_hosts.specs.declared.host_state.BeforeJob.{BeforeJob}
use Rattle.farm_hosts.specs.declared.host_state.BeforeJob.TheVariants.{Ask, Dial, Look, End}
use Rattle.farm_hosts.specs.declared.host_entry.HostEntry.{HostEntry}
use Rattle.farm_hosts.specs.declared.host_state.Absence.{Absence}
use Rattle.farm_hosts.specs.declared.host_state.HostState.{HostState}
use Rattle.farm_hosts.specs.declared.host_state.HostState.TheVariants as state
use Rattle.farm_hosts.specs.declared.left_jobs.LeftJob.{LeftJob}
use Rattle.farm_hosts.specs.declared.left_jobs.LeftJobs.{LeftJobs}
use Rattle.farm_hosts.specs.declared.host_state.Reason.{Reason}
use Rattle.farm_hosts.specs.declared.host_state.Reason.TheVariants.{Unreachable, Unserved}
use Rattle.worker_state.specs.declared.slot.WorkerName.{WorkerName}

-- The dial failed for what this process or machine lacked, and says nothing of the host.
abbrev pub is_local : DialError → Bool
is_local TooManyFiles = true
is_local NoPort = true
is_local Memory = true
is_local other = false

-- Such a dial before a job says nothing of the host if it failed so. A look says nothing of it either if the host's name was not found: the
-- host counts as reached, and the connections that are kept to it need no name.
abbrev pub says_nothing : BeforeJob → DialError → Bool
says_nothing Look NoAddress = true
says_nothing does why = is_local why

-- what such a dial before a job says of the host, if it says anything
abbrev pub said_of_host : BeforeJob → Result (Unit {0}) DialError → Option (Result (Unit {0}) DialError)
said_of_host does (Ok reached) = Some (Ok reached)
said_of_host does (Err why) = if says_nothing does why then None else Some (Err why)

-- A worker that dialled its host goes on, unless the dial said that it was not reached.
abbrev pub lets_go_on : Option (Result (Unit {0}) DialError) → Bool
lets_go_on (Some (Err why)) = false
lets_go_on other = true

-- why a host is left alone, if it is
abbrev pub reason_of : HostState → Option Reason
reason_of (state.Present presence) = None
reason_of (state.Away absence) = Some absence.why

-- the worker that tries whether it serves jobs again, if there is one
abbrev pub trier_of : HostState → Option WorkerName
trier_of (state.Present presence) = None
trier_of (state.Away absence) = absence.trier

-- it asks, after a look at its host if it has cause for one
abbrev pub asking : Bool → BeforeJob
asking has_to_look = if has_to_look then Look else Ask

-- What a worker does before it asks for one more job, by why its host is left alone, whether it is the one that tries the host, and whether
-- it has cause to look at the host. One that was not reached is dialled; and of one whose jobs are not served all other workers end.
abbrev pub before_job : Option Reason → Bool → Bool → BeforeJob
before_job (Some Unreachable) is_trier has_to_look = Dial
before_job (Some Unserved) is_trier has_to_look = if is_trier then asking has_to_look else End
before_job None is_trier has_to_look = asking has_to_look

-- how many of its workers may start in an attempt, if it is not left alone
abbrev pub starts_of : HostState → Option ℕ
starts_of (state.Present presence) = Some presence.starts
starts_of (state.Away absence) = None

-- How many attempts pass at most before a host that takes no connection is dialled again, if so many milliseconds pass between two: those
-- of 10 seconds, 64 at most, and 1 at least.
abbrev pub longest_unreached : ℕ → ℕ
longest_unreached round_ms = min (max (10000 / max round_ms 1) 1) 64

-- How many attempts pass at most between two tries, by why the host is left alone, if one that takes no connection may wait for so many.
abbrev pub longest_wait : Reason → ℕ → ℕ
longest_wait Unreachable longest = longest
longest_wait Unserved longest = 8

-- how many attempts pass before it is tried, once it is left alone, or before the try after the next
abbrev pub wait_of : HostState → ℕ
wait_of (state.Present presence) = presence.wait
wait_of (state.Away absence) = absence.wait

-- this is so of it, if it is left alone
abbrev pub IfAway : HostState → (Absence → Type 0) → Type 0
IfAway (state.Present presence) Holds = ⊤
IfAway (state.Away absence) Holds = Holds absence

-- If a worker that joins in this attempt comes to try it, the next try comes after a wait that is twice as long, up to the longest one.
abbrev pub IsTriedIn : ℕ → ℕ → Absence → Absence → Type 0
IsTriedIn attempt longest before after = before.due ≤ attempt
    → (after.wait ≡ min (before.wait * 2) (longest_wait before.why longest)) × (after.due ≡ min (attempt + after.wait) (2 ^ 64 - 1))

-- the attempt from which on it is tried, whoever tries it now, if it is left alone
abbrev pub due_of : HostState → Option ℕ
due_of (state.Present presence) = None
due_of (state.Away absence) = Some absence.due

-- so many attempts more pass before another worker may come, by the one that tries it
abbrev pub wait_beside : Option WorkerName → ℕ
wait_beside (Some worker) = 64
wait_beside None = 0

-- from which attempt on one worker may start to try it
abbrev pub next_try : Absence → ℕ
next_try absence = min (absence.due + wait_beside absence.trier) (2 ^ 64 - 1)

-- the same, if it is left alone
abbrev pub try_of : HostState → Option ℕ
try_of (state.Present presence) = None
try_of (state.Away absence) = Some (next_try absence)

-- if it is left alone, one worker may try it in this attempt, or could before
abbrev pub MayBeTriedFrom : ℕ → HostState → Type 0
MayBeTriedFrom attempt host = IfSome (try_of host) (λ due. due ≤ attempt)

-- it is left alone, and from this attempt on one worker may try it
abbrev pub is_due : HostState → ℕ → Bool
is_due (state.Present presence) attempt = false
is_due (state.Away absence) attempt = nat_le absence.due attempt

-- none of its workers is at a job there or takes a look, and nothing was heard of it for four attempts
abbrev pub is_silent : HostEntry → ℕ → Bool
is_silent host attempt = (host.busy == 0) && nat_le (min (host.heard + 4) (2 ^ 64 - 1)) attempt

-- A worker has cause to look at its host if it is told that the connection that it kept was closed, or if the host is silent.
abbrev pub has_to_look : Readiness → HostEntry → ℕ → Bool
has_to_look Lost host attempt = true
has_to_look other host attempt = is_silent host attempt

-- Why it is left alone after a round without a plan, by what it was before and by the worker that tries it, if there is one. In such a
-- round no worker is given a function, so that one has no job: then a host whose jobs were not served is left alone no more.
abbrev pub after_no_plan : Option Reason → Option WorkerName → Option Reason
after_no_plan (Some Unserved) (Some worker) = None
after_no_plan before trier = before

-- why it is left alone once a connection was opened, by what it was before
abbrev pub after_opening : Option Reason → Option Reason
after_opening (Some Unreachable) = None
after_opening before = before

-- How many of its workers may start in an attempt once a connection was opened, by why it was left alone before and how many could start.
-- One that is back may have been started just now, so 2 do at first.
abbrev pub starts_after_opening : Option Reason → Option ℕ → Option ℕ
starts_after_opening (Some Unreachable) starts = Some 2
starts_after_opening (Some Unserved) starts = None
starts_after_opening None starts = starts

-- The same after it served a job.
abbrev pub starts_after_served : Option Reason → Option ℕ → Option ℕ
starts_after_served (Some Unreachable) starts = None
starts_after_served (Some Unserved) starts = Some 2
starts_after_served None starts = starts

-- Why it is left alone after a dial, by what it was before. A dial that failed marks the host, if it did not fail for what was lacked here.
-- One that succeeded frees a host that was left alone since it was not reached, and no other.
abbrev pub after_dial : Option Reason → Result (Unit {0}) DialError → Option Reason
after_dial before (Err why) = if is_local why then before else Some Unreachable
after_dial before (Ok _) = after_opening before

-- Why it is left alone after it served a job, by what it was before. One that is not reached stays so: the job was sent over a connection
-- that was open before.
abbrev pub after_served : Option Reason → Option Reason
after_served (Some Unreachable) = Some Unreachable
after_served before = None

-- So many new jobs in a row mark a host with so many workers: as many as workers, but 3 at least and 16 at most.
abbrev pub jobs_that_mark : ℕ → ℕ
jobs_that_mark workers = min (max workers 3) 16

-- what a host left of which nothing is known
abbrev pub left_nothing : LeftJobs
left_nothing = record { new_jobs = 0; spared_until_ms = 0 }

-- Before which moment a host is not marked that served a job at this time: 200 milliseconds later. Before none if the time is not known.
abbrev pub spared_until : Option ℕ → ℕ
spared_until (Some now_ms) = min (now_ms + 200) (2 ^ 64 - 1)
spared_until None = 0

-- what it left once it served a job at this time
abbrev pub left_after_served : Option ℕ → LeftJobs
left_after_served now_ms = record { new_jobs = 0; spared_until_ms = spared_until now_ms }

-- how many new jobs it left in a row, with one more
abbrev pub left_with : LeftJob → LeftJobs → LeftJobs
left_with job left = record left { new_jobs = if job.is_new then min (left.new_jobs + 1) (2 ^ 32 - 1) else left.new_jobs }

-- it is not marked at this time, since it served a job just before
abbrev pub are_spared : Option ℕ → LeftJobs → Bool
are_spared (Some now_ms) left = nat_lt now_ms left.spared_until_ms
are_spared None left = false

-- Jobs mark the host that left them, the last of which is this one: they are so many new ones, and it has not served one just before.
abbrev pub marks : LeftJob → LeftJobs → Bool
marks job left = nat_le (jobs_that_mark job.workers) left.new_jobs && not (are_spared job.now_ms left)

-- for how many milliseconds more a host is spared that left so many new jobs, if the time is known
abbrev pub doubt_at : Option ℕ → LeftJobs → ℕ
doubt_at (Some now_ms) left = min (left.spared_until_ms - now_ms) 200
doubt_at None left = 0

-- the same, and 0 if it left fewer
abbrev pub doubt_ms : LeftJob → LeftJobs → ℕ
doubt_ms job left = if nat_le (jobs_that_mark job.workers) left.new_jobs then doubt_at job.now_ms left else 0

-- Why it is left alone after it left this job unserved, by why it was before, and by what it had left.
abbrev pub after_left : Option Reason → LeftJobs → LeftJob → Option Reason
after_left (Some why) left job = Some why
after_left None left job = if marks job (left_with job left) then Some Unserved else None

-- What a dial for a job that failed so tells of the host. If the job had less time than a dial, that may have cut the dial off.
abbrev pub sign_of_dial : Bool → DialError → HostSign
sign_of_dial true NoAnswer = sign.Unserved
sign_of_dial is_hurried why = sign.Unreached why

-- What a job with so much time tells of its host, to which a dial may take so long: that it serves jobs, left one unserved or was not
-- reached, or nothing, if no service was asked or memory was refused.
abbrev pub sign_of : ℕ → ℕ → Result (Option Reply) NotDone → HostSign
sign_of timeout_ms connect_ms (Ok (Some reply)) = sign.Served
sign_of timeout_ms connect_ms (Ok None) = sign.Nothing
sign_of timeout_ms connect_ms (Err not_done.Memory) = sign.Nothing
sign_of timeout_ms connect_ms (Err (not_done.Unserved (unserved.Unreachable why))) = sign_of_dial (nat_lt timeout_ms connect_ms) why
sign_of timeout_ms connect_ms (Err (not_done.Unserved other)) = sign.Unserved
