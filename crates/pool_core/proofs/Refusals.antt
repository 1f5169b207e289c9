-- Where no refusal is due the event is possible.
use Rattle.std.proofs.Common.{◌≡◌, ℕ, ◌+◌, ◌<◌, ◌≤◌, Bool, true, false, length, Option, None, Some, refl, sym}
use Rattle.std.specs.Prelude.{◌&&◌, nat_lt, if◌then◌else◌, is_some}
use Rattle.std.proofs.lemmas.Bool.{false≢true, and_parts, leb-true, ltb-true}
use Rattle.worker_state.specs.declared.slot.WorkerName.{WorkerName}
use Rattle.worker_state.specs.declared.job.Standing.{Standing}
use Rattle.worker_state.specs.declared.job.Standing.TheVariants as standing
use Rattle.worker_state.specs.Limits.{max_generation, max_tickets}
use Rattle.worker_state.specs.Slots.{is_running, is_reporting, is_live, last_generation}
use Rattle.pool_core.specs.declared.error.BeginError.TheVariants as begin
use Rattle.pool_core.specs.declared.error.ReportError.TheVariants as report
use Rattle.pool_core.specs.declared.error.GrabError.TheVariants as grab
use Rattle.pool_core.specs.declared.error.JoinError.TheVariants as join
use Rattle.pool_core.specs.declared.error.LoseError.TheVariants as lose
use Rattle.pool_core.specs.declared.error.ExpireError.TheVariants as expire
use Rattle.worker_state.specs.declared.job.EndKind.{EndKind}
use Rattle.pool_core.specs.declared.event.Event.TheVariants as event
use Rattle.pool_core.specs.Machine.{IsPossible, is_live_in, open_ticket, has_open, standing_in, slot_in, owed}
use Rattle.pool_core.specs.Book.{Book, begin_refusal, report_refusal, grab_refusal, join_refusal, lose_refusal, expire_refusal, late_refusal, is_some_and, has_room}

-- the tests that were passed
all_three : {R : Type 0} (a b c : Bool) (x y z : R) → (if a then (if b then (if c then None else Some z) else Some y) else Some x) ≡ None → (a ≡ true) × (b ≡ true) × (c ≡ true)
all_three true true true x y z h = (refl, refl, refl)
all_three true true false x y z h = absurd (cc)
all_three true false c x y z h = absurd (cc)
all_three false b c x y z h = absurd (cc)

running_is : (o : Option Standing) → is_some_and is_running o ≡ true → o ≡ Some standing.Running
running_is None h = absurd (false≢true h)
running_is (Some standing.Running) h = refl
running_is (Some standing.Reporting) h = absurd (false≢true h)
running_is (Some (standing.Reported end)) h = absurd (false≢true h)
running_is (Some (standing.Lost worker cause)) h = absurd (false≢true h)

reporting_is : (o : Option Standing) → is_some_and is_reporting o ≡ true → o ≡ Some standing.Reporting
reporting_is None h = absurd (false≢true h)
reporting_is (Some standing.Running) h = absurd (false≢true h)
reporting_is (Some standing.Reporting) h = refl
reporting_is (Some (standing.Reported end)) h = absurd (false≢true h)
reporting_is (Some (standing.Lost worker cause)) h = absurd (false≢true h)

pub begin_possible : (book : Book) (w : WorkerName) (k : ℕ) → begin_refusal book w k ≡ None → IsPossible book.settings (event.Begin w k) book.state
begin_possible book w k h =
    let t = all_three (is_live_in book.state w) (has_open (open_ticket book.state w) k) (is_some_and is_running (standing_in book.state.standings k)) begin.Gone begin.WrongTicket begin.AlreadyReporting h in
    (t.0, t.1, running_is (standing_in book.state.standings k) t.2)

pub report_possible : (book : Book) (w : WorkerName) (k : ℕ) (end : EndKind) → report_refusal book w k ≡ None → IsPossible book.settings (event.Reported w k end) book.state
report_possible book w k end h =
    let t = all_three (is_live_in book.state w) (has_open (open_ticket book.state w) k) (is_some_and is_reporting (standing_in book.state.standings k)) report.Gone report.WrongTicket report.NotReporting h in
    (t.0, t.1, reporting_is (standing_in book.state.standings k) t.2)

full_or : {R : Type 0} (a b c : Bool) (x y z : R) → (if a then (if b then Some y else if c then None else Some z) else Some x) ≡ None → (a ≡ true) × (b ≡ false) × (c ≡ true)
full_or true false true x y z h = (refl, refl, refl)
full_or true false false x y z h = absurd (cc)
full_or true true c x y z h = absurd (cc)
full_or false b c x y z h = absurd (cc)

none_is : {X : Type 0} (o : Option X) → is_some o ≡ false → o ≡ None
none_is None h = refl
none_is (Some x) h = absurd (false≢true (sym h))

-- a grab is possible, and there is room for it and the two that close it
pub grab_possible : (book : Book) (w : WorkerName) → grab_refusal book w ≡ None
    → (is_live_in book.state w ≡ true) × (open_ticket book.state w ≡ None) × (length book.events + owed book.state + 3 ≤ book.settings.history) × (length book.state.standings < max_tickets)
grab_possible book w h =
    let t = full_or (is_live_in book.state w) (is_some (open_ticket book.state w)) (has_room book 3 && nat_lt (length book.state.standings) max_tickets) grab.Gone grab.Busy grab.HistoryFull h in
    let u = and_parts (has_room book 3) (nat_lt (length book.state.standings) max_tickets) t.2 in
    (t.0, none_is (open_ticket book.state w) t.1, leb-true _ _ u.0, ltb-true _ _ u.1)

used_or : {R : Type 0} (a b c : Bool) (x y z : R) → (if a then Some x else if b then (if c then None else Some z) else Some y) ≡ None → (a ≡ false) × (b ≡ true) × (c ≡ true)
used_or false true true x y z h = (refl, refl, refl)
used_or false true false x y z h = absurd (cc)
used_or false false c x y z h = absurd (cc)
used_or true b c x y z h = absurd (cc)

pub join_possible : (book : Book) (slot : ℕ) → join_refusal book slot ≡ None
    → (is_live (slot_in book.state.slots slot) ≡ false) × (last_generation (slot_in book.state.slots slot) < max_generation) × (length book.events + owed book.state + 2 ≤ book.settings.history)
join_possible book slot h =
    let t = used_or (is_live (slot_in book.state.slots slot)) (nat_lt (last_generation (slot_in book.state.slots slot)) max_generation) (has_room book 2) join.AlreadyLive join.GenerationsUsed join.HistoryFull h in
    (t.0, ltb-true _ _ t.1, leb-true _ _ t.2)

gone_or : {R : Type 0} (a : Bool) (x : R) → (if a then None else Some x) ≡ None → a ≡ true
gone_or true x h = refl
gone_or false x h = absurd (cc)

pub lose_possible : (book : Book) (w : WorkerName) → lose_refusal book w ≡ None → is_live_in book.state w ≡ true
lose_possible book w h = gone_or (is_live_in book.state w) lose.Gone h

late_or : {R : Type 0} (a : Bool) (o : Option R) (x : R) → (if a then o else Some x) ≡ None → a ≡ true
late_or true o x h = refl
late_or false o x h = absurd (cc)

pub expire_possible : (book : Book) (w : WorkerName) (now : ℕ) → expire_refusal book w now ≡ None → is_live_in book.state w ≡ true
expire_possible book w now h = late_or (is_live_in book.state w) (late_refusal book w now (open_ticket book.state w)) expire.Gone h
