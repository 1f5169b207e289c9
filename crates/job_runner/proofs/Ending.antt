-- The end of a session, with the loss that it names.
use Rattle.std.proofs.Common.{true, ◌≡◌, ◌≢◌, take, zero, suc, ℕ, ◌+◌, ◌≤◌, List, [], ◌∷◌, ◌++◌, length, Option, Some, None, refl, sym, ap, subst, ◌∙◌, arith}
use Rattle.gear_packets.specs.Response.{AssignedJob}
use Rattle.std.specs.List.{filter, AllByRecursion}
use Rattle.std.proofs.Math.Seq.{take-append_seam}
use Rattle.std.proofs.lemmas.List.{append-nil, append_assoc}
use Rattle.gear_packets.specs.Request.{Packet, IsSent}
use Rattle.gear_packets.specs.Text.{assignments, sent, text_of, is_work, register, registered_by, registered, work_requests, SaysItsPackets}
use Rattle.job_runner.specs.declared.end.EndCause.TheVariants.{WriteFault}
use Rattle.job_runner.specs.Told.{Telling, replies}
use Rattle.job_runner.specs.declared.end.EndCause.{EndCause}
use Rattle.job_runner.specs.declared.end.SessionEnd.{SessionEnd}
use Rattle.worker_state.specs.declared.cause.Cause.{Cause}
use Rattle.job_runner.specs.declared.answering.Tally.{Tally}
use Rattle.job_runner.specs.Book.{Ledger, after_loss}
use Rattle.job_runner.specs.Course.{Duty, Session, session_of, asks, Ends, OneAtATime}
use Rattle.job_runner.specs.Ends.{loss_of}
use Rattle.job_runner.specs.Run.{FailsAs, Link, Lost, Served, Reason, tally_of}
use Rattle.byte_io.specs.Sides.{and_then}
use Rattle.job_runner.specs.Loop.{Halts}
use Rattle.job_runner.specs.Acting.{account, bytes_by}
use Rattle.job_runner.specs.Path.{Ended}
use Rattle.job_runner.proofs.Law.{answers_follow}

-- a loss is no part of a path
path_lost : (session : Session) (told : List Telling) (t : Tally) (written : Option (List ℕ)) (b : Ledger) (reason : EndCause) (c : Cause) → Ended session told (account t written b) reason → Ended session told (account t written (after_loss b c)) reason
path_lost session told t written b reason c e = record {
  events = e.events;
  sent = e.sent;
  at = e.at;
  path = e.path;
  met = e.met;
  packets = e.packets;
  last = e.last;
  reach = e.reach;
  reached = e.reached;
  written_is = e.written_is;
  each_sent = e.each_sent;
  later = e.later;
  messages_are = e.messages_are;
  all_met = e.all_met;
  orders_are = e.orders_are;
  told_are = e.told_are;
  chain = record {
    answered_is = e.chain.answered_is;
    reported = e.chain.reported;
    begins = e.chain.begins;
    grabbed = e.chain.grabbed;
    one_open = e.chain.one_open;
    grabs = e.chain.grabs;
    reports = e.chain.reports;
  };
  booked = e.booked;
}

-- ---- what was written, read again

fronts_sent : (ps qs : List Packet) → AllByRecursion IsSent (ps ++ qs) → AllByRecursion IsSent ps
fronts_sent [] qs h = tt
fronts_sent (p ∷ ps) qs h = (h.0, fronts_sent ps qs h.1)

-- whole packets are read as they were sent
pub read_again : SaysItsPackets → (duty : Duty) (bytes : List ℕ) (told : List Telling) (taken : List AssignedJob) (t : Tally) (b : Ledger) (reason : EndCause) (e : Ends duty bytes told taken t b reason) → reason ≢ WriteFault → (sent bytes).packets ≡ e.cut.sent
read_again law duty bytes told taken t b reason e other =
    let same : bytes ≡ text_of e.cut.sent = e.cut.bytes_are ∙ ap (λ (x : List ℕ). text_of e.cut.sent ++ x) (e.whole other) ∙ append-nil (text_of e.cut.sent) in
    ap (λ (x : List ℕ). (sent x).packets) same ∙ law e.cut.sent (fronts_sent e.cut.sent e.cut.next e.cut.each_sent)

-- so the work in them is the replies to the first jobs
pub work_done : SaysItsPackets → (duty : Duty) (bytes : List ℕ) (told : List Telling) (taken : List AssignedJob) (t : Tally) (b : Ledger) (reason : EndCause) → Ends duty bytes told taken t b reason → reason ≢ WriteFault → work_requests bytes ≡ replies (take t.answered told)
work_done law duty bytes told taken t b reason e other =
    let first : take t.answered told ≡ e.answered =
    ap (λ (n : ℕ). take n told) e.chain.answered_is ∙ ap (take (length e.answered)) e.told_are ∙ take-append_seam e.answered (e.begun ++ e.unwritten) in
    ap (filter is_work) (read_again law duty bytes told taken t b reason e other) ∙ e.cut.works ∙ ap replies (sym first)

take_sent : (k : ℕ) (ps : List Packet) → AllByRecursion IsSent ps → AllByRecursion IsSent (take k ps)
take_sent zero ps h = tt
take_sent (suc k) [] h = tt
take_sent (suc k) (p ∷ ps) h = (h.0, take_sent k ps h.1)

one_within : (k : ℕ) (names : List (List ℕ)) (ps : List Packet) → length names ≤ 1 → OneAtATime names ps → length (registered_by names (take k ps)) ≤ 1
one_within zero names ps few h = few
one_within (suc k) names [] few h = few
one_within (suc k) names (p ∷ ps) few h = one_within k (register names p) ps h.0 h.2

-- after each whole packet at most one function is registered
pub one_registered : SaysItsPackets → (duty : Duty) (bytes : List ℕ) (told : List Telling) (taken : List AssignedJob) (t : Tally) (b : Ledger) (reason : EndCause) (e : Ends duty bytes told taken t b reason) (k : ℕ) → length (registered (text_of (take k (e.cut.sent ++ e.cut.next)))) ≤ 1
one_registered law duty bytes told taken t b reason e k =
    let ps = e.cut.sent ++ e.cut.next in
    subst (λ (x : List Packet). length (registered_by [] x) ≤ 1) (sym (law (take k ps) (take_sent k ps e.cut.each_sent))) (one_within k [] ps (omega arith) e.cut.one)

one_asked : (names : List (List ℕ)) (before after : List Packet) (p : Packet) → OneAtATime names (before ++ p ∷ after) → asks p ≡ true → length (registered_by names (before ++ p ∷ [])) ≡ 1
one_asked names [] after p h asked = h.1 asked
one_asked names (q ∷ before) after p h asked = one_asked (register names q) before after p h.2 asked

-- and exactly one where the packet asks for it
pub one_where_asked : SaysItsPackets → (duty : Duty) (bytes : List ℕ) (told : List Telling) (taken : List AssignedJob) (t : Tally) (b : Ledger) (reason : EndCause) (e : Ends duty bytes told taken t b reason) (before after : List Packet) (p : Packet) → e.cut.sent ++ e.cut.next ≡ before ++ p ∷ after
    → asks p ≡ true → length (registered (text_of (before ++ p ∷ []))) ≡ 1
one_where_asked law duty bytes told taken t b reason e before after p same asked =
    let prefix = before ++ p ∷ [] in
    let split : before ++ p ∷ after ≡ prefix ++ after = sym (append_assoc before (p ∷ []) after) in
    let each = fronts_sent prefix after (subst (AllByRecursion IsSent) (same ∙ split) e.cut.each_sent) in
    subst (λ (x : List Packet). length (registered_by [] x) ≡ 1) (sym (law prefix each)) (one_asked [] before after p (subst (OneAtATime []) same e.cut.one) asked)

-- what a session promises, as one fact over what was written
abbrev pub Promised : Duty → (EndCause → List Telling → Type 0) → List ℕ → Option (List ℕ) → Link → Link → Ledger → SessionEnd → Type 0
Promised duty End read before old new book e = (bytes : List ℕ) × (told : List Telling) × (new.output.got ≡ and_then before bytes) × End e.cause told × Served (session_of duty before read) told bytes old new book e

-- all of it follows from the path
promised : SaysItsPackets → (duty : Duty) (End : EndCause → List Telling → Type 0) (read : List ℕ) (before : Option (List ℕ)) (old new : Link) (b : Ledger) (e : SessionEnd) (told : List Telling) → End e.cause told
    → Ended (session_of duty before read) told (account (tally_of e) new.output.got b) e.cause → Reason (session_of duty before read) old new (tally_of e) b e.cause → FailsAs old new e.cause → Lost (loss_of e.cause) b → Promised duty End read before old new b e
promised law duty End read before old new b e told ran path reason faults lost =
    let bytes = text_of path.sent ++ bytes_by path.reach path.packets in
    let ends : Ends duty bytes told (assignments read) (tally_of e) b e.cause = answers_follow (session_of duty before read) told (account (tally_of e) new.output.got b) e.cause path in (
      bytes,
      told,
      path.written_is,
      ran,
      record {
        ends = ends;
        whole = read_again law duty bytes told (assignments read) (tally_of e) b e.cause ends;
        work = work_done law duty bytes told (assignments read) (tally_of e) b e.cause ends;
        registers = one_registered law duty bytes told (assignments read) (tally_of e) b e.cause ends;
        asking = one_where_asked law duty bytes told (assignments read) (tally_of e) b e.cause ends;
        path = path;
        reason = reason;
        faults = faults;
        lost = lost;
      },
    )

-- with no loss
pub promised_kept : SaysItsPackets → (duty : Duty) (End : EndCause → List Telling → Type 0) (read : List ℕ) (before : Option (List ℕ)) (old new : Link) (b : Ledger) (e : SessionEnd) → Halts (session_of duty before read) End new.output.got (tally_of e) b e.cause × Reason (session_of duty before read) old new (tally_of e) b e.cause → FailsAs old new e.cause → b.losses ≡ 0 → loss_of e.cause ≡ None → Promised duty End read before old new b e
promised_kept law duty End read before old new b e ran faults none is =
    promised law duty End read before old new b e ran.0.told ran.0.ran ran.0.ended ran.1 faults (subst (λ (o : Option Cause). Lost o b) (sym is) none)

-- with one
pub promised_lost : SaysItsPackets → (duty : Duty) (End : EndCause → List Telling → Type 0) (read : List ℕ) (before : Option (List ℕ)) (old new : Link) (b after : Ledger) (e : SessionEnd) (c : Cause) → Halts (session_of duty before read) End new.output.got (tally_of e) b e.cause × Reason (session_of duty before read) old new (tally_of e) b e.cause → FailsAs old new e.cause → b.losses ≡ 0 → loss_of e.cause ≡ Some c → after ≡ after_loss b c → Promised duty End read before old new after e
promised_lost law duty End read before old new b after e c ran faults none is same = subst (λ (x : Ledger). Promised duty End read before old new x e) (sym same)
    (promised law duty End read before old new (after_loss b c) e ran.0.told ran.0.ran (path_lost (session_of duty before read) ran.0.told (tally_of e) new.output.got b e.cause c ran.0.ended) ran.1 faults
    (subst (λ (o : Option Cause). Lost o (after_loss b c)) (sym is) (ap (λ (n : ℕ). n + 1) none, refl)))
