-- The path of a session goes on by each step, and ends in one way.
use Rattle.std.proofs.Common.{◌≡◌, ◌≢◌, ◌≤◌, ◌+◌, length, ℕ, List, [], ◌∷◌, ◌++◌, take, drop, Option, Some, None, Result, Ok, Err, refl, sym, ap, subst, ◌∙◌, arith, add-zero}
use Rattle.std.specs.List.{AllByRecursion}
use Rattle.std.proofs.lemmas.List.{append-nil, length-append, length_push, take-append-drop}
use Rattle.std.proofs.lemmas.List.Elements.{filter_map-append}
use Rattle.gear_packets.specs.Request.{Packet, set_client_id, pre_sleep, IsSent}
use Rattle.gear_packets.specs.Response.{AssignedJob, Message, assign}
use Rattle.gear_packets.specs.Text.{text_of, reading}
use Rattle.byte_io.specs.Sides.{and_then}
use Rattle.byte_io.proofs.Devices.{told_nothing}
use Rattle.worker_state.specs.OrderParts.{OrderParts}
use Rattle.job_runner.specs.declared.end.EndCause.{EndCause}
use Rattle.job_runner.specs.declared.end.EndCause.TheVariants.{WriteFault, Memory, Stopped}
use Rattle.job_runner.specs.declared.end.EndCause.TheVariants as cause
use Rattle.job_runner.specs.declared.order.Phase.{Phase}
use Rattle.job_runner.specs.declared.order.Phase.TheVariants.{Asleep, Waiting}
use Rattle.job_runner.specs.declared.state.State.{State}
use Rattle.job_runner.specs.declared.worker.Worker.{Worker}
use Rattle.job_runner.specs.declared.answering.Tally.{Tally}
use Rattle.job_runner.specs.Told.{Telling, telling, answer_to}
use Rattle.job_runner.specs.Book.{Ledger, after_order, no_calls}
use Rattle.job_runner.specs.Course.{Duty, Session, session_of, Even, Chain, GoesOnOrEnds, Sends, obeying, name_of}
use Rattle.job_runner.specs.Listening.{SaysFirst}
use Rattle.job_runner.specs.Loop.{first_state, duty_in}
use Rattle.job_runner.specs.Following.{Scene, Obeys, stops, goes, phase_with}
use Rattle.job_runner.specs.Acting.{Moment, moment, scene_of, Account, account, account_of, Came, tellings_of, reply_of, Begins, Asked, skip, sleep, follow, serve, end, asked_by, FollowsOrder, Answers, Does, told_at, looked_at, Looks, sees_stop, stays, is_due, Glances}
use Rattle.job_runner.specs.Acting.{Reach, nothing, whole, up_to, whole_by, begun_by, bytes_by, IsReach, Breaks, Replied}
use Rattle.job_runner.specs.Path.{Event, starts, ordered, looked, heard, ran, unnamed, following, hearing, Place, place, place_of, meant_in, event_of, Step, named, obeyed, unchanged, changed, skipped, slept, woken, served}
use Rattle.job_runner.specs.Path.{start, then, IsSendEnd, IsWaitEnd, Last, stopped, stopped_waiting, refused, unsent, unanswered, waiting, message_at, order_at, telling_at, messages_in, orders_in, tellings_in, Went, WaitsForMore, Ended}
use Rattle.job_runner.proofs.Told.{goes_after}
use Rattle.job_runner.proofs.Steps.{all_append, text_append, left_over}
use Rattle.job_runner.proofs.Orders.{even_order, even_chain}
use Rattle.job_runner.proofs.Asking.{asked_end, asked_job}

abbrev pub Result0 : Type 0
Result0 = Result (Unit {0}) EndCause

cause_in : Result0 → EndCause
cause_in (Ok u) = Stopped
cause_in (Err reason) = reason

pub same_cause : (a b : EndCause) → ◌≡◌ {A = Result0} (Err a) (Err b) → a ≡ b
unfolding cause_in
same_cause a b e = ap cause_in e

-- ---- one event

went_on : (duty : Duty) (before : Option (List ℕ)) (given more : List Message) (told on : List Telling) (old new : Account) (from to : Place) (event : Event) (packets : List Packet)
    → Went duty before given told old from → Step duty from event packets to → new.written ≡ and_then old.written (text_of packets) → AllByRecursion IsSent packets
    → more ≡ given ++ messages_in (event ∷ []) → on ≡ told ++ tellings_in (event ∷ []) → new.book.orders ≡ old.book.orders ++ orders_in (event ∷ [])
    → Even new.tally new.book (length on) → Went duty before more on new to
went_on duty before given more told on old new from to event packets w step wrote each m t o even = record {
  events = w.events ++ event ∷ [];
  sent = w.sent ++ packets;
  path = then w.events w.sent from event packets to w.path step;
  written_is = goes_after before (text_of w.sent) (text_of packets) old.written new.written w.written_is wrote ∙ ap (and_then before) (sym (text_append w.sent packets));
  each_sent = all_append IsSent w.sent packets w.each_sent each;
  messages_are = filter_map-append message_at w.events (event ∷ []) ∙ ap (λ (x : List Message). x ++ messages_in (event ∷ [])) w.messages_are ∙ sym m;
  told_are = filter_map-append telling_at w.events (event ∷ []) ∙ ap (λ (x : List Telling). x ++ tellings_in (event ∷ [])) w.told_are ∙ sym t;
  orders_are = filter_map-append order_at w.events (event ∷ []) ∙ ap (λ (x : List OrderParts). x ++ orders_in (event ∷ [])) w.orders_are ∙ sym o;
  even = even;
}

ended_at : (session : Session) (given later ms : List Message) (told ys on : List Telling) (old new : Account) (from : Place) (event : Event) (packets : List Packet) (reason : EndCause) (reach : Reach)
    → Went session.duty session.before given told old from → Last session.duty from (Some event) packets reason → IsReach reach packets reason → new.written ≡ and_then old.written (bytes_by reach packets)
    → messages_in (event ∷ []) ≡ ms → (reading session.read).messages ≡ (given ++ ms) ++ later → (WaitsForMore (Some event) → later ≡ []) → new.book.orders ≡ old.book.orders ++ orders_in (event ∷ [])
    → tellings_in (event ∷ []) ≡ ys → on ≡ told ++ ys → Chain new.tally new.book (length (whole_by reach told ys)) (length (begun_by reach ys)) → length on ≤ new.tally.grabbed
    → Ended session on new reason
ended_at session given later ms told ys on old new from event packets reason reach w last reached wrote em m all o et t chain booked = record {
  events = w.events;
  sent = w.sent;
  at = from;
  path = w.path;
  met = Some event;
  packets = packets;
  last = last;
  reach = reach;
  reached = reached;
  written_is = goes_after session.before (text_of w.sent) (bytes_by reach packets) old.written new.written w.written_is wrote;
  each_sent = w.each_sent;
  later = later;
  messages_are = m ∙ ap (λ (x : List Message). (given ++ x) ++ later) (sym em) ∙ ap (λ (x : List Message). (x ++ messages_in (event ∷ [])) ++ later) (sym w.messages_are) ∙ ap (λ (x : List Message). x ++ later) (sym (filter_map-append message_at w.events (event ∷ [])));
  all_met = λ waits other. all waits;
  orders_are = filter_map-append order_at w.events (event ∷ []) ∙ ap (λ (x : List OrderParts). x ++ orders_in (event ∷ [])) w.orders_are ∙ sym o;
  told_are = t ∙ ap (λ (x : List Telling). told ++ x) (sym et) ∙ ap (λ (x : List Telling). x ++ tellings_in (event ∷ [])) (sym w.told_are);
  chain = subst (λ (x : List Telling). Chain new.tally new.book (length (whole_by reach x (tellings_in (event ∷ [])))) (length (begun_by reach (tellings_in (event ∷ []))))) (sym w.told_are)
      (subst (λ (x : List Telling). Chain new.tally new.book (length (whole_by reach told x)) (length (begun_by reach x))) (sym et) chain);
  booked = booked;
}

-- ---- with no job

even_same : (t : Tally) (b : Ledger) (told : List Telling) → Even t b (length told) → Even t b (length (told ++ []))
even_same t b told even = subst (λ (x : List Telling). Even t b (length x)) (sym (append-nil told)) even

untold_chain : (reach : Reach) (told : List Telling) (t : Tally) (b : Ledger) → Even t b (length told) → Chain t b (length (whole_by reach told [])) (length (begun_by {A = Telling} reach []))
untold_chain nothing told t b even = even_chain t b (length told) even
untold_chain whole told t b even = even_chain t b (length (told ++ [])) (even_same t b told even)
untold_chain (up_to part lost) told t b even = even_chain t b (length told) even

ended_untold : (session : Session) (given later ms : List Message) (told : List Telling) (old new : Account) (from : Place) (event : Event) (packets : List Packet) (reason : EndCause) (reach : Reach)
    → Went session.duty session.before given told old from → Last session.duty from (Some event) packets reason → IsReach reach packets reason → new.written ≡ and_then old.written (bytes_by reach packets)
    → messages_in (event ∷ []) ≡ ms → (reading session.read).messages ≡ (given ++ ms) ++ later → (WaitsForMore (Some event) → later ≡ []) → new.book.orders ≡ old.book.orders ++ orders_in (event ∷ [])
    → tellings_in (event ∷ []) ≡ [] → Even new.tally new.book (length told) → Ended session told new reason
ended_untold session given later ms told old new from event packets reason reach w last reached wrote em m all o et even =
    ended_at session given later ms told [] told old new from event packets reason reach w last reached wrote em m all o et (sym (append-nil told))
    (untold_chain reach told new.tally new.book even) (omega (arith, even.grabbed))

-- nothing more was written
unwritten : (old new : Option (List ℕ)) (packets : List Packet) → new ≡ old → new ≡ and_then old (bytes_by nothing packets)
unwritten old new packets e = e ∙ told_nothing old

-- how far packets were sent
record SentTo (old new : Option (List ℕ)) (packets : List Packet) (reason : EndCause) : Type 0 where
  reach : Reach
  reached : IsReach reach packets reason
  written : new ≡ and_then old (bytes_by reach packets)
  is_end : IsSendEnd reason

sent_to : (old new : Option (List ℕ)) (packets : List Packet) (reason : EndCause) → Sends old new packets (Err reason) → SentTo old new packets reason
sent_to old new packets WriteFault h = record {
  reach = up_to (take h.0 (text_of packets)) (drop h.0 (text_of packets));
  reached = (refl, h.3, sym (take-append-drop h.0 (text_of packets)), left_over h.0 (text_of packets) h.1);
  written = h.2;
  is_end = tt;
}
sent_to old new packets Memory h = record { reach = nothing; reached = λ e. cc; written = h ∙ told_nothing old; is_end = tt }
sent_to old new packets cause.Retired h = absurd h
sent_to old new packets cause.Gone h = absurd h
sent_to old new packets cause.BadPacket h = absurd h
sent_to old new packets cause.ServerError h = absurd h
sent_to old new packets cause.ReadFault h = absurd h
sent_to old new packets cause.TurnsUsed h = absurd h
sent_to old new packets cause.HistoryFull h = absurd h
sent_to old new packets cause.Closed h = absurd h
sent_to old new packets cause.Stopped h = absurd h
sent_to old new packets cause.Unserved h = absurd h

-- a session that waits for more to read ends
pub ended_waiting : (session : Session) (given : List Message) (told : List Telling) (now : Account) (s : State) (reason : EndCause)
    → Went session.duty session.before given told now (place_of s) → IsWaitEnd reason → (says : SaysFirst session.read given) → (reason ≢ Memory → says.0 ≡ []) → Ended session told now reason
ended_waiting session given told now s reason w is says all = record {
  events = w.events;
  sent = w.sent;
  at = place_of s;
  path = w.path;
  met = None;
  packets = [];
  last = waiting s.registered s.phase reason is;
  reach = nothing;
  reached = λ e. absurd (subst IsWaitEnd e is);
  written_is = w.written_is ∙ ap (and_then session.before) (sym (append-nil (text_of w.sent)));
  each_sent = w.each_sent;
  later = says.0;
  messages_are = says.1 ∙ ap (λ (x : List Message). x ++ says.0) (sym w.messages_are ∙ ap messages_in (sym (append-nil w.events)));
  all_met = λ waits. all;
  orders_are = ap orders_in (append-nil w.events) ∙ w.orders_are;
  told_are = sym w.told_are ∙ sym (append-nil (tellings_in w.events));
  chain = subst (λ (x : List Telling). Chain now.tally now.book (length x) 0) (sym w.told_are) (even_chain now.tally now.book (length told) w.even);
  booked = let even = w.even in omega (arith, even.grabbed);
}

pub went_at : (duty : Duty) (before old new : Option (List ℕ)) (given : List Message) (told : List Telling) (t : Tally) (b : Ledger) (at : Place) → new ≡ old → Went duty before given told (account t old b) at → Went duty before given told (account t new b) at
went_at duty before old new given told t b at e w = subst (λ (x : Option (List ℕ)). Went duty before given told (account t x b) at) (sym e) w

-- ---- orders

obeyed_on : (worker : Worker) (before : Option (List ℕ)) (order : OrderParts) (t : Tally) (old new : Scene) (given : List Message) (told : List Telling)
    → new.book ≡ after_order old.book order → Obeys worker order old new (Ok tt)
    → Went (duty_in worker) before given told (account t old.written old.book) (place old.registered following)
    → Went (duty_in worker) before given told (account t new.written new.book) (place new.registered (hearing (phase_with new.registered)))
obeyed_on worker before order t old new given told read (stops s e x) w = absurd (let clash = e in cc)
obeyed_on worker before order t old new given told read (goes against sends registers) w =
    let duty = duty_in worker in
    subst (λ (f : Option ℕ). Went duty before given told (account t new.written new.book) (place f (hearing (phase_with f)))) (sym registers)
    (went_on duty before given given told told (account t old.written old.book) (account t new.written new.book) (place old.registered following) (place (meant_in duty order) (hearing (phase_with (meant_in duty order)))) (ordered order)
    (obeying (name_of duty.functions old.registered) (name_of duty.functions (meant_in duty order))) w
    (obeyed old.registered order against) sends.0 sends.1 (sym (append-nil given)) (sym (append-nil told)) (ap (λ (b : Ledger). b.orders) read)
    (even_order t old.book new.book order (length told) read w.even))

obeyed_ended : (worker : Worker) (before : Option (List ℕ)) (read : List ℕ) (order : OrderParts) (t : Tally) (old new : Scene) (given later : List Message) (told : List Telling) (reason : EndCause)
    → new.book ≡ after_order old.book order → Obeys worker order old new (Err reason)
    → Went (duty_in worker) before given told (account t old.written old.book) (place old.registered following)
    → (reading read).messages ≡ given ++ later
    → Ended (session_of (duty_in worker) before read) told (account t new.written new.book) reason
obeyed_ended worker before read order t old new given later told reason asked (stops s e x) w says =
    let session = session_of (duty_in worker) before read in
    subst (λ (r : EndCause). Ended session told (account t new.written new.book) r) (sym (same_cause reason Stopped e))
    (ended_untold session given later [] told (account t old.written old.book) (account t new.written new.book) (place old.registered following) (ordered order) [] Stopped nothing w (stopped old.registered order s)
    (λ y. cc) (unwritten old.written new.written [] x) refl (says ∙ ap (λ (x : List Message). x ++ later) (sym (append-nil given))) (λ x. absurd x) (ap (λ (b : Ledger). b.orders) asked) refl
    (even_order t old.book new.book order (length told) asked w.even))
obeyed_ended worker before read order t old new given later told reason asked (goes against sends registers) w says =
    let duty = duty_in worker in
    let session = session_of duty before read in
    let packets = obeying (name_of duty.functions old.registered) (name_of duty.functions (meant_in duty order)) in
    let to = place (meant_in duty order) (hearing (phase_with (meant_in duty order))) in
    let so = sent_to old.written new.written packets reason sends in
    ended_untold session given later [] told (account t old.written old.book) (account t new.written new.book) (place old.registered following) (ordered order) packets reason so.reach w
    (unsent (place old.registered following) to (ordered order) packets reason (obeyed old.registered order against) so.is_end)
    so.reached so.written refl (says ∙ ap (λ (x : List Message). x ++ later) (sym (append-nil given))) (λ x. absurd x) (ap (λ (b : Ledger). b.orders) asked) refl
    (even_order t old.book new.book order (length told) asked w.even)

-- an order was followed
pub follow_on : (worker : Worker) (before : Option (List ℕ)) (old new : Moment) (given : List Message) (told : List Telling)
    → FollowsOrder worker old new (Ok tt)
    → Went (duty_in worker) before given told (account_of old) (place old.state.registered following)
    → Went (duty_in worker) before given told (account_of new) (place_of new.state)
follow_on worker before old new given told f w =
    subst (λ (t : Tally). Went (duty_in worker) before given told (account t new.written new.book) (place_of new.state)) (sym f.tally)
    (subst (λ (p : Phase). Went (duty_in worker) before given told (account old.state.tally new.written new.book) (place new.state.registered (hearing p))) (sym (f.phase refl))
    (obeyed_on worker before f.follows.order old.state.tally (scene_of old) (scene_of new) given told f.follows.read f.follows.obeys w))

pub follow_ended : (worker : Worker) (before : Option (List ℕ)) (read : List ℕ) (old new : Moment) (given later : List Message) (told : List Telling) (reason : EndCause)
    → FollowsOrder worker old new (Err reason)
    → Went (duty_in worker) before given told (account_of old) (place old.state.registered following)
    → (reading read).messages ≡ given ++ later
    → Ended (session_of (duty_in worker) before read) told (account_of new) reason
follow_ended worker before read old new given later told reason f w says =
    subst (λ (t : Tally). Ended (session_of (duty_in worker) before read) told (account t new.written new.book) reason) (sym f.tally)
    (obeyed_ended worker before read f.follows.order old.state.tally (scene_of old) (scene_of new) given later told reason f.follows.read f.follows.obeys w says)

-- ---- jobs

event_message : (job : AssignedJob) (came : Came) → messages_in (event_of job came ∷ []) ≡ assign job ∷ []
event_message job None = refl
event_message job (Some told) = refl

event_told : (job : AssignedJob) (came : Came) → tellings_in (event_of job came ∷ []) ≡ tellings_of job came
event_told job None = refl
event_told job (Some told) = refl

event_orders : (job : AssignedJob) (came : Came) → orders_in (event_of job came ∷ []) ≡ []
event_orders job None = refl
event_orders job (Some told) = refl

event_waits : (job : AssignedJob) (came : Came) → WaitsForMore (Some (event_of job came)) → ⊥
event_waits job None h = h
event_waits job (Some told) h = h

orders_kept : (b after : Ledger) → after.orders ≡ b.orders → after.orders ≡ b.orders ++ []
orders_kept b after e = e ∙ sym (append-nil b.orders)

whole_length : (reach : Reach) (xs ys : List Telling) → length (whole_by reach xs ys) ≡ length xs + length (whole_by reach [] ys)
whole_length nothing xs ys = sym (add-zero (length xs))
whole_length whole xs ys = length-append xs ys
whole_length (up_to part lost) xs ys = sym (add-zero (length xs))

-- the order of the counts where a job ends a session
breaks_chain : (job : AssignedJob) (old new : Account) (came : Came) (reason : EndCause) (told : List Telling) (h : Breaks job old new came reason) → Even old.tally old.book (length told)
    → Chain new.tally new.book (length (whole_by h.reach told (tellings_of job came))) (length (begun_by h.reach (tellings_of job came)))
breaks_chain job old new came reason told h even =
    let size = whole_length h.reach told (tellings_of job came) in
    let r = h.rises in
    record {
      answered_is = omega (arith, even.answered, r.answered, h.answers_are, size);
      reported = omega (arith, even.answered, even.reported, r.answered, r.reported, h.reports_few);
      begins = omega (arith, even.answered, even.begins, r.answered, r.begins_are, h.begins_are);
      grabbed = omega (arith, even.grabbed, even.begins, r.grabbed, r.begins_are, h.begins_few);
      one_open = omega (arith, even.grabbed, even.reported, r.grabbed, r.reported, h.grabs_few);
      grabs = omega (arith, even.grabs, even.grabbed, r.grabbed, r.grabs_are);
      reports = omega (arith, even.reports, even.reported, r.reported, r.reports_are);
    }

breaks_booked : (job : AssignedJob) (old new : Account) (came : Came) (reason : EndCause) (told : List Telling) → Breaks job old new came reason → Even old.tally old.book (length told)
    → length (told ++ tellings_of job came) ≤ new.tally.grabbed
breaks_booked job old new came reason told h even =
    let size = length-append told (tellings_of job came) in
    omega (arith, size, h.told_few, even.grabbed, h.rises.grabbed)

replied_even : (job : AssignedJob) (old new : Account) (came : Came) (told : List Telling) (h : Replied job old new came) → Even old.tally old.book (length told) → Even new.tally new.book (length (told ++ tellings_of job came))
replied_even job old new came told h even =
    let size = length_push told (telling job h.told) in
    let r = h.rises in
    subst (λ (c : Came). Even new.tally new.book (length (told ++ tellings_of job c))) (sym h.came_is) (record {
      grabbed = omega (arith, size, even.grabbed, r.grabbed);
      answered = omega (arith, size, even.answered, r.answered);
      reported = omega (arith, size, even.reported, r.reported);
      grabs = omega (arith, size, even.grabs, r.grabs_are);
      begins = omega (arith, size, even.begins, r.begins_are);
      reports = omega (arith, size, even.reports, r.reports_are);
    })

answered_on : (worker : Worker) (before : Option (List ℕ)) (job : AssignedJob) (came : Came) (m : Message) (old mid : Moment) (given : List Message) (told : List Telling)
    → asked_by m old.state.phase ≡ serve job → Replied job (account_of old) (account_of mid) came → mid.state.registered ≡ old.state.registered → mid.book.orders ≡ old.book.orders
    → Went (duty_in worker) before given told (account_of old) (place_of old.state)
    → Went (duty_in worker) before (given ++ m ∷ []) (told ++ tellings_of job came) (account_of mid) (place mid.state.registered following)
answered_on worker before job came m old mid given told e h f o w =
    let duty = duty_in worker in
    let is = asked_job m old.state.phase job e in
    let t = telling job h.told in
    subst (λ (r : Option ℕ). Went duty before (given ++ m ∷ []) (told ++ tellings_of job came) (account_of mid) (place r following)) (sym f)
    (went_on duty before given (given ++ m ∷ []) told (told ++ tellings_of job came) (account_of old) (account_of mid) (place old.state.registered (hearing Waiting)) (place old.state.registered following) (ran t) (answer_to job.handle h.told)
    (subst (λ (p : Phase). Went duty before given told (account_of old) (place old.state.registered (hearing p))) is.1 w)
    (served old.state.registered t) h.written h.each_sent (ap (λ (x : Message). given ++ x ∷ []) is.0) (ap (λ (c : Came). told ++ tellings_of job c) h.came_is) (orders_kept old.book mid.book o)
    (replied_even job (account_of old) (account_of mid) came told h w.even))

serve_on : (worker : Worker) (before : Option (List ℕ)) (job : AssignedJob) (came : Came) (m : Message) (old mid new : Moment) (given : List Message) (told : List Telling) (answer : Result0)
    → asked_by m old.state.phase ≡ serve job → Answers job (account_of old) (account_of mid) came answer
    → mid.state.registered ≡ old.state.registered → mid.book.orders ≡ old.book.orders
    → GoesOnOrEnds (FollowsOrder worker mid new (Ok tt)) (λ c. (new ≡ mid) × (◌≡◌ {A = Result0} (Ok tt) (Err c))) answer
    → Went (duty_in worker) before given told (account_of old) (place_of old.state)
    → Went (duty_in worker) before (given ++ m ∷ []) (told ++ tellings_of job came) (account_of new) (place_of new.state)
serve_on worker before job came m old mid new given told (Ok u) e answers f o then_on w =
    follow_on worker before mid new (given ++ m ∷ []) (told ++ tellings_of job came) then_on (answered_on worker before job came m old mid given told e answers f o w)
serve_on worker before job came m old mid new given told (Err c) e answers f o then_on w = absurd (let clash = then_on.1 in cc)

serve_ended : (worker : Worker) (before : Option (List ℕ)) (read : List ℕ) (job : AssignedJob) (came : Came) (m : Message) (old mid new : Moment) (given later : List Message) (told : List Telling) (reason : EndCause) (answer : Result0)
    → asked_by m old.state.phase ≡ serve job → Answers job (account_of old) (account_of mid) came answer
    → mid.state.registered ≡ old.state.registered → mid.book.orders ≡ old.book.orders
    → GoesOnOrEnds (FollowsOrder worker mid new (Err reason)) (λ c. (new ≡ mid) × (◌≡◌ {A = Result0} (Err reason) (Err c))) answer
    → Went (duty_in worker) before given told (account_of old) (place_of old.state)
    → (reading read).messages ≡ (given ++ m ∷ []) ++ later
    → Ended (session_of (duty_in worker) before read) (told ++ tellings_of job came) (account_of new) reason
serve_ended worker before read job came m old mid new given later told reason (Ok u) e answers f o then_on w says =
    follow_ended worker before read mid new (given ++ m ∷ []) later (told ++ tellings_of job came) reason then_on (answered_on worker before job came m old mid given told e answers f o w) says
serve_ended worker before read job came m old mid new given later told reason (Err c) e answers f o then_on w says =
    let duty = duty_in worker in
    let session = session_of duty before read in
    let is = asked_job m old.state.phase job e in
    let on = told ++ tellings_of job came in
    subst (λ (x : Moment). Ended session on (account_of x) reason) (sym then_on.0)
    (subst (λ (r : EndCause). Ended session on (account_of mid) r) (sym (same_cause reason c then_on.1))
    (ended_at session given later (m ∷ []) told (tellings_of job came) on (account_of old) (account_of mid) (place old.state.registered (hearing Waiting)) (event_of job came) (reply_of job came) c answers.reach
    (subst (λ (p : Phase). Went duty before given told (account_of old) (place old.state.registered (hearing p))) is.1 w)
    (unanswered old.state.registered job came c answers.is_end) answers.reached answers.written
    (event_message job came ∙ ap (λ (x : Message). x ∷ []) (sym is.0)) says (λ x. absurd (event_waits job came x))
    (orders_kept old.book mid.book o ∙ ap (λ (x : List OrderParts). old.book.orders ++ x) (sym (event_orders job came)))
    (event_told job came) refl (breaks_chain job (account_of old) (account_of mid) came c told answers w.even) (breaks_booked job (account_of old) (account_of mid) came c told answers w.even)))

-- ---- messages

slept_state : (old new : Moment) → new.state ≡ record old.state { phase = Asleep } → place_of new.state ≡ place old.state.registered (hearing Asleep)
slept_state old new e = ap place_of e

slept_even : (old new : Moment) (told : List Telling) → new.book ≡ old.book → new.state ≡ record old.state { phase = Asleep } → Even old.state.tally old.book (length told) → Even new.state.tally new.book (length (told ++ []))
slept_even old new told b s even =
    even_same new.state.tally new.book told (subst (λ (x : Ledger). Even new.state.tally x (length told)) (sym b) (subst (λ (x : State). Even x.tally old.book (length told)) (sym s) even))

-- a message was acted on
pub act_on : (worker : Worker) (before : Option (List ℕ)) (m : Message) (a : Asked) (came : Came) (old new : Moment) (given : List Message) (told : List Telling)
    → asked_by m old.state.phase ≡ a → Does worker a came old new (Ok tt)
    → Went (duty_in worker) before given told (account_of old) (place_of old.state)
    → Went (duty_in worker) before (given ++ m ∷ []) (told ++ told_at a came) (account_of new) (place_of new.state)
act_on worker before m skip came old new given told e does w =
    let duty = duty_in worker in
    subst (λ (x : Moment). Went duty before (given ++ m ∷ []) (told ++ []) (account_of x) (place_of x.state)) (sym does.1)
    (went_on duty before given (given ++ m ∷ []) told (told ++ []) (account_of old) (account_of old) (place_of old.state) (place_of old.state) (heard m) [] w
    (skipped old.state.registered old.state.phase m e) (told_nothing old.written) tt refl refl (orders_kept old.book old.book refl) (even_same old.state.tally old.book told w.even))
act_on worker before m sleep came old new given told e does w =
    let duty = duty_in worker in
    subst (λ (p : Place). Went duty before (given ++ m ∷ []) (told ++ []) (account_of new) p) (sym (slept_state old new (does.state refl)))
    (went_on duty before given (given ++ m ∷ []) told (told ++ []) (account_of old) (account_of new) (place_of old.state) (place old.state.registered (hearing Asleep)) (heard m) (pre_sleep ∷ []) w
    (slept old.state.registered old.state.phase m e) does.sends.0 does.sends.1 refl refl (orders_kept old.book new.book (ap (λ (b : Ledger). b.orders) does.book)) (slept_even old new told does.book (does.state refl) w.even))
act_on worker before m follow came old new given told e does w =
    let duty = duty_in worker in
    follow_on worker before old new (given ++ m ∷ []) (told ++ []) does
    (went_on duty before given (given ++ m ∷ []) told (told ++ []) (account_of old) (account_of old) (place_of old.state) (place old.state.registered following) (heard m) [] w
    (woken old.state.registered old.state.phase m e) (told_nothing old.written) tt refl refl (orders_kept old.book old.book refl) (even_same old.state.tally old.book told w.even))
act_on worker before m (serve job) came old new given told e does w = serve_on worker before job came m old does.answered new given told does.answer e does.answers does.registered does.orders does.goes_on w
act_on worker before m (end c) came old new given told e does w = absurd (let clash = does.0 in cc)

none_told : (session : Session) (told : List Telling) (now : Account) (reason : EndCause) → Ended session told now reason → Ended session (told ++ []) now reason
none_told session told now reason e = subst (λ (x : List Telling). Ended session x now reason) (sym (append-nil told)) e

pub act_ended : (worker : Worker) (before : Option (List ℕ)) (read : List ℕ) (m : Message) (a : Asked) (came : Came) (old new : Moment) (given later : List Message) (told : List Telling) (reason : EndCause)
    → asked_by m old.state.phase ≡ a → Does worker a came old new (Err reason)
    → Went (duty_in worker) before given told (account_of old) (place_of old.state)
    → (reading read).messages ≡ (given ++ m ∷ []) ++ later
    → Ended (session_of (duty_in worker) before read) (told ++ told_at a came) (account_of new) reason
act_ended worker before read m skip came old new given later told reason e does w says = absurd (let clash = does.0 in cc)
act_ended worker before read m sleep came old new given later told reason e does w says =
    let session = session_of (duty_in worker) before read in
    let so = sent_to old.written new.written (pre_sleep ∷ []) reason does.sends in
    none_told session told (account_of new) reason
    (ended_untold session given later (m ∷ []) told (account_of old) (account_of new) (place_of old.state) (heard m) (pre_sleep ∷ []) reason so.reach w
    (unsent (place_of old.state) (place old.state.registered (hearing Asleep)) (heard m) (pre_sleep ∷ []) reason (slept old.state.registered old.state.phase m e) so.is_end)
    so.reached so.written refl says (λ x. absurd x) (orders_kept old.book new.book (ap (λ (b : Ledger). b.orders) does.book)) refl
    (subst (λ (t : Tally). Even t new.book (length told)) (sym does.tally) (subst (λ (x : Ledger). Even old.state.tally x (length told)) (sym does.book) w.even)))
act_ended worker before read m follow came old new given later told reason e does w says =
    let duty = duty_in worker in
    follow_ended worker before read old new (given ++ m ∷ []) later (told ++ []) reason does
    (went_on duty before given (given ++ m ∷ []) told (told ++ []) (account_of old) (account_of old) (place_of old.state) (place old.state.registered following) (heard m) [] w
    (woken old.state.registered old.state.phase m e) (told_nothing old.written) tt refl refl (orders_kept old.book old.book refl) (even_same old.state.tally old.book told w.even))
    says
act_ended worker before read m (serve job) came old new given later told reason e does w says =
    serve_ended worker before read job came m old does.answered new given later told reason does.answer e does.answers does.registered does.orders does.goes_on w says
act_ended worker before read m (end c) came old new given later told reason e does w says =
    let session = session_of (duty_in worker) before read in
    none_told session told (account_of new) reason
    (subst (λ (x : Moment). Ended session told (account_of x) reason) (sym does.1)
    (subst (λ (r : EndCause). Ended session told (account_of old) r) (sym (same_cause reason c does.0))
    (ended_untold session given later (m ∷ []) told (account_of old) (account_of old) (place_of old.state) (heard m) [] c nothing w
    (refused old.state.registered old.state.phase m c e) (asked_end m old.state.phase c e) (unwritten old.written old.written [] refl) refl says (λ x. absurd x) (orders_kept old.book old.book refl) refl w.even)))

-- ---- timeouts

looked_even : (old : Moment) (order : OrderParts) (told : List Telling) → Even old.state.tally old.book (length told) → Even old.state.tally (after_order old.book order) (length told)
looked_even old order told even = even_order old.state.tally old.book (after_order old.book order) order (length told) refl even

looks_due : (worker : Worker) (before : Option (List ℕ)) (order : OrderParts) (old : Moment) (given : List Message) (told : List Telling)
    → Went (duty_in worker) before given told (account_of old) (place_of old.state)
    → Step (duty_in worker) (place_of old.state) (looked order) [] (place old.state.registered following)
    → Went (duty_in worker) before given told (account_of (looked_at old order)) (place old.state.registered following)
looks_due worker before order old given told w step =
    went_on (duty_in worker) before given given told told (account_of old) (account_of (looked_at old order)) (place_of old.state) (place old.state.registered following) (looked order) [] w
    step (told_nothing old.written) tt (sym (append-nil given)) (sym (append-nil told)) refl (looked_even old order told w.even)

looks_on : (worker : Worker) (before : Option (List ℕ)) (order : OrderParts) (old new : Moment) (given : List Message) (told : List Telling)
    → Looks worker order old new (Ok tt)
    → Went (duty_in worker) before given told (account_of old) (place_of old.state)
    → Went (duty_in worker) before given told (account_of new) (place_of new.state)
looks_on worker before order old new given told (sees_stop s e same) w = absurd (let clash = e in cc)
looks_on worker before order old new given told (stays against idle e same) w =
    let duty = duty_in worker in
    subst (λ (x : Moment). Went duty before given told (account_of x) (place_of x.state)) (sym same)
    (went_on duty before given given told told (account_of old) (account_of (looked_at old order)) (place_of old.state) (place_of old.state) (looked order) [] w
    (unchanged old.state.registered old.state.phase order against idle) (told_nothing old.written) tt (sym (append-nil given)) (sym (append-nil told)) refl (looked_even old order told w.even))
looks_on worker before order old new given told (is_due against due follows) w =
    follow_on worker before (looked_at old order) new given told follows
    (looks_due worker before order old given told w (changed old.state.registered old.state.phase order against due.0 due.1))

looks_ended : (worker : Worker) (before : Option (List ℕ)) (read : List ℕ) (order : OrderParts) (old new : Moment) (given later : List Message) (told : List Telling) (reason : EndCause)
    → Looks worker order old new (Err reason)
    → Went (duty_in worker) before given told (account_of old) (place_of old.state)
    → (reading read).messages ≡ given ++ later → later ≡ []
    → Ended (session_of (duty_in worker) before read) told (account_of new) reason
looks_ended worker before read order old new given later told reason (sees_stop s e same) w says all =
    let session = session_of (duty_in worker) before read in
    subst (λ (x : Moment). Ended session told (account_of x) reason) (sym same)
    (subst (λ (r : EndCause). Ended session told (account_of (looked_at old order)) r) (sym (same_cause reason Stopped e))
    (ended_untold session given later [] told (account_of old) (account_of (looked_at old order)) (place_of old.state) (looked order) [] Stopped nothing w
    (stopped_waiting old.state.registered old.state.phase order s) (λ x. cc) (unwritten old.written old.written [] refl) refl
    (says ∙ ap (λ (x : List Message). x ++ later) (sym (append-nil given))) (λ x. all) refl refl (looked_even old order told w.even)))
looks_ended worker before read order old new given later told reason (stays against idle e same) w says all = absurd (let clash = e in cc)
looks_ended worker before read order old new given later told reason (is_due against due follows) w says all =
    follow_ended worker before read (looked_at old order) new given later told reason follows
    (looks_due worker before order old given told w (changed old.state.registered old.state.phase order against due.0 due.1))
    says

-- nothing came in the time of one read
pub glance_gone : (worker : Worker) (before : Option (List ℕ)) (read : List ℕ) (old new : Moment) (given later : List Message) (told : List Telling) (result : Result0)
    → Glances worker old new result
    → Went (duty_in worker) before given told (account_of old) (place_of old.state)
    → (reading read).messages ≡ given ++ later → later ≡ []
    → GoesOnOrEnds (Went (duty_in worker) before given told (account_of new) (place_of new.state)) (Ended (session_of (duty_in worker) before read) told (account_of new)) result
glance_gone worker before read old new given later told (Ok u) g w says all = looks_on worker before g.order old new given told g.looks w
glance_gone worker before read old new given later told (Err reason) g w says all = looks_ended worker before read g.order old new given later told reason g.looks w says all

-- ---- the start

even_fresh : (s : State) (b : Ledger) → s ≡ first_state → b ≡ no_calls → Even s.tally b 0
even_fresh s b first fresh = subst (λ (x : State). Even x.tally b 0) (sym first)
    (subst (λ (x : Ledger). Even first_state.tally x 0) (sym fresh) (record { grabbed = refl; answered = refl; reported = refl; grabs = refl; begins = refl; reports = refl }))

went_nowhere : (duty : Duty) (old : Moment) → old.state ≡ first_state → old.book ≡ no_calls → Went duty old.written [] [] (account_of old) (place None unnamed)
went_nowhere duty old first fresh = record {
  events = [];
  sent = [];
  path = start;
  written_is = told_nothing old.written;
  each_sent = tt;
  messages_are = refl;
  told_are = refl;
  orders_are = sym (ap (λ (x : Ledger). x.orders) fresh);
  even = even_fresh old.state old.book first fresh;
}

named_on : (duty : Duty) (old : Moment) (new : Option (List ℕ)) → old.state ≡ first_state → old.book ≡ no_calls → Sends old.written new (set_client_id duty.worker ∷ []) (Ok tt)
    → Went duty old.written [] [] (account old.state.tally new old.book) (place old.state.registered following)
named_on duty old new first fresh sends =
    subst (λ (x : Option ℕ). Went duty old.written [] [] (account old.state.tally new old.book) (place x following)) (sym (ap (λ (s : State). s.registered) first))
    (went_on duty old.written [] [] [] [] (account_of old) (account old.state.tally new old.book) (place None unnamed) (place None following) starts (set_client_id duty.worker ∷ []) (went_nowhere duty old first fresh) (named None) sends.0 sends.1 refl refl
    (orders_kept old.book old.book refl) (even_fresh old.state old.book first fresh))

begins_on : (worker : Worker) (old new : Moment) (at : Option (List ℕ)) (answer : Result0)
    → old.state ≡ first_state → old.book ≡ no_calls → Sends old.written at (set_client_id (duty_in worker).worker ∷ []) answer
    → GoesOnOrEnds (FollowsOrder worker (moment old.state at old.book) new (Ok tt)) (λ c. (new ≡ moment old.state at old.book) × (◌≡◌ {A = Result0} (Ok tt) (Err c))) answer
    → Went (duty_in worker) old.written [] [] (account_of new) (place_of new.state)
begins_on worker old new at (Ok u) first fresh sends then_on =
    follow_on worker old.written (moment old.state at old.book) new [] [] then_on (named_on (duty_in worker) old at first fresh sends)
begins_on worker old new at (Err c) first fresh sends then_on = absurd (let clash = then_on.1 in cc)

begins_ended : (worker : Worker) (old new : Moment) (at : Option (List ℕ)) (reason : EndCause) (answer : Result0)
    → old.state ≡ first_state → old.book ≡ no_calls → Sends old.written at (set_client_id (duty_in worker).worker ∷ []) answer
    → GoesOnOrEnds (FollowsOrder worker (moment old.state at old.book) new (Err reason)) (λ c. (new ≡ moment old.state at old.book) × (◌≡◌ {A = Result0} (Err reason) (Err c))) answer
    → (reading []).messages ≡ []
    → Ended (session_of (duty_in worker) old.written []) [] (account_of new) reason
begins_ended worker old new at reason (Ok u) first fresh sends then_on says =
    follow_ended worker old.written [] (moment old.state at old.book) new [] [] [] reason then_on (named_on (duty_in worker) old at first fresh sends) says
begins_ended worker old new at reason (Err c) first fresh sends then_on says =
    let duty = duty_in worker in
    let session = session_of duty old.written [] in
    let packets = set_client_id duty.worker ∷ [] in
    let so = sent_to old.written at packets c sends in
    subst (λ (x : Moment). Ended session [] (account_of x) reason) (sym then_on.0)
    (subst (λ (r : EndCause). Ended session [] (account old.state.tally at old.book) r) (sym (same_cause reason c then_on.1))
    (ended_untold session [] [] [] [] (account_of old) (account old.state.tally at old.book) (place None unnamed) starts packets c so.reach (went_nowhere duty old first fresh)
    (unsent (place None unnamed) (place None following) starts packets c (named None) so.is_end) so.reached so.written refl says (λ x. absurd x) (orders_kept old.book old.book refl) refl
    (even_fresh old.state old.book first fresh)))

-- a session began
pub begun_gone : (worker : Worker) (old new : Moment) (result : Result0)
    → old.state ≡ first_state → old.book ≡ no_calls → Begins worker (duty_in worker).worker old new result → (reading []).messages ≡ []
    → GoesOnOrEnds (Went (duty_in worker) old.written [] [] (account_of new) (place_of new.state)) (Ended (session_of (duty_in worker) old.written []) [] (account_of new)) result
begun_gone worker old new (Ok u) first fresh b says = begins_on worker old new b.named b.answer first fresh b.sends b.goes_on
begun_gone worker old new (Err reason) first fresh b says = begins_ended worker old new b.named reason b.answer first fresh b.sends b.goes_on says
