-- Of a path: its packets are sent one function at a time, begin with the name, and those that answer jobs are the replies to what was told.
use Rattle.std.proofs.Common.{◌≡◌, ◌≢◌, ◌⊎◌, inl, inr, ℕ, ◌<◌, ◌≤◌, Bool, true, false, cond, List, [], ◌∷◌, ◌++◌, length, Option, Some, None, refl, sym, ap, subst, ◌∙◌, arith}
use Rattle.std.specs.Prelude.{◌==◌, nat_lt, IfSome}
use Rattle.std.specs.Option.{option_to_list}
use Rattle.std.specs.List.{filter, AllByRecursion}
use Rattle.std.proofs.lemmas.List.{append-nil, append_assoc, map-append}
use Rattle.std.proofs.lemmas.List.Elements.{filter_map-append}
use Rattle.gear_packets.specs.Request.{Packet, set_client_id, IsSent}
use Rattle.gear_packets.specs.Response.{AssignedJob}
use Rattle.gear_packets.specs.Text.{text_of, is_work, registered_by, assignment_of, assignments_in, assignments}
use Rattle.worker_state.specs.OrderParts.{OrderParts}
use Rattle.worker_state.specs.declared.order.What.{What}
use Rattle.worker_state.specs.declared.order.What.TheVariants as what
use Rattle.job_runner.specs.declared.end.EndCause.{EndCause}
use Rattle.job_runner.specs.declared.end.EndCause.TheVariants as cause
use Rattle.job_runner.specs.declared.end.EndCause.TheVariants.{WriteFault, Memory}
use Rattle.job_runner.specs.declared.answering.Tally.{Tally}
use Rattle.job_runner.specs.Told.{Telling, jobs_of, replies}
use Rattle.job_runner.specs.Book.{Ledger}
use Rattle.job_runner.specs.Course.{Duty, Session, OneAtATime, Introduces, MayIntroduce, Chain, Ends, known, name_of, IsServing}
use Rattle.job_runner.specs.Following.{function_of, meant_by}
use Rattle.job_runner.specs.Acting.{Account, Reach, nothing, whole, up_to, whole_by, begun_by, bytes_by, IsReach, IsJobEnd}
use Rattle.job_runner.specs.Path.{Event, starts, ordered, looked, heard, ran, Stage, unnamed, following, hearing, Place, meant_in, Step, named, obeyed, unchanged, changed, skipped, slept, woken, served}
use Rattle.job_runner.specs.Path.{Path, start, then, IsSendEnd, Last, stopped, stopped_waiting, refused, unsent, unanswered, waiting, message_at, telling_at, messages_in, tellings_in, Ended}
use Rattle.job_runner.proofs.Asking.{asked_to_wait, unassigned_skip, unassigned_sleep, unassigned_follow}
use Rattle.job_runner.proofs.Steps.{all_append, text_append, works_append, registered_append, one_append, introduces_append, replies_append, may_introduce, Leads, reply_leads}
use Rattle.job_runner.proofs.Orders.{known_few, serves_with, order_leads}
use Rattle.job_runner.proofs.Opening.{sleep_leads, waits_known, still_serves}

-- ---- where a session is

-- what was sent before a stage
abbrev pub Named : Stage → List ℕ → List Packet → Type 0
Named unnamed worker sent = sent ≡ []
Named following worker sent = Introduces worker sent
Named (hearing phase) worker sent = Introduces worker sent

-- a session that waits or sleeps has a function registered
abbrev pub ServesIn : ℕ → Option ℕ → Stage → Type 0
ServesIn count f unnamed = Unit {0}
ServesIn count f following = Unit {0}
ServesIn count f (hearing phase) = IsServing count phase f

abbrev pub ServesAt : ℕ → Place → Type 0
ServesAt count at = ServesIn count at.registered at.stage

either_there : (P : ℕ → Type 0) (b : Bool) (o : Option ℕ) → (b ≡ true → IfSome o P) → IfSome (cond b o None) P
either_there P true o h = h refl
either_there P false o h = tt

function_there : (count : ℕ) (w : What) → IfSome (function_of count w) (λ f. f < count)
function_there count what.Idle = tt
function_there count (what.Work f) = either_there (λ (g : ℕ). g < count) (nat_lt f count) (Some f) (λ e. grind (arith, e))
function_there count what.Stop = tt

-- an order means a function that is there
meant_there : (generation count : ℕ) (order : OrderParts) → IfSome (meant_by generation count order) (λ f. f < count)
meant_there generation count order = either_there (λ (g : ℕ). g < count) (order.generation == generation) (function_of count order.what) (λ e. function_there count order.what)

-- ---- one step

nothing_leads : (names : List (List ℕ)) → length names ≤ 1 → Leads names [] names []
nothing_leads names few = record { registered_is = refl; one = tt; works = refl; few = few }

step_leads : (duty : Duty) (from : Place) (event : Event) (packets : List Packet) (to : Place) → Step duty from event packets to → ServesAt (length duty.functions) from
    → Leads (known duty.functions from.registered) packets (known duty.functions to.registered) (tellings_in (event ∷ []))
step_leads duty from event packets to (named f) h = record { registered_is = refl; one = (known_few duty.functions f, λ asked. absurd cc, tt); works = refl; few = known_few duty.functions f }
step_leads duty from event packets to (obeyed f order against) h = order_leads (name_of duty.functions f) (name_of duty.functions (meant_in duty order))
step_leads duty from event packets to (unchanged f phase order against idle) h = nothing_leads (known duty.functions f) (known_few duty.functions f)
step_leads duty from event packets to (changed f phase order against free other) h = nothing_leads (known duty.functions f) (known_few duty.functions f)
step_leads duty from event packets to (skipped f phase m e) h = nothing_leads (known duty.functions f) (known_few duty.functions f)
step_leads duty from event packets to (slept f phase m e) h =
    sleep_leads (known duty.functions f) (waits_known duty.functions f (subst (λ p. IsServing (length duty.functions) p f) (asked_to_wait m phase e) h))
step_leads duty from event packets to (woken f phase m e) h = nothing_leads (known duty.functions f) (known_few duty.functions f)
step_leads duty from event packets to (served f t) h = reply_leads (known duty.functions f) t (known_few duty.functions f)

step_serves : (duty : Duty) (from : Place) (event : Event) (packets : List Packet) (to : Place) → Step duty from event packets to → ServesAt (length duty.functions) from → ServesAt (length duty.functions) to
step_serves duty from event packets to (named f) h = tt
step_serves duty from event packets to (obeyed f order against) h = serves_with (length duty.functions) (meant_in duty order) (meant_there duty.generation (length duty.functions) order)
step_serves duty from event packets to (unchanged f phase order against idle) h = h
step_serves duty from event packets to (changed f phase order against free other) h = tt
step_serves duty from event packets to (skipped f phase m e) h = h
step_serves duty from event packets to (slept f phase m e) h = still_serves (length duty.functions) f (subst (λ p. IsServing (length duty.functions) p f) (asked_to_wait m phase e) h)
step_serves duty from event packets to (woken f phase m e) h = tt
step_serves duty from event packets to (served f t) h = tt

step_introduces : (duty : Duty) (sent : List Packet) (from : Place) (event : Event) (packets : List Packet) (to : Place) → Step duty from event packets to → Named from.stage duty.worker sent → Introduces duty.worker (sent ++ packets)
step_introduces duty sent from event packets to (named f) h = subst (λ (s : List Packet). Introduces duty.worker (s ++ set_client_id duty.worker ∷ [])) (sym h) refl
step_introduces duty sent from event packets to (obeyed f order against) h = introduces_append duty.worker sent packets h
step_introduces duty sent from event packets to (unchanged f phase order against idle) h = introduces_append duty.worker sent [] h
step_introduces duty sent from event packets to (changed f phase order against free other) h = introduces_append duty.worker sent [] h
step_introduces duty sent from event packets to (skipped f phase m e) h = introduces_append duty.worker sent [] h
step_introduces duty sent from event packets to (slept f phase m e) h = introduces_append duty.worker sent packets h
step_introduces duty sent from event packets to (woken f phase m e) h = introduces_append duty.worker sent [] h
step_introduces duty sent from event packets to (served f t) h = introduces_append duty.worker sent packets h

step_named : (duty : Duty) (sent : List Packet) (from : Place) (event : Event) (packets : List Packet) (to : Place) → Step duty from event packets to → Introduces duty.worker sent → Named to.stage duty.worker sent
step_named duty sent from event packets to (named f) h = h
step_named duty sent from event packets to (obeyed f order against) h = h
step_named duty sent from event packets to (unchanged f phase order against idle) h = h
step_named duty sent from event packets to (changed f phase order against free other) h = h
step_named duty sent from event packets to (skipped f phase m e) h = h
step_named duty sent from event packets to (slept f phase m e) h = h
step_named duty sent from event packets to (woken f phase m e) h = h
step_named duty sent from event packets to (served f t) h = h

step_jobs : (duty : Duty) (from : Place) (event : Event) (packets : List Packet) (to : Place) → Step duty from event packets to → jobs_of (tellings_in (event ∷ [])) ≡ assignments_in (messages_in (event ∷ []))
step_jobs duty from event packets to (named f) = refl
step_jobs duty from event packets to (obeyed f order against) = refl
step_jobs duty from event packets to (unchanged f phase order against idle) = refl
step_jobs duty from event packets to (changed f phase order against free other) = refl
step_jobs duty from event packets to (skipped f phase m e) = sym (unassigned_skip m phase e)
step_jobs duty from event packets to (slept f phase m e) = sym (unassigned_sleep m phase e)
step_jobs duty from event packets to (woken f phase m e) = sym (unassigned_follow m phase e)
step_jobs duty from event packets to (served f t) = refl

-- ---- a path

pub record Keeps (duty : Duty) (events : List Event) (sent : List Packet) (at : Place) : Type 0 where
  pub named_so : Named at.stage duty.worker sent
  pub works : filter is_work sent ≡ replies (tellings_in events)
  pub jobs : jobs_of (tellings_in events) ≡ assignments_in (messages_in events)
  pub one : OneAtATime [] sent
  pub registered_is : registered_by [] sent ≡ known duty.functions at.registered
  pub serving : ServesAt (length duty.functions) at

keeps_on : (duty : Duty) (events : List Event) (sent : List Packet) (from : Place) (event : Event) (packets : List Packet) (to : Place) → Keeps duty events sent from → Step duty from event packets to
    → Keeps duty (events ++ event ∷ []) (sent ++ packets) to
keeps_on duty events sent from event packets to k step =
    let leads = step_leads duty from event packets to step k.serving in
    let told : tellings_in (events ++ event ∷ []) ≡ tellings_in events ++ tellings_in (event ∷ []) = filter_map-append telling_at events (event ∷ []) in
    let met : messages_in (events ++ event ∷ []) ≡ messages_in events ++ messages_in (event ∷ []) = filter_map-append message_at events (event ∷ []) in
    record {
      named_so = step_named duty (sent ++ packets) from event packets to step (step_introduces duty sent from event packets to step k.named_so);
      works = works_append sent packets ∙ ap (λ (x : List Packet). x ++ filter is_work packets) k.works ∙ ap (λ (x : List Packet). replies (tellings_in events) ++ x) leads.works
          ∙ sym (replies_append (tellings_in events) (tellings_in (event ∷ []))) ∙ ap replies (sym told);
      jobs = ap jobs_of told ∙ map-append (λ (x : Telling). x.job) (tellings_in events) (tellings_in (event ∷ []))
          ∙ ap (λ (x : List AssignedJob). x ++ jobs_of (tellings_in (event ∷ []))) k.jobs ∙ ap (λ (x : List AssignedJob). assignments_in (messages_in events) ++ x) (step_jobs duty from event packets to step)
          ∙ sym (filter_map-append assignment_of (messages_in events) (messages_in (event ∷ []))) ∙ ap assignments_in (sym met);
      one = one_append [] sent packets k.one (subst (λ (names : List (List ℕ)). OneAtATime names packets) (sym k.registered_is) leads.one);
      registered_is = registered_append [] sent packets ∙ ap (λ (names : List (List ℕ)). registered_by names packets) k.registered_is ∙ leads.registered_is;
      serving = step_serves duty from event packets to step k.serving;
    }

pub keeps : (duty : Duty) (events : List Event) (sent : List Packet) (at : Place) → Path duty events sent at → Keeps duty events sent at
keeps duty events sent at start = record { named_so = refl; works = refl; jobs = refl; one = tt; registered_is = refl; serving = tt }
keeps duty events sent at (then past written from event packets to path step) = keeps_on duty past written from event packets to (keeps duty past written from path) step

-- ---- its end

last_leads : (duty : Duty) (at : Place) (met : Option Event) (packets : List Packet) (reason : EndCause) → Last duty at met packets reason → ServesAt (length duty.functions) at
    → (to : List (List ℕ)) × Leads (known duty.functions at.registered) packets to (tellings_in (option_to_list met))
last_leads duty at met packets reason (stopped f order s) h = (known duty.functions f, nothing_leads (known duty.functions f) (known_few duty.functions f))
last_leads duty at met packets reason (stopped_waiting f phase order s) h = (known duty.functions f, nothing_leads (known duty.functions f) (known_few duty.functions f))
last_leads duty at met packets reason (refused f phase m end e) h = (known duty.functions f, nothing_leads (known duty.functions f) (known_few duty.functions f))
last_leads duty at met packets reason (unsent from to event ps end step is) h = (known duty.functions to.registered, step_leads duty from event ps to step h)
last_leads duty at met packets reason (unanswered f job None end is) h = (known duty.functions f, nothing_leads (known duty.functions f) (known_few duty.functions f))
last_leads duty at met packets reason (unanswered f job (Some told) end is) h = (known duty.functions f, reply_leads (known duty.functions f) (record { job = job; told = told }) (known_few duty.functions f))
last_leads duty at met packets reason (waiting f phase end is) h = (known duty.functions f, nothing_leads (known duty.functions f) (known_few duty.functions f))

last_introduces : (duty : Duty) (sent : List Packet) (at : Place) (met : Option Event) (packets : List Packet) (reason : EndCause) → Last duty at met packets reason → Named at.stage duty.worker sent → Introduces duty.worker (sent ++ packets)
last_introduces duty sent at met packets reason (stopped f order s) h = introduces_append duty.worker sent [] h
last_introduces duty sent at met packets reason (stopped_waiting f phase order s) h = introduces_append duty.worker sent [] h
last_introduces duty sent at met packets reason (refused f phase m end e) h = introduces_append duty.worker sent [] h
last_introduces duty sent at met packets reason (unsent from to event ps end step is) h = step_introduces duty sent from event ps to step h
last_introduces duty sent at met packets reason (unanswered f job came end is) h = introduces_append duty.worker sent packets h
last_introduces duty sent at met packets reason (waiting f phase end is) h = introduces_append duty.worker sent [] h

neither_sent : (reason : EndCause) → IsSendEnd reason → reason ≢ WriteFault → reason ≢ Memory → ⊥
neither_sent WriteFault is a b = a refl
neither_sent Memory is a b = b refl
neither_sent cause.Retired is a b = is
neither_sent cause.Gone is a b = is
neither_sent cause.BadPacket is a b = is
neither_sent cause.ServerError is a b = is
neither_sent cause.ReadFault is a b = is
neither_sent cause.TurnsUsed is a b = is
neither_sent cause.HistoryFull is a b = is
neither_sent cause.Closed is a b = is
neither_sent cause.Stopped is a b = is
neither_sent cause.Unserved is a b = is

last_named : (duty : Duty) (sent : List Packet) (at : Place) (met : Option Event) (packets : List Packet) (reason : EndCause) → Last duty at met packets reason → reason ≢ WriteFault → reason ≢ Memory → Named at.stage duty.worker sent → Introduces duty.worker sent
last_named duty sent at met packets reason (stopped f order s) a b h = h
last_named duty sent at met packets reason (stopped_waiting f phase order s) a b h = h
last_named duty sent at met packets reason (refused f phase m end e) a b h = h
last_named duty sent at met packets reason (unsent from to event ps end step is) a b h = absurd (neither_sent end is a b)
last_named duty sent at met packets reason (unanswered f job came end is) a b h = h
last_named duty sent at met packets reason (waiting f phase end is) a b h = h

may_be_named : (stage : Stage) (worker : List ℕ) (sent : List Packet) → Named stage worker sent → MayIntroduce worker sent
may_be_named unnamed worker sent h = subst (MayIntroduce worker) (sym h) tt
may_be_named following worker sent h = may_introduce worker sent h
may_be_named (hearing phase) worker sent h = may_introduce worker sent h

-- nothing was told of the job for which a session ends as Unserved
last_untold : (duty : Duty) (at : Place) (met : Option Event) (packets : List Packet) (reason : EndCause) → Last duty at met packets reason → reason ≡ cause.Unserved → tellings_in (option_to_list met) ≡ []
last_untold duty at met packets reason (stopped f order s) e = refl
last_untold duty at met packets reason (stopped_waiting f phase order s) e = refl
last_untold duty at met packets reason (refused f phase m end a) e = refl
last_untold duty at met packets reason (unsent from to event ps end step is) e = absurd (subst IsSendEnd e is)
last_untold duty at met packets reason (unanswered f job None end is) e = refl
last_untold duty at met packets reason (unanswered f job (Some told) end is) e = absurd (subst (IsJobEnd (Some told)) e is)
last_untold duty at met packets reason (waiting f phase end is) e = refl

-- the jobs that were met last and of which nothing was told
met_jobs : (met : Option Event) → (more : List AssignedJob) × (assignments_in (messages_in (option_to_list met)) ≡ jobs_of (tellings_in (option_to_list met)) ++ more)
met_jobs None = ([], refl)
met_jobs (Some starts) = ([], refl)
met_jobs (Some (ordered order)) = ([], refl)
met_jobs (Some (looked order)) = ([], refl)
met_jobs (Some (heard m)) = (assignments_in (m ∷ []), refl)
met_jobs (Some (ran t)) = ([], refl)

told_whole : (reason : EndCause) → (reason ≡ cause.Retired) ⊎ (reason ≡ cause.Gone) → (reason ≢ WriteFault) × (reason ≢ cause.Unserved)
told_whole reason (inl e) = (λ x. absurd (let clash : cause.Retired ≡ WriteFault = sym e ∙ x in cc), λ x. absurd (let clash : cause.Retired ≡ cause.Unserved = sym e ∙ x in cc))
told_whole reason (inr e) = (λ x. absurd (let clash : cause.Gone ≡ WriteFault = sym e ∙ x in cc), λ x. absurd (let clash : cause.Gone ≡ cause.Unserved = sym e ∙ x in cc))

ends_by : (duty : Duty) (events : List Event) (sent : List Packet) (at : Place) (met : Option Event) (packets : List Packet) (told : List Telling) (taken later : List AssignedJob) (t : Tally) (b : Ledger) (reason : EndCause) (reach : Reach)
    → Path duty events sent at → Last duty at met packets reason → IsReach reach packets reason → AllByRecursion IsSent sent
    → told ≡ tellings_in events ++ tellings_in (option_to_list met) → taken ≡ jobs_of told ++ later → length told ≤ t.grabbed
    → Chain t b (length (whole_by reach (tellings_in events) (tellings_in (option_to_list met)))) (length (begun_by reach (tellings_in (option_to_list met))))
    → Ends duty (text_of sent ++ bytes_by reach packets) told taken t b reason
ends_by duty events sent at met packets told taken later t b reason nothing path last reached each split order booked chain =
    let k = keeps duty events sent at path in
    record {
      answered = tellings_in events;
      begun = [];
      unwritten = tellings_in (option_to_list met);
      later = later;
      told_are = split;
      undone = λ e. last_untold duty at met packets reason last e;
      in_order = order;
      booked = booked;
      cut = record {
        sent = sent;
        next = [];
        part = [];
        lost = [];
        bytes_are = refl;
        next_is = refl;
        each_sent = rw (append-nil sent) each;
        introduces = rw (append-nil sent) (may_be_named at.stage duty.worker sent k.named_so);
        works = k.works;
        next_works = refl;
        one = rw (append-nil sent) k.one;
      };
      whole = λ o. refl;
      proper = λ e. absurd (reached e);
      introduced = λ o. rw (append-nil sent) (last_named duty sent at met packets reason last reached o k.named_so);
      chain = chain;
    }
ends_by duty events sent at met packets told taken later t b reason whole path last reached each split order booked chain =
    let k = keeps duty events sent at path in
    let leads = last_leads duty at met packets reason last k.serving in
    let other = told_whole reason reached.0 in
    let xs = tellings_in events in
    let ys = tellings_in (option_to_list met) in
    let starts_so = introduces_append duty.worker (sent ++ packets) [] (last_introduces duty sent at met packets reason last k.named_so) in
    record {
      answered = xs ++ ys;
      begun = [];
      unwritten = [];
      later = later;
      told_are = split ∙ sym (append-nil (xs ++ ys));
      undone = λ e. refl;
      in_order = order;
      booked = booked;
      cut = record {
        sent = sent ++ packets;
        next = [];
        part = [];
        lost = [];
        bytes_are = sym (text_append sent packets) ∙ sym (append-nil (text_of (sent ++ packets)));
        next_is = refl;
        each_sent = rw (append-nil (sent ++ packets)) (all_append IsSent sent packets each reached.1);
        introduces = may_introduce duty.worker ((sent ++ packets) ++ []) starts_so;
        works = works_append sent packets ∙ ap (λ (x : List Packet). x ++ filter is_work packets) k.works ∙ ap (λ (x : List Packet). replies xs ++ x) leads.1.works ∙ sym (replies_append xs ys);
        next_works = refl;
        one = rw (append-nil (sent ++ packets)) (one_append [] sent packets k.one (subst (λ (names : List (List ℕ)). OneAtATime names packets) (sym k.registered_is) leads.1.one));
      };
      whole = λ o. refl;
      proper = λ e. absurd (other.0 e);
      introduced = λ o. starts_so;
      chain = chain;
    }
ends_by duty events sent at met packets told taken later t b reason (up_to part lost) path last reached each split order booked chain =
    let k = keeps duty events sent at path in
    let leads = last_leads duty at met packets reason last k.serving in
    let xs = tellings_in events in
    let ys = tellings_in (option_to_list met) in
    let starts_so = last_introduces duty sent at met packets reason last k.named_so in
    record {
      answered = xs;
      begun = ys;
      unwritten = [];
      later = later;
      told_are = split ∙ ap (λ (z : List Telling). xs ++ z) (sym (append-nil ys));
      undone = λ e. absurd (let clash : WriteFault ≡ cause.Unserved = sym reached.0 ∙ e in cc);
      in_order = order;
      booked = booked;
      cut = record {
        sent = sent;
        next = packets;
        part = part;
        lost = lost;
        bytes_are = refl;
        next_is = reached.2;
        each_sent = all_append IsSent sent packets each reached.1;
        introduces = may_introduce duty.worker (sent ++ packets) starts_so;
        works = k.works;
        next_works = leads.1.works;
        one = one_append [] sent packets k.one (subst (λ (names : List (List ℕ)). OneAtATime names packets) (sym k.registered_is) leads.1.one);
      };
      whole = λ o. absurd (o reached.0);
      proper = λ e. reached.3;
      introduced = λ o. starts_so;
      chain = chain;
    }

-- The law: all that a session promises of its answers follows from the path that it took.
pub answers_follow : (session : Session) (told : List Telling) (now : Account) (reason : EndCause) (e : Ended session told now reason)
    → Ends session.duty (text_of e.sent ++ bytes_by e.reach e.packets) told (assignments session.read) now.tally now.book reason
answers_follow session told now reason e =
    let k = keeps session.duty e.events e.sent e.at e.path in
    let last = option_to_list e.met in
    let extra = met_jobs e.met in
    let later = extra.0 ++ assignments_in e.later in
    let split : assignments session.read ≡ (assignments_in (messages_in e.events) ++ assignments_in (messages_in last)) ++ assignments_in e.later =
    ap assignments_in e.messages_are ∙ filter_map-append assignment_of (messages_in (e.events ++ last)) e.later
    ∙ ap (λ (x : List AssignedJob). x ++ assignments_in e.later) (ap assignments_in (filter_map-append message_at e.events last) ∙ filter_map-append assignment_of (messages_in e.events) (messages_in last)) in
    let jobs : jobs_of told ≡ assignments_in (messages_in e.events) ++ jobs_of (tellings_in last) =
    ap jobs_of e.told_are ∙ map-append (λ (x : Telling). x.job) (tellings_in e.events) (tellings_in last) ∙ ap (λ (x : List AssignedJob). x ++ jobs_of (tellings_in last)) k.jobs in
    let joined : (assignments_in (messages_in e.events) ++ assignments_in (messages_in last)) ++ assignments_in e.later ≡ jobs_of told ++ later =
    ap (λ (x : List AssignedJob). (assignments_in (messages_in e.events) ++ x) ++ assignments_in e.later) extra.1
    ∙ ap (λ (x : List AssignedJob). x ++ assignments_in e.later) (sym (append_assoc (assignments_in (messages_in e.events)) (jobs_of (tellings_in last)) extra.0))
    ∙ append_assoc (assignments_in (messages_in e.events) ++ jobs_of (tellings_in last)) extra.0 (assignments_in e.later)
    ∙ ap (λ (x : List AssignedJob). x ++ later) (sym jobs) in
    ends_by session.duty e.events e.sent e.at e.met e.packets told (assignments session.read) later now.tally now.book reason e.reach e.path e.last e.reached e.each_sent e.told_are (split ∙ joined) e.booked e.chain

-- Part of the packets, or all or none of them, as a cut of their text: only a failed write leaves a part.
pub cut_so : (reach : Reach) (packets : List Packet) (reason : EndCause) → IsReach reach packets reason
    → (lost : List ℕ) × (text_of packets ≡ bytes_by reach packets ++ lost) × (reason ≢ WriteFault → (bytes_by reach packets ≡ []) ⊎ (lost ≡ [])) × (reason ≡ WriteFault → 0 < length lost)
cut_so nothing packets reason h = (text_of packets, refl, λ o. inl refl, λ e. absurd (h e))
cut_so whole packets reason h = ([], sym (append-nil (text_of packets)), λ o. inr refl, λ e. absurd ((told_whole reason h.0).0 e))
cut_so (up_to part lost) packets reason h = (lost, h.2, λ o. absurd (o h.0), λ e. h.3)
