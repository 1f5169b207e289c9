-- What a session's steps keep, message by message.
use Rattle.std.proofs.Common.{◌≡◌, ◌≢◌, ℕ, true, zero, suc, ◌+◌, ◌<◌, ◌≤◌, ◌^◌, inr, List, [], ◌∷◌, ◌++◌, length, Option, Some, None, Result, Ok, Err, refl, sym, ap, subst, ◌∙◌, arith}
use Rattle.std.specs.Prelude.{IfErr}
use Rattle.std.proofs.lemmas.List.{append_assoc, length-append, length-map}
use Rattle.std.proofs.lemmas.List.Elements.{filter_map-append}
use Rattle.gear_packets.specs.Response.{AssignedJob, Message, Next, gives, faulty, waits, first_response}
use Rattle.gear_packets.specs.Text.{unread, broken, Reading, reading, reading_within, read_after, assignment_of, assignments_in, assignments}
use Rattle.gear_packets.specs.Reading.{fault_of, nothing_read}
use Rattle.gear_packets.specs.declared.fault.StreamFault.{StreamFault}
use Rattle.job_runner.specs.declared.end.EndCause.{EndCause}
use Rattle.job_runner.specs.declared.end.EndCause.TheVariants as cause
use Rattle.job_runner.specs.declared.end.EndCause.TheVariants.{WriteFault, Memory}
use Rattle.job_runner.specs.declared.state.State.{State}
use Rattle.job_runner.specs.declared.answering.Tally.{Tally}
use Rattle.job_runner.specs.Told.{Telling, jobs_of}
use Rattle.job_runner.specs.Book.{Ledger}
use Rattle.job_runner.specs.Course.{Duty, Session, session_of, GoesOnOrEnds, PortReason}
use Rattle.job_runner.specs.Listening.{SaysFirst, Hears, IsReadEnd}
use Rattle.job_runner.specs.Run.{Link, NoFault, Reason, ReadReason}
use Rattle.job_runner.specs.Loop.{StepReason, HasServed, Halts}
use Rattle.job_runner.specs.Path.{IsWaitEnd, Place, Went, Ended, place_of}
use Rattle.job_runner.specs.Acting.{Account, account}
use Rattle.job_runner.proofs.Law.{keeps}
use Rattle.job_runner.proofs.Paths.{ended_waiting}
use Rattle.job_runner.proofs.Reasons.{read_reason, outer_reason, port_served}

-- ---- lists

pub no_messages : (x : Reading) → read_after [] x ≡ x
no_messages x = refl

few_within : (n : ℕ) (bytes : List ℕ) → ((rest : List ℕ) → length (reading_within n rest).messages ≤ n) → (o : Next) → first_response bytes ≡ o → length (reading_within (suc n) bytes).messages ≤ suc n
unfolding reading_within
few_within n bytes less (gives m rest) e =
    let few = less rest in
    let step : reading_within (suc n) bytes ≡ record { messages = m ∷ (reading_within n rest).messages; ending = (reading_within n rest).ending } = rw (e, reading_within) refl in
    subst (λ (r : Reading). length r.messages ≤ suc n) (sym step) (omega (arith, few))
few_within n bytes less (faulty f) e =
    let step : reading_within (suc n) bytes ≡ record { messages = []; ending = broken f } = rw (e, reading_within) refl in
    subst (λ (r : Reading). length r.messages ≤ suc n) (sym step) (omega arith)
few_within n bytes less waits e =
    let step : reading_within (suc n) bytes ≡ record { messages = []; ending = unread bytes } = rw (e, reading_within) refl in
    subst (λ (r : Reading). length r.messages ≤ suc n) (sym step) (omega arith)

reading_few : (n : ℕ) (bytes : List ℕ) → length (reading_within n bytes).messages ≤ n
unfolding reading_within
reading_few zero bytes = omega arith
reading_few (suc n) bytes = few_within n bytes (λ rest. reading_few n rest) (first_response bytes) refl

messages_few : (bytes : List ℕ) → length (reading bytes).messages ≤ length bytes
unfolding reading
messages_few bytes = reading_few (length bytes) bytes

one_more : (m : Message) (ms : List Message) → length (assignments_in ms) ≤ length ms → (o : Option AssignedJob) → assignment_of m ≡ o → length (assignments_in (m ∷ ms)) ≤ suc (length ms)
one_more m ms few None e = rw e (omega (arith, few))
one_more m ms few (Some a) e = rw e (omega (arith, few))

assignments_few : (ms : List Message) → length (assignments_in ms) ≤ length ms
assignments_few [] = omega arith
assignments_few (m ∷ ms) = one_more m ms (assignments_few ms) (assignment_of m) refl

assignments_append : (xs ys : List Message) → assignments_in (xs ++ ys) ≡ assignments_in xs ++ assignments_in ys
assignments_append xs ys = filter_map-append assignment_of xs ys

-- ---- what a path says

-- the jobs that were told of are those that were given
went_jobs : (duty : Duty) (before : Option (List ℕ)) (given : List Message) (told : List Telling) (now : Account) (at : Place) → Went duty before given told now at → jobs_of told ≡ assignments_in given
went_jobs duty before given told now at w = ap jobs_of (sym w.told_are) ∙ (keeps duty w.events w.sent at w.path).jobs ∙ ap assignments_in w.messages_are

pub says_more : (read : List ℕ) (given later : List Message) → (reading read).messages ≡ given ++ later → assignments read ≡ assignments_in given ++ assignments_in later
says_more read given later h = ap assignments_in h ∙ assignments_append given later

-- ---- messages

pub heard_next : (read : List ℕ) (given : List Message) (m : Message) (old new : Reading) → reading read ≡ read_after given old → old ≡ read_after (m ∷ []) new → reading read ≡ read_after (given ++ m ∷ []) new
heard_next read given m old new h e = h ∙ ap (read_after given) e ∙ sym (ap (λ (x : List Message). let r : Reading = record { messages = x; ending = new.ending } in r) (append_assoc given (m ∷ []) new.messages))

pub says_after : (read : List ℕ) (given : List Message) (m : Message) (r r' : Reading) → reading read ≡ read_after given r → r ≡ read_after (m ∷ []) r' → (reading read).messages ≡ (given ++ m ∷ []) ++ r'.messages
says_after read given m r r' h e = ap (λ (x : Reading). x.messages) (heard_next read given m r r' h e)

all_after : (read : List ℕ) (given : List Message) (m : Message) (r r' : Reading) → reading read ≡ read_after given r → r ≡ read_after (m ∷ []) r' → assignments read ≡ (assignments_in given ++ assignments_in (m ∷ [])) ++ assignments_in r'.messages
all_after read given m r r' h e = says_more read (given ++ m ∷ []) r'.messages (says_after read given m r r' h e) ∙ ap (λ (x : List AssignedJob). x ++ assignments_in r'.messages) (assignments_append given (m ∷ []))

told_count : (told : List Telling) (given : List Message) → jobs_of told ≡ assignments_in given → length told ≡ length (assignments_in given)
told_count told given e = sym (length-map told (λ (x : Telling). x.job)) ∙ ap length e

pub reason_next : (duty : Duty) (Ran : List Telling → Type 0) (before : Option (List ℕ)) (read : List ℕ) (old : Option (List ℕ)) (m : Message) (r r' : Reading) (s : State) (t' : Tally) (b b' : Ledger) (e : EndCause) (st : HasServed (session_of duty before read) Ran old r s b) → r ≡ read_after (m ∷ []) r'
    → StepReason duty.generation m s.tally t' b' e → ReadReason (session_of duty before read) t' b' e
reason_next duty Ran before read old m r r' s t' b b' WriteFault st same h = tt
reason_next duty Ran before read old m r r' s t' b b' Memory st same h = tt
reason_next duty Ran before read old m r r' s t' b b' cause.Retired st same h = h
reason_next duty Ran before read old m r r' s t' b b' cause.Gone st same h = h
reason_next duty Ran before read old m r r' s t' b b' cause.BadPacket st same h =
    let count : length (assignments read) ≡ (length (assignments_in st.given) + length (assignments_in (m ∷ []))) + length (assignments_in r'.messages) =
    ap length (all_after read st.given m r r' st.heard same) ∙ length-append (assignments_in st.given ++ assignments_in (m ∷ [])) (assignments_in r'.messages) ∙ ap (λ (n : ℕ). n + length (assignments_in r'.messages)) (length-append (assignments_in st.given) (assignments_in (m ∷ []))) in
    let grabbed : t'.grabbed ≡ length (assignments_in st.given) = h.0 ∙ st.went.even.grabbed ∙ told_count st.told st.given (went_jobs duty before st.given st.told (account s.tally old b) (place_of s) st.went) in
    let some = h.1 in
    inr (omega (arith, count, grabbed, some))
reason_next duty Ran before read old m r r' s t' b b' cause.ServerError st same h =
    (h.0, h.1, st.given, r'.messages, says_after read st.given m r r' st.heard same ∙ append_assoc st.given (m ∷ []) r'.messages ∙ ap (λ (x : Message). st.given ++ x ∷ r'.messages) h.2)
reason_next duty Ran before read old m r r' s t' b b' cause.ReadFault st same h = absurd h
reason_next duty Ran before read old m r r' s t' b b' cause.TurnsUsed st same h = absurd h
reason_next duty Ran before read old m r r' s t' b b' cause.HistoryFull st same h = h
reason_next duty Ran before read old m r r' s t' b b' cause.Closed st same h = absurd h
reason_next duty Ran before read old m r r' s t' b b' cause.Stopped st same h = h
reason_next duty Ran before read old m r r' s t' b b' cause.Unserved st same h = tt

-- a session that stands has counted no more than it read
counted : (session : Session) (Ran : List Telling → Type 0) (old : Option (List ℕ)) (r : Reading) (s : State) (b : Ledger) (st : HasServed session Ran old r s b) → length st.told ≤ length session.read
counted session Ran old r s b st =
    let said : (reading session.read).messages ≡ st.given ++ r.messages = ap (λ (x : Reading). x.messages) st.heard in
    let lengths : length (reading session.read).messages ≡ length st.given + length r.messages = ap length said ∙ length-append st.given r.messages in
    let few = messages_few session.read in
    let fewer = assignments_few st.given in
    let count = told_count st.told st.given (went_jobs session.duty session.before st.given st.told (account s.tally old b) (place_of s) st.went) in
    omega (arith, lengths, few, fewer, count)

-- the fault at which the stream ended
pub broken_says : (read : List ℕ) (given : List Message) (r : Reading) (f : StreamFault) → reading read ≡ read_after given r → Some f ≡ fault_of r.ending → fault_of (reading read).ending ≢ None
broken_says read given r f h e none =
    let same : fault_of (reading read).ending ≡ Some f = ap (λ (x : Reading). fault_of x.ending) h ∙ sym e in
    absurd (let clash = sym none ∙ same in cc)

-- a session that stands may count one job more
pub tally_room : (session : Session) (Ran : List Telling → Type 0) (old : Option (List ℕ)) (r : Reading) (s : State) (b : Ledger) → HasServed session Ran old r s b → length session.read < 2 ^ 60 → (s.tally.grabbed + 1 < 2 ^ 64) × (s.tally.answered + 1 < 2 ^ 64) × (s.tally.reported + 1 < 2 ^ 64)
tally_room session Ran old r s b st short =
    let few = counted session Ran old r s b st in
    let even = st.went.even in
    (omega (arith, few, short, even.grabbed), omega (arith, few, short, even.answered), omega (arith, few, short, even.reported))

pub port_room : (session : Session) (Ran : List Telling → Type 0) (old : Option (List ℕ)) (r : Reading) (s : State) (b : Ledger) → HasServed session Ran old r s b → length session.read < 2 ^ 60 → (b.grabs + 1 < 2 ^ 64) × (b.begins + 1 < 2 ^ 64) × (b.reports + 1 < 2 ^ 64)
port_room session Ran old r s b st short =
    let few = counted session Ran old r s b st in
    let even = st.went.even in
    (omega (arith, few, short, even.grabs), omega (arith, few, short, even.begins), omega (arith, few, short, even.reports))

-- and may halt where it waits for more
pub serving_halts : (session : Session) (Ran : List Telling → Type 0) (End : EndCause → List Telling → Type 0) (old : Option (List ℕ)) (r : Reading) (s : State) (b : Ledger) (reason : EndCause) (st : HasServed session Ran old r s b) → r.messages ≡ [] → End reason st.told → IsWaitEnd reason → Halts session End old s.tally b reason
serving_halts session Ran End old r s b reason st all ran is = record {
  told = st.told;
  ran = ran;
  ended = ended_waiting session st.given st.told (account s.tally old b) s reason st.went is (r.messages, ap (λ (x : Reading). x.messages) st.heard) (λ o. all);
}

-- ---- reads

-- an end of a step at the order
pub glanced : (session : Session) (Ran : List Telling → Type 0) (End : EndCause → List Telling → Type 0) (out : Option (List ℕ)) (told : List Telling) (given : List Message) (r : Reading) (s : State) (b : Ledger) (old new : Link) (res : Result (Unit {0}) EndCause) → Ran told → ((e : EndCause) → e ≢ cause.Unserved → End e told) → reading session.read ≡ read_after given r
    → GoesOnOrEnds (Went session.duty session.before given told (account s.tally out b) (place_of s)) (Ended session told (account s.tally out b)) res
    → IfErr res (PortReason session.duty.generation b) → (res ≡ Err WriteFault → new.output.failures ≡ old.output.failures + 1) → (res ≡ Err Memory → NoFault old new)
    → GoesOnOrEnds (HasServed session Ran out r s b) (λ (e : EndCause). Halts session End out s.tally b e × Reason session old new s.tally b e) res
glanced session Ran End out told given r s b old new (Ok u) ran ends heard gone reason fault none = record { told = told; given = given; ran = ran; heard = heard; went = gone }
glanced session Ran End out told given r s b old new (Err e) ran ends heard gone reason fault none = (
  record { told = told; ran = ends e (port_served session.duty.generation b e reason); ended = gone },
  outer_reason session old new s.tally b e (read_reason session s.tally b e reason)
      (λ (x : e ≡ WriteFault). fault (ap (λ (y : EndCause). let z : Result (Unit {0}) EndCause = Err y in z) x))
      (λ (x : e ≡ Memory). none (ap (λ (y : EndCause). let z : Result (Unit {0}) EndCause = Err y in z) x)),
)

-- an end at a read
read_halts : (session : Session) (End : EndCause → List Telling → Type 0) (out : Option (List ℕ)) (told : List Telling) (given : List Message) (s : State) (b : Ledger) (e : EndCause) → End e told → Went session.duty session.before given told (account s.tally out b) (place_of s) → IsWaitEnd e
    → (says : SaysFirst session.read given) → (e ≢ Memory → says.0 ≡ []) → Halts session End out s.tally b e
read_halts session End out told given s b e ran went is says all = record { told = told; ran = ran; ended = ended_waiting session given told (account s.tally out b) s e went is says all }

pub read_ended : (session : Session) (End : EndCause → List Telling → Type 0) (out : Option (List ℕ)) (told : List Telling) (given : List Message) (r : Reading) (s : State) (b : Ledger) (old new : Link) (e : EndCause) → ((x : EndCause) → x ≢ cause.Unserved → End x told) → Went session.duty session.before given told (account s.tally out b) (place_of s) → Hears session.read given r (Err e) → r.messages ≡ [] → IsReadEnd e
    → (e ≡ cause.Closed → new.input.has_ended ≡ true) → (e ≡ cause.ReadFault → new.input.failures ≡ old.input.failures + 1) → (e ≡ Memory → NoFault old new) → Halts session End out s.tally b e × Reason session old new s.tally b e
read_ended session End out told given r s b old new cause.Closed ran went heard all is closed failed none = (read_halts session End out told given s b cause.Closed (ran cause.Closed (λ e. cc)) went tt (r.messages, ap (λ (x : Reading). x.messages) heard) (λ o. all), closed refl)
read_ended session End out told given r s b old new cause.ReadFault ran went heard all is closed failed none = (read_halts session End out told given s b cause.ReadFault (ran cause.ReadFault (λ e. cc)) went tt (r.messages, ap (λ (x : Reading). x.messages) heard) (λ o. all), failed refl)
read_ended session End out told given r s b old new Memory ran went heard all is closed failed none = (read_halts session End out told given s b Memory (ran Memory (λ e. cc)) went tt heard (λ o. absurd (o refl)), none refl)
read_ended session End out told given r s b old new WriteFault ran went heard all is closed failed none = absurd is
read_ended session End out told given r s b old new cause.Retired ran went heard all is closed failed none = absurd is
read_ended session End out told given r s b old new cause.Gone ran went heard all is closed failed none = absurd is
read_ended session End out told given r s b old new cause.BadPacket ran went heard all is closed failed none = absurd is
read_ended session End out told given r s b old new cause.ServerError ran went heard all is closed failed none = absurd is
read_ended session End out told given r s b old new cause.TurnsUsed ran went heard all is closed failed none = absurd is
read_ended session End out told given r s b old new cause.HistoryFull ran went heard all is closed failed none = absurd is
read_ended session End out told given r s b old new cause.Stopped ran went heard all is closed failed none = absurd is
read_ended session End out told given r s b old new cause.Unserved ran went heard all is closed failed none = absurd is

-- ---- the start

pub reads_nothing : reading [] ≡ nothing_read
unfolding reading reading_within
reads_nothing = refl

pub says_nothing : (reading []).messages ≡ []
says_nothing = ap (λ (r : Reading). r.messages) reads_nothing
