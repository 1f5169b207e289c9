-- Why a session ends: each reason of a step is one of what is above it.
use Rattle.std.proofs.Common.{◌≡◌, ◌≢◌, ℕ, ◌+◌, Result, Ok, Err, refl, sym, ap, subst, ◌∙◌}
use Rattle.std.specs.Prelude.{IfErr}
use Rattle.gear_packets.specs.Response.{Message}
use Rattle.job_runner.specs.declared.end.EndCause.{EndCause}
use Rattle.job_runner.specs.declared.end.EndCause.TheVariants as cause
use Rattle.job_runner.specs.declared.end.EndCause.TheVariants.{WriteFault, Memory}
use Rattle.job_runner.specs.declared.answering.Tally.{Tally}
use Rattle.job_runner.specs.Book.{Ledger}
use Rattle.job_runner.specs.Course.{Session, AnswerReason, PortReason}
use Rattle.job_runner.specs.Run.{Link, NoFault, Reason, ReadReason}
use Rattle.job_runner.specs.Loop.{StepReason}
use Rattle.job_runner.specs.Path.{IsSendEnd}

pub send_reason : (generation : ℕ) (b : Ledger) (e : EndCause) → IsSendEnd e → PortReason generation b e
send_reason generation b WriteFault h = tt
send_reason generation b Memory h = tt
send_reason generation b cause.Retired h = absurd h
send_reason generation b cause.Gone h = absurd h
send_reason generation b cause.BadPacket h = absurd h
send_reason generation b cause.ServerError h = absurd h
send_reason generation b cause.ReadFault h = absurd h
send_reason generation b cause.TurnsUsed h = absurd h
send_reason generation b cause.HistoryFull h = absurd h
send_reason generation b cause.Closed h = absurd h
send_reason generation b cause.Stopped h = absurd h
send_reason generation b cause.Unserved h = absurd h

-- a step at the port or on the link is a step at a message
pub step_reason : (generation : ℕ) (m : Message) (old new : Tally) (b : Ledger) (e : EndCause) → PortReason generation b e → StepReason generation m old new b e
step_reason generation m old new b WriteFault h = tt
step_reason generation m old new b Memory h = tt
step_reason generation m old new b cause.Retired h = h
step_reason generation m old new b cause.Gone h = h
step_reason generation m old new b cause.BadPacket h = absurd h
step_reason generation m old new b cause.ServerError h = absurd h
step_reason generation m old new b cause.ReadFault h = absurd h
step_reason generation m old new b cause.TurnsUsed h = absurd h
step_reason generation m old new b cause.HistoryFull h = h
step_reason generation m old new b cause.Closed h = absurd h
step_reason generation m old new b cause.Stopped h = h
step_reason generation m old new b cause.Unserved h = absurd h

-- so is one with a job
pub answer_reason : (generation : ℕ) (m : Message) (old new : Tally) (b : Ledger) (e : EndCause) → AnswerReason generation b e → StepReason generation m old new b e
answer_reason generation m old new b WriteFault h = tt
answer_reason generation m old new b Memory h = tt
answer_reason generation m old new b cause.Retired h = h
answer_reason generation m old new b cause.Gone h = h
answer_reason generation m old new b cause.BadPacket h = absurd h
answer_reason generation m old new b cause.ServerError h = absurd h
answer_reason generation m old new b cause.ReadFault h = absurd h
answer_reason generation m old new b cause.TurnsUsed h = absurd h
answer_reason generation m old new b cause.HistoryFull h = h
answer_reason generation m old new b cause.Closed h = absurd h
answer_reason generation m old new b cause.Stopped h = h
answer_reason generation m old new b cause.Unserved h = tt

-- a step at the port is one with no job
pub port_answer : (generation : ℕ) (b : Ledger) (e : EndCause) → PortReason generation b e → AnswerReason generation b e
port_answer generation b WriteFault h = tt
port_answer generation b Memory h = tt
port_answer generation b cause.Retired h = h
port_answer generation b cause.Gone h = h
port_answer generation b cause.BadPacket h = absurd h
port_answer generation b cause.ServerError h = absurd h
port_answer generation b cause.ReadFault h = absurd h
port_answer generation b cause.TurnsUsed h = absurd h
port_answer generation b cause.HistoryFull h = h
port_answer generation b cause.Closed h = absurd h
port_answer generation b cause.Stopped h = h
port_answer generation b cause.Unserved h = absurd h

-- a port ends no session as Unserved
pub port_served : (generation : ℕ) (b : Ledger) (e : EndCause) → PortReason generation b e → e ≢ cause.Unserved
port_served generation b e h = λ same. subst (PortReason generation b) same h

-- and so is what was read
pub read_reason : (session : Session) (t : Tally) (b : Ledger) (e : EndCause) → PortReason session.duty.generation b e → ReadReason session t b e
read_reason session t b WriteFault h = tt
read_reason session t b Memory h = tt
read_reason session t b cause.Retired h = h
read_reason session t b cause.Gone h = h
read_reason session t b cause.BadPacket h = absurd h
read_reason session t b cause.ServerError h = absurd h
read_reason session t b cause.ReadFault h = absurd h
read_reason session t b cause.TurnsUsed h = absurd h
read_reason session t b cause.HistoryFull h = h
read_reason session t b cause.Closed h = absurd h
read_reason session t b cause.Stopped h = h
read_reason session t b cause.Unserved h = absurd h

-- and the session's
pub outer_reason : (session : Session) (old new : Link) (t : Tally) (b : Ledger) (e : EndCause) → ReadReason session t b e → (e ≡ WriteFault → new.output.failures ≡ old.output.failures + 1) → (e ≡ Memory → NoFault old new) → Reason session old new t b e
outer_reason session old new t b WriteFault h w k = w refl
outer_reason session old new t b Memory h w k = k refl
outer_reason session old new t b cause.Retired h w k = h
outer_reason session old new t b cause.Gone h w k = h
outer_reason session old new t b cause.BadPacket h w k = h
outer_reason session old new t b cause.ServerError h w k = h
outer_reason session old new t b cause.ReadFault h w k = absurd h
outer_reason session old new t b cause.TurnsUsed h w k = absurd h
outer_reason session old new t b cause.HistoryFull h w k = h
outer_reason session old new t b cause.Closed h w k = absurd h
outer_reason session old new t b cause.Stopped h w k = h
outer_reason session old new t b cause.Unserved h w k = h

-- a reason stands from where the link began
pub reason_from : (session : Session) (older old new : Link) (t : Tally) (b : Ledger) (e : EndCause) → Reason session old new t b e → old.input.failures ≡ older.input.failures → old.output.failures ≡ older.output.failures → Reason session older new t b e
reason_from session older old new t b WriteFault h r w = h ∙ ap (λ (n : ℕ). n + 1) w
reason_from session older old new t b Memory h r w = (h.0 ∙ r, h.1 ∙ w)
reason_from session older old new t b cause.Retired h r w = h
reason_from session older old new t b cause.Gone h r w = h
reason_from session older old new t b cause.BadPacket h r w = h
reason_from session older old new t b cause.ServerError h r w = h
reason_from session older old new t b cause.ReadFault h r w = h ∙ ap (λ (n : ℕ). n + 1) r
reason_from session older old new t b cause.TurnsUsed h r w = (h.0 ∙ r, h.1 ∙ w)
reason_from session older old new t b cause.HistoryFull h r w = h
reason_from session older old new t b cause.Closed h r w = h
reason_from session older old new t b cause.Stopped h r w = h
reason_from session older old new t b cause.Unserved h r w = h

-- a port ends no session for its turns
pub port_turns : (generation : ℕ) (b : Ledger) (result : Result (Unit {0}) EndCause) → IfErr result (PortReason generation b) → IfErr result (λ e. e ≢ cause.TurnsUsed)
port_turns generation b (Ok u) h = tt
port_turns generation b (Err e) h = λ same. subst (PortReason generation b) same h

-- a step that ends for lack of memory does not end for a failed write
pub memory_is_other : (result : Result (Unit {0}) EndCause) → result ≡ Err Memory → result ≢ Err WriteFault
memory_is_other result e = λ x. absurd (let clash : ◌≡◌ {A = Result (Unit {0}) EndCause} (Err Memory) (Err WriteFault) = sym e ∙ x in cc)
