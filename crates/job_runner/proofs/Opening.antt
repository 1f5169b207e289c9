-- Where a session goes to sleep.
use Rattle.std.proofs.Common.{◌≡◌, ℕ, zero, suc, ◌<◌, List, [], ◌∷◌, length, Option, Some, None, Err, refl, arith}
use Rattle.gear_packets.specs.Request.{Packet, pre_sleep}
use Rattle.job_runner.specs.declared.end.EndCause.{EndCause}
use Rattle.job_runner.specs.declared.end.EndCause.TheVariants as cause
use Rattle.job_runner.specs.declared.end.EndCause.TheVariants.{WriteFault, Memory}
use Rattle.job_runner.specs.declared.order.Phase.TheVariants.{Waiting, Asleep}
use Rattle.job_runner.specs.Course.{Sends, known, IsServing}
use Rattle.job_runner.specs.Path.{IsSendEnd}
use Rattle.job_runner.proofs.Steps.{Leads}

-- ---- one packet

pub sleep_leads : (names : List (List ℕ)) → length names ≡ 1 → Leads names (pre_sleep ∷ []) names []
sleep_leads names h = record { registered_is = refl; one = (omega (arith, h), λ asked. h, tt); works = refl; few = omega (arith, h) }

-- a session that waits has one function
pub waits_known : (functions : List (List ℕ)) (registered : Option ℕ) → IsServing (length functions) Waiting registered → length (known functions registered) ≡ 1
waits_known functions None h = absurd h
waits_known functions (Some f) h = at_known functions f h
  where
    at_known : (xs : List (List ℕ)) (f : ℕ) → f < length xs → length (known xs (Some f)) ≡ 1
    at_known [] f h = absurd (omega (arith, h))
    at_known (x ∷ xs) zero h = refl
    at_known (x ∷ xs) (suc f) h = at_known xs f (omega (arith, h))

pub still_serves : (count : ℕ) (registered : Option ℕ) → IsServing count Waiting registered → IsServing count Asleep registered
still_serves count None h = absurd h
still_serves count (Some f) h = h

pub send_fault : (old new : Option (List ℕ)) (ps : List Packet) (e : EndCause) → Sends old new ps (Err e) → IsSendEnd e
send_fault old new ps WriteFault h = tt
send_fault old new ps Memory h = tt
send_fault old new ps cause.Retired h = absurd h
send_fault old new ps cause.Gone h = absurd h
send_fault old new ps cause.BadPacket h = absurd h
send_fault old new ps cause.ServerError h = absurd h
send_fault old new ps cause.ReadFault h = absurd h
send_fault old new ps cause.TurnsUsed h = absurd h
send_fault old new ps cause.HistoryFull h = absurd h
send_fault old new ps cause.Closed h = absurd h
send_fault old new ps cause.Stopped h = absurd h
send_fault old new ps cause.Unserved h = absurd h
