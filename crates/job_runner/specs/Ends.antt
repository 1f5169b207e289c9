-- The loss that each end of a session is for the pool, and the labels of ends: a loss has the label of its cause.
use Rattle.std.specs.Prelude.{ℕ, codes, Option, Some, None}
use Rattle.refusal.specs.Label.{Label, label}
use Rattle.worker_state.specs.declared.cause.Cause.{Cause}
use Rattle.worker_state.specs.declared.cause.Cause.TheVariants as loss
use Rattle.worker_state.specs.Causes.{cause_label}
use Rattle.job_runner.specs.declared.end.EndCause.{EndCause}
use Rattle.job_runner.specs.declared.end.EndCause.TheVariants as cause

-- the cause of a loss, by the cause of the end
abbrev pub loss_of : EndCause → Option Cause
loss_of cause.Retired = None
loss_of cause.Gone = None
loss_of cause.BadPacket = Some loss.BadPacket
loss_of cause.ServerError = Some loss.ServerError
loss_of cause.ReadFault = Some loss.ReadFault
loss_of cause.WriteFault = Some loss.WriteFault
loss_of cause.TurnsUsed = Some loss.TurnsUsed
loss_of cause.Memory = Some loss.Memory
loss_of cause.HistoryFull = Some loss.HistoryFull
loss_of cause.Closed = Some loss.Closed
loss_of cause.Stopped = Some loss.Stopped
loss_of cause.Unserved = Some loss.Unserved

-- the label of an end that loses no worker
abbrev pub kept_label : EndCause → Label
kept_label cause.Retired = label 1 (codes "Retired")
kept_label other = label 2 (codes "Gone")

abbrev pub end_label : EndCause → Label
end_label end = elim (loss_of end) [ Some lost ↦ cause_label lost | None ↦ kept_label end ]

-- the place of a cause among all
abbrev pub place_of : EndCause → ℕ
place_of cause.Retired = 0
place_of cause.Gone = 1
place_of cause.BadPacket = 2
place_of cause.ServerError = 3
place_of cause.ReadFault = 4
place_of cause.WriteFault = 5
place_of cause.TurnsUsed = 6
place_of cause.Memory = 7
place_of cause.HistoryFull = 8
place_of cause.Closed = 9
place_of cause.Stopped = 10
place_of cause.Unserved = 11
