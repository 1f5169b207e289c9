-- The labels of causes. 1 and 2 are kept for Retired and Gone, ends of a session that lose no worker.
use Rattle.std.specs.Prelude.{ℕ, List, [], ◌∷◌, Option, find, codes}
use Rattle.std.specs.Str.{bytes_eq}
use Rattle.refusal.specs.Label.{Label, label}
use Rattle.worker_state.specs.declared.cause.Cause.{Cause}
use Rattle.worker_state.specs.declared.cause.Cause.TheVariants.{BadPacket, ServerError, ReadFault, WriteFault, TurnsUsed, Memory}
use Rattle.worker_state.specs.declared.cause.Cause.TheVariants.{HistoryFull, Closed, Stopped, Late, Unserved}

abbrev pub cause_label : Cause → Label
cause_label BadPacket = label 3 (codes "BadPacket")
cause_label ServerError = label 4 (codes "ServerError")
cause_label ReadFault = label 5 (codes "ReadFault")
cause_label WriteFault = label 6 (codes "WriteFault")
cause_label TurnsUsed = label 7 (codes "TurnsUsed")
cause_label Memory = label 8 (codes "Memory")
cause_label HistoryFull = label 9 (codes "HistoryFull")
cause_label Closed = label 10 (codes "Closed")
cause_label Stopped = label 11 (codes "Stopped")
cause_label Late = label 12 (codes "Late")
cause_label Unserved = label 13 (codes "Unserved")

-- the causes that a text may name: all but Unserved
abbrev pub causes : List Cause
causes = BadPacket ∷ ServerError ∷ ReadFault ∷ WriteFault ∷ TurnsUsed ∷ Memory ∷ HistoryFull ∷ Closed ∷ Stopped ∷ Late ∷ []

-- the cause that a text names so
abbrev pub cause_named : List ℕ → Option Cause
cause_named name = find (λ cause. bytes_eq (cause_label cause).name name) causes
