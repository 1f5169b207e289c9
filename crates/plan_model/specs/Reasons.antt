-- What is wrong with an answer, as a line gives it: a number and a name. The numbers rise in the order in which `check` looks;
-- 7 is left out, since the command `check` has a reason of that number.
use Rattle.std.specs.Prelude.{codes}
use Rattle.refusal.specs.Label.{Label, label}
use Rattle.plan_model.specs.declared.answer.Reason.{Reason}
use Rattle.plan_model.specs.declared.answer.Reason.TheVariants.{NotPermitted, BelowLeast, WrongBacklog, NotShort, SetMissing}
use Rattle.plan_model.specs.declared.answer.Reason.TheVariants.{Idle, AboveMost}

abbrev pub reason_label : Reason → Label
reason_label NotPermitted = label 1 (codes "NotPermitted")
reason_label BelowLeast = label 2 (codes "BelowLeast")
reason_label WrongBacklog = label 3 (codes "WrongBacklog")
reason_label NotShort = label 4 (codes "NotShort")
reason_label SetMissing = label 5 (codes "SetMissing")
reason_label Idle = label 6 (codes "Idle")
reason_label AboveMost = label 8 (codes "AboveMost")
