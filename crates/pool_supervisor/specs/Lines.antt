-- What an attempt of the supervisor came to, and its line.
use Rattle.std.specs.Prelude.{ℕ, ◌++◌, List, [], Option, Some, None, codes}
use Rattle.std.specs.Fmt.{decimal}
use Rattle.refusal.specs.Label.{Label, label_words}
use Rattle.gear_status.specs.StatusRefusals.{status_line_of, status_label}
use Rattle.gear_status.specs.declared.error.StatusError.{StatusError}
use Rattle.plan_model.specs.Backlogs.{as_backlog, backlog_words}
use Rattle.plan_model.specs.declared.level.Backlog.{Backlog}
use Rattle.plan_model.specs.declared.level.Backlog.TheVariants as backlog
use Rattle.pool_core.specs.CallRefusals.{load_label, view_label, adopt_label}
use Rattle.pool_core.specs.declared.answer.Ran.{Ran}
use Rattle.pool_supervisor.specs.declared.attempt.PoolRefusal.{PoolRefusal}
use Rattle.pool_supervisor.specs.declared.attempt.PoolRefusal.TheVariants as refusal
use Rattle.pool_supervisor.specs.declared.attempt.Attempt.{Attempt}
use Rattle.pool_supervisor.specs.declared.attempt.Attempt.TheVariants as attempt

-- the refusals of a round have the numbers and names that their calls give them
abbrev pub refusal_label : PoolRefusal → Label
refusal_label (refusal.Load error) = load_label error
refusal_label (refusal.View error) = view_label error
refusal_label (refusal.Adopt error) = adopt_label error

-- a round with this backlog
abbrev pub planned_attempt : ℕ → Backlog → Attempt
planned_attempt round (backlog.Jobs jobs) = attempt.Backlog round jobs
planned_attempt round (backlog.Unserved jobs) = attempt.Unserved round jobs

-- a round with this backlog number, or with none if there is no plan
abbrev pub attempt_with : ℕ → Option ℕ → Attempt
attempt_with round None = attempt.NoPlan round
attempt_with round (Some number) = planned_attempt round (as_backlog number)

abbrev pub attempt_of : Ran → Attempt
attempt_of ran = attempt_with ran.number ran.backlog

abbrev pub line_words : Option ℕ → List ℕ
line_words None = []
line_words (Some line) = codes " line " ++ decimal line

-- why a status text was not taken, with its line where it is one line
abbrev pub status_words : StatusError → List ℕ
status_words error = codes "status " ++ label_words (status_label error) ++ line_words (status_line_of error)

abbrev pub attempt_words : Attempt → List ℕ
attempt_words (attempt.Backlog round jobs) = codes "round " ++ decimal round ++ codes " " ++ backlog_words (backlog.Jobs jobs)
attempt_words (attempt.Unserved round jobs) = codes "round " ++ decimal round ++ codes " " ++ backlog_words (backlog.Unserved jobs)
attempt_words (attempt.NoPlan round) = codes "round " ++ decimal round ++ codes " noplan"
attempt_words attempt.NoLink = codes "nolink"
attempt_words (attempt.Status error) = status_words error
attempt_words (attempt.Refused refusal) = codes "refused " ++ label_words (refusal_label refusal)
attempt_words attempt.Memory = codes "refused Memory"

abbrev pub attempt_line : ℕ → Attempt → List ℕ
attempt_line number attempt = codes "attempt " ++ decimal number ++ codes " " ++ attempt_words attempt
