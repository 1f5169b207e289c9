-- What is kept of the answers to attempts.
use Rattle.std.specs.Prelude.{ℕ, ◌==◌, Bool, true, false, Option, Some, None, ⊤, option_map}
use Rattle.farm_notes.specs.Evidence.{IsOfAShownAnswer, IsSameEvidence}
use Rattle.farm_notes.specs.declared.found.Found.{Found}
use Rattle.farm_page.specs.declared.view.AttemptView.{AttemptView}
use Rattle.farm_page.specs.declared.view.Evidence.{Evidence}
use Rattle.pool_supervisor.specs.declared.attempt.Attempt.{Attempt}
use Rattle.pool_supervisor.specs.declared.attempt.Attempt.TheVariants as attempt
use Rattle.pool_supervisor.specs.Rounds.{is_round}

-- the backlog of a plan that serves all that wait
abbrev pub backlog_of : Attempt → Option ℕ
backlog_of (attempt.Backlog round backlog) = Some backlog
backlog_of (attempt.Unserved round waiting) = None
backlog_of (attempt.NoPlan round) = None
backlog_of attempt.NoLink = None
backlog_of (attempt.Status error) = None
backlog_of (attempt.Refused refusal) = None
backlog_of attempt.Memory = None

-- the jobs that wait, if they were found in a round
abbrev pub waiting_of : Bool → Option Found → Option ℕ
waiting_of true found = option_map (λ found. found.waiting_jobs) found
waiting_of false found = None

-- what is drawn of an attempt in which this was found
abbrev pub attempt_view : Attempt → Option Found → AttemptView
attempt_view made found = record { backlog = backlog_of made; waiting = waiting_of (is_round made) found }

-- what was found, as that of an attempt of this number
abbrev pub numbered : ℕ → Found → Found
numbered number found = record found { evidence = record found.evidence { attempt = number } }

-- it was found in the attempt of this number
abbrev pub is_of : ℕ → Found → Bool
is_of number found = found.evidence.attempt == number

-- What was found in the last round, after one more attempt: what was found in that, if it led to a round.
abbrev pub last_found : Bool → ℕ → Option Found → Option Found → Option Found
last_found true number (Some found) before = Some (numbered number found)
last_found true number None before = before
last_found false number found before = before

-- The evidence is that of what was found, if anything was.
abbrev pub ShowsEvidence : Option Found → Option Evidence → Type 0
ShowsEvidence None None = ⊤
ShowsEvidence None (Some shown) = ⊥
ShowsEvidence (Some found) None = ⊥
ShowsEvidence (Some found) (Some shown) = IsSameEvidence found.evidence shown

-- If there is evidence, it is that of an answer that is shown.
abbrev pub ShowsAShownAnswer : Option Evidence → Type 0
ShowsAShownAnswer None = ⊤
ShowsAShownAnswer (Some shown) = IsOfAShownAnswer shown
