-- What each history of a pool keeps to: the promise of the whole, which a run makes of its own history.
use Rattle.std.specs.Prelude.{◌≡◌, ℕ, ◌<◌, ◌≤◌, List, ◌∷◌, ◌++◌, length, Some}
use Rattle.gear_status.specs.Status.{Line}
use Rattle.plan_model.specs.Shown.{Shown, Best}
use Rattle.plan_model.specs.declared.answer.Answer.{Answer}
use Rattle.worker_state.specs.declared.job.Standing.{Standing}
use Rattle.pool_settings.specs.Settings.{Settings}
use Rattle.pool_core.specs.declared.event.Event.{Event}
use Rattle.pool_core.specs.declared.event.Event.TheVariants.{Round}
use Rattle.pool_core.specs.Machine.{State, first, replay, input_of, standing_in}
use Rattle.pool_core.specs.Laws.{grabbed_jobs, IsAccountedFor}

-- The answer is best for the workers that are live in this state and for its load. Either it gives each at most one function that it may
-- do, meets every least number and passes no greatest one, and no other such plan has a smaller backlog; or no such plan exists. Above
-- backlog 0 a set of functions shows it.
abbrev pub IsBestRound : Settings → State → Answer → Type 0
IsBestRound settings state answer =
    (load : List Line) × (state.load ≡ Some load)
    × Shown (input_of settings state load) answer × Best (input_of settings state load) answer

-- the job of this ticket is running, reported once, or lost with the worker that grabbed it
abbrev pub AccountsFor : List Event → State → ℕ → Type 0
AccountsFor events state ticket =
    (how : Standing) × (standing_in state.standings ticket ≡ Some how) × IsAccountedFor events state ticket how

-- After these joins, loads, grabs, reports, losses and rounds each round was best in its state, and each grabbed job is running, reported
-- once, or lost with its worker.
pub record KeepsItsPromise (settings : Settings) (events : List Event) : Type 0 where
  pub rounds : (earlier later : List Event) (answer : Answer) → events ≡ earlier ++ Round answer ∷ later
      → IsBestRound settings (replay settings (first settings) earlier) answer
  pub jobs : (ticket : ℕ) → 0 < ticket → ticket ≤ length (grabbed_jobs events)
      → AccountsFor events (replay settings (first settings) events) ticket
