-- The states of a pool, and its rounds.
use Rattle.std.specs.Prelude.{◌≡◌, List, [], ◌∷◌, ◌++◌}
use Rattle.pool_settings.specs.Settings.{Settings}
use Rattle.plan_model.specs.declared.answer.Answer.{Answer}
use Rattle.pool_core.specs.declared.answer.Ran.{Ran}
use Rattle.pool_core.specs.declared.event.Event.{Event}
use Rattle.pool_core.specs.declared.event.Event.TheVariants.{Round}
use Rattle.pool_core.specs.Machine.{State, first, replay, IsReplay}
use Rattle.pool_core.specs.Book.{ran_of}

-- Some history of these settings leads to the state.
abbrev pub IsReached : Settings → State → Type 0
IsReached settings state = (events : List Event) × IsReplay settings (first settings) events state

-- Some history of these settings that ends with a round leads to the state, and the round came to this.
pub record IsRoundOf (settings : Settings) (ran : Ran) (state : State) : Type 0 where
  pub before : List Event
  pub answer : Answer
  pub replays : IsReplay settings (first settings) (before ++ Round answer ∷ []) state
  pub ran_is : ran ≡ ran_of answer (replay settings (first settings) before)
