-- What totals and rounds are of a pool's whole history.
use Rattle.std.specs.Prelude.{◌≡◌, ℕ, List, [], ◌∷◌, ◌++◌, length, count_by}
use Rattle.pool_settings.specs.Settings.{Settings}
use Rattle.pool_core.specs.declared.answer.Ran.{Ran}
use Rattle.pool_core.specs.declared.answer.Totals.{Totals}
use Rattle.pool_core.specs.declared.event.Event.{Event}
use Rattle.pool_core.specs.declared.event.Event.TheVariants.{Round}
use Rattle.pool_core.specs.Machine.{State, first, after, IsReplay}
use Rattle.pool_core.specs.Laws.{is_grab, is_report, AreOfChapters}
use Rattle.pool_core.specs.Book.{Book, ran_of, totals_of}
use Rattle.pool_core.specs.Promise.{KeepsItsPromise}

-- what an event came to in this state, if it is a round
abbrev pub round_at : Event → State → List Ran
round_at (Round answer) state = ran_of answer state ∷ []
round_at other state = []

-- what each round of a history came to, the first one first
abbrev pub rounds_of : Settings → State → List Event → List Ran
rounds_of settings state [] = []
rounds_of settings state (event ∷ events) = round_at event state ++ rounds_of settings (after settings event state) events

-- The events of so many earlier chapters and those of this one lead from the first state to the state, and this is what their rounds came
-- to.
pub record HasRounds (settings : Settings) (chapters : ℕ) (events : List Event) (state : State) (rounds : List Ran) : Type 0 where
  pub earlier : List Event
  pub chapters_are : AreOfChapters chapters earlier
  pub replays : IsReplay settings (first settings) (earlier ++ events) state
  pub rounds_are : rounds ≡ rounds_of settings (first settings) (earlier ++ events)

-- the rounds of the pool's whole history came to this
abbrev pub CameTo : Book → List Ran → Type 0
CameTo book rounds = HasRounds book.settings book.chapters book.events book.state rounds

-- The events of the chapters that ended and those of this one lead from the first state to the state. The totals are those of the state,
-- with the number of this chapter's events: they count grabs, reports and rounds. This is what the rounds came to. The history keeps to the
-- promise.
pub record CountsItsEvents (book : Book) (totals : Totals) (rounds : List Ran) : Type 0 where
  pub earlier : List Event
  pub chapters_are : AreOfChapters book.chapters earlier
  pub replays : IsReplay book.settings (first book.settings) (earlier ++ book.events) book.state
  pub totals_are : totals ≡ totals_of book
  pub grabs : totals.grabbed ≡ count_by is_grab (earlier ++ book.events)
  pub reports : totals.reported ≡ count_by is_report (earlier ++ book.events)
  pub rounds_made : totals.rounds ≡ length rounds
  pub rounds_are : rounds ≡ rounds_of book.settings (first book.settings) (earlier ++ book.events)
  pub promise : KeepsItsPromise book.settings (earlier ++ book.events)

-- The totals are those of a pool of these settings, of whose whole history they count the events. So many of its chapters ended, and its
-- rounds came to this.
abbrev pub CountAHistory : Settings → Totals → ℕ → List Ran → Type 0
CountAHistory settings totals chapters rounds =
    (book : Book) × (book.settings ≡ settings) × (book.chapters ≡ chapters) × CountsItsEvents book totals rounds
