-- What each command does to the pool, and what all of them do.
use Rattle.std.specs.Prelude.{◌≡◌, ℕ, ◌+◌, ◌≤◌, List, ◌++◌, length, count_by, Bool, true, false, Option, Some, ◌⊎◌}
use Rattle.pool_settings.specs.Settings.{Settings}
use Rattle.pool_core.specs.declared.event.Event.{Event}
use Rattle.pool_core.specs.Machine.{IsReplay}
use Rattle.pool_core.specs.Book.{Book, next_chapter}
use Rattle.pool_core.specs.Laws.{Called, joined}
use Rattle.pool_commands.specs.Grammar.{command_in}
use Rattle.pool_commands.specs.declared.command.Command.{Command}
use Rattle.pool_commands.specs.declared.command.Command.TheVariants as command
use Rattle.pool_replay.specs.declared.desk.Desk.{Desk}
use Rattle.pool_replay.specs.declared.running.End.{End}
use Rattle.pool_replay.specs.Step.{StepOf}
use Rattle.pool_replay.specs.Transcript.{RunsTo}

-- The command `chapter` ends the chapter of the pool's history, if it is not refused; each other command leaves the pool as it
-- was, or is one event of it.
abbrev pub DoesTo : Command → Book → Book → Type 0
DoesTo command.Chapter old new = (new ≡ old) ⊎ (new ≡ next_chapter old)
DoesTo _ old new = Called old new

abbrev pub CommandsAreCalls : Type 0
CommandsAreCalls =
    (settings : Settings) (command : Command) (old : Desk) (line : List ℕ) (new : Desk) → StepOf settings command old line new
    → DoesTo command old.pool new.pool

-- the command `chapter`
abbrev pub is_chapter : Option Command → Bool
is_chapter (Some command.Chapter) = true
is_chapter _ = false

abbrev pub is_chapter_line : Settings → List ℕ → Bool
is_chapter_line settings line = is_chapter (command_in settings line)

-- The pool has come from the older one by these events, which are a history of the machine. They follow those that the older one had,
-- and all of them are the events of the chapters that have ended meanwhile, which were handed out, and then those of the pool.
pub record ComesBy (chapters : List (List Event)) (events : List Event) (old new : Book) : Type 0 where
  pub gained : joined chapters ++ new.events ≡ old.events ++ events
  pub ended : new.chapters ≡ old.chapters + length chapters
  pub replays : IsReplay old.settings old.state events new.state

-- A whole transcript is a history of the machine: the pool where it ends has come by it from the pool where it began. At most as many
-- chapters have ended as lines are the command `chapter`; so if none is, the events that the pool has gained are this history.
abbrev pub TranscriptsAreHistories : Type 0
TranscriptsAreHistories =
    (settings : Settings) (number : ℕ) (desk : Desk) (lines : List (List ℕ)) (output : List ℕ) (how : End) (last : Desk)
    → RunsTo settings number desk lines output how last
    → (chapters : List (List Event)) × (events : List Event) × ComesBy chapters events desk.pool last.pool
    × (length chapters ≤ count_by (is_chapter_line settings) lines)
