-- A whole run of command lines, and what its pool keeps to.
use Rattle.std.specs.Prelude.{ℕ, ◌≡◌, List, [], ◌⊎◌}
use Rattle.pool_settings.specs.Settings.{Settings}
use Rattle.pool_core.specs.declared.event.Event.{Event}
use Rattle.pool_core.specs.Book.{Book}
use Rattle.pool_core.specs.Promise.{KeepsItsPromise}
use Rattle.pool_replay.specs.declared.desk.Desk.{Desk}
use Rattle.pool_replay.specs.declared.running.End.{End}
use Rattle.pool_replay.specs.declared.running.End.TheVariants as end
use Rattle.pool_replay.specs.Law.{ComesBy}
use Rattle.pool_replay.specs.Transcript.{RunsTo, first_desk, lines_of}

-- A pool in which nothing had happened has come to this one by a history, in chapters, which keeps to the promise: each round was best in
-- its state, and each grabbed job is running, reported once, or lost with its worker.
abbrev pub HasKeptItsPromise : Settings → Book → Type 0
HasKeptItsPromise settings book =
    (chapters : List (List Event)) × (events : List Event) × ComesBy chapters events (first_desk settings).pool book
    × KeepsItsPromise settings events

-- A run of an input: the transcript of its lines on a pool in which nothing has happened, and which has kept its promise where the run
-- ends. Or nothing if there was no memory for that pool.
abbrev pub IsRun : Settings → List ℕ → List ℕ → End → Type 0
IsRun settings input output how =
    ((output ≡ []) × (how ≡ end.Memory))
    ⊎ ((last : Desk) × RunsTo settings 1 (first_desk settings) (lines_of input) output how last × HasKeptItsPromise settings last.pool)
