-- The promise of a run, by the laws of the pool.
use Rattle.std.proofs.Common.{ℕ, List, subst}
use Rattle.pool_settings.specs.Settings.{Settings, AreSettings}
use Rattle.pool_core.specs.declared.event.Event.{Event}
use Rattle.pool_core.specs.Machine.{first, IsHistory}
use Rattle.pool_core.specs.Laws.{RoundsAreShown, JobsAreAccountedFor}
use Rattle.pool_replay.specs.declared.desk.Desk.{Desk}
use Rattle.pool_replay.specs.declared.running.End.{End}
use Rattle.pool_replay.specs.Law.{TranscriptsAreHistories}
use Rattle.pool_replay.specs.Run.{HasKeptItsPromise}
use Rattle.pool_replay.specs.Transcript.{RunsTo, first_desk, lines_of}

pub has_kept : (settings : Settings) (input output : List ℕ) (how : End) (last : Desk) → AreSettings settings → TranscriptsAreHistories → RoundsAreShown → JobsAreAccountedFor
    → RunsTo settings 1 (first_desk settings) (lines_of input) output how last → HasKeptItsPromise settings last.pool
has_kept settings input output how last valid histories shown accounted runs =
    let made = histories settings 1 (first_desk settings) (lines_of input) output how last runs in
    let events = made.1 in
    let history = made.2.replays.history in (
      made.0,
      events,
      made.2,
      record {
        rounds = λ earlier later answer is. shown settings (first settings) earlier later answer
            (subst (λ (l : List Event). IsHistory settings (first settings) l) is history);
        jobs = accounted settings valid events history;
      },
    )
