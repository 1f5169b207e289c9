-- The sessions that a run has joined, as they are reported to what dials.
use Rattle.std.specs.Prelude.{◌≡◌, List, map, Option}
use Rattle.std.specs.List.{AllByRecursion}
use Rattle.pool_settings.specs.Settings.{Settings}
use Rattle.pool_supervisor.specs.Dials.{DialCall, then_called}
use Rattle.pool_supervisor.specs.Sessions.{Counts, PastSession, AllHad, HasEnded, closing_of, counted}

-- Sessions by these settings were joined, each of which had such jobs. What they counted was added, each once, and nothing was called but
-- that the link of each is closed, as it was at the session's end.
pub record Joins (settings : Settings) (had_jobs : PastSession → Type 0) (old new : Counts) (before now : Option (List DialCall)) :
    Type 0 where
  pub sessions : List PastSession
  pub ended : AllByRecursion (HasEnded settings) sessions
  pub jobs : AllHad had_jobs sessions
  pub counts : new ≡ counted old sessions
  pub calls : now ≡ then_called before (map closing_of sessions)
