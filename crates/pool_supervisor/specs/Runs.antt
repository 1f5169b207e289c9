-- A run, from its first attempt to the end of its last session.
use Rattle.std.specs.Prelude.{◌≡◌, ℕ, List, [], length, Option}
use Rattle.order_board.specs.declared.view.Post.{Post}
use Rattle.pool_settings.specs.Settings.{Settings}
use Rattle.pool_core.specs.declared.answer.Ran.{Ran}
use Rattle.pool_core.specs.declared.answer.Totals.{Totals}
use Rattle.pool_supervisor.specs.declared.attempt.Attempt.{Attempt}
use Rattle.pool_supervisor.specs.declared.attempts.Until.{Until}
use Rattle.pool_supervisor.specs.declared.attempts.Until.TheVariants.{Rounds, Ended}
use Rattle.pool_supervisor.specs.declared.run_end.RunEnd.{RunEnd}
use Rattle.pool_supervisor.specs.Counted.{CountAHistory}
use Rattle.pool_supervisor.specs.Dials.{DialCall}
use Rattle.pool_supervisor.specs.FarmPosts.{PostAndStopBy, TellsBy}
use Rattle.pool_supervisor.specs.Rounds.{AreNoted}
use Rattle.pool_supervisor.specs.Sessions.{Counts, PastSession}
use Rattle.pool_supervisor.specs.Tries.{Attempts, DialsBy, LooksBy, Rule}

-- how many lines are kept
abbrev pub most_kept : Until → ℕ
most_kept (Rounds rounds) = rounds
most_kept Ended = 0

-- what is kept of the lines: all of them if so many attempts were to be made, and else none
abbrev pub Keeps : Until → List Attempt → List Attempt → Type 0
Keeps (Rounds rounds) lines kept = (kept ≡ lines) × (length lines ≡ rounds)
Keeps Ended lines kept = kept ≡ []

-- All attempts of a run were made, which added these lines, and Stop was posted after the last of them.
abbrev pub MakesAll : Until → Settings → Rule → (PastSession → Type 0) → List Attempt → List Attempt → List Post → List Post
    → Counts → Counts → Option (List DialCall) → Option (List DialCall) → Type 0
MakesAll until settings allows had_jobs old all posts posted first last before now =
    PostAndStopBy until settings old all posts posted × Attempts until settings allows had_jobs old all first last before now

-- One history of a pool of these settings has all: the totals count its events, so many of its chapters ended, and the lines report its
-- rounds, each as what it came to, in order, and no other round.
abbrev pub AreOfOneHistory : Settings → Totals → ℕ → List Attempt → Type 0
AreOfOneHistory settings totals chapters lines =
    (rounds : List Ran) × CountAHistory settings totals chapters rounds × AreNoted lines rounds

-- Attempts were made, one after the other, and added these lines, of which some are kept. Then Stop was posted, and the sessions that were
-- left were joined. Lines, totals and chapters are of one history, and the totals are the sums of what the joined sessions counted.
pub record IsRun (settings : Settings) (allows : Rule) (had_jobs : PastSession → Type 0) (until : Until) (old : List Attempt)
    (run : RunEnd) (posts : List Post) (before now : Option (List DialCall)) : Type 0 where
  pub lines : List Attempt
  pub keeps : Keeps until lines run.lines.items
  pub tells : TellsBy until settings old lines posts
  pub dials : DialsBy (LooksBy until settings allows) settings had_jobs old lines run before now
  pub history : AreOfOneHistory settings run.totals run.chapters lines
