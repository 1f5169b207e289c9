-- What the attempts of a run tell of its pool, and what they post.
use Rattle.std.specs.Prelude.{◌≡◌, List, [], ◌∷◌, ◌++◌, Bool, true, false, filter, map}
use Rattle.pool_settings.specs.Settings.{Settings}
use Rattle.order_board.specs.declared.view.Post.{Post}
use Rattle.pool_core.specs.declared.answer.Ran.{Ran}
use Rattle.pool_core.specs.Machine.{State}
use Rattle.pool_supervisor.specs.declared.attempt.Attempt.{Attempt}
use Rattle.pool_supervisor.specs.declared.attempt.Attempt.TheVariants as attempt
use Rattle.pool_supervisor.specs.Lines.{attempt_of}
use Rattle.pool_supervisor.specs.Published.{ArePosted, round_order, stop_order}
use Rattle.pool_supervisor.specs.Reached.{IsReached, IsRoundOf}

-- the attempt came to a round
abbrev pub is_round : Attempt → Bool
is_round (attempt.Backlog round jobs) = true
is_round (attempt.Unserved round jobs) = true
is_round (attempt.NoPlan round) = true
is_round attempt.NoLink = false
is_round (attempt.Status error) = false
is_round (attempt.Refused refusal) = false
is_round attempt.Memory = false

-- the lines that report rounds
abbrev pub rounds_in : List Attempt → List Attempt
rounds_in lines = filter is_round lines

-- The lines report just these rounds, in order, each as what it came to.
abbrev pub AreNoted : List Attempt → List Ran → Type 0
AreNoted lines rounds = map attempt_of rounds ≡ rounds_in lines

-- the round that the line reports, if it reports one, is the next
abbrev pub Notes : Attempt → List Ran → List Ran → Type 0
Notes line before now = map attempt_of now ≡ map attempt_of before ++ rounds_in (line ∷ [])

-- It reports a round of a pool of these settings, and the orders of that round were posted, and nothing else.
abbrev pub PostsRound : Settings → Attempt → List Post → List Post → Type 0
PostsRound settings line before now =
    (ran : Ran) × (state : State) × IsRoundOf settings ran state × (line ≡ attempt_of ran) × ArePosted (round_order ran state) before now

abbrev pub PostsIf : Bool → Settings → Attempt → List Post → List Post → Type 0
PostsIf true settings line before now = PostsRound settings line before now
PostsIf false settings line before now = now ≡ before

-- An attempt posts the orders of the round that it reports, or nothing if it came to none.
abbrev pub Posts : Settings → Attempt → List Post → List Post → Type 0
Posts settings line before now = PostsIf (is_round line) settings line before now

-- Each of the attempts posts so, one after the other.
abbrev pub AllPost : Settings → List Attempt → List Post → List Post → Type 0
AllPost settings [] before now = now ≡ before
AllPost settings (line ∷ lines) before now =
    (between : List Post) × Posts settings line before between × AllPost settings lines between now

-- The attempts that were made since then posted so.
abbrev pub PostSince : Settings → List Attempt → List Attempt → List Post → List Post → Type 0
PostSince settings old new before now =
    (more : List Attempt) × (new ≡ old ++ more) × AllPost settings more before now

-- Stop was posted once to each slot of the pool as it stood then, and nothing else.
abbrev pub StopsAll : Settings → List Post → List Post → Type 0
StopsAll settings before now = (state : State) × IsReached settings state × ArePosted (stop_order state) before now

-- The attempts that were made since then posted so, and after the last of them Stop was posted.
abbrev pub PostAndStop : Settings → List Attempt → List Attempt → List Post → List Post → Type 0
PostAndStop settings old new before now =
    (between : List Post) × PostSince settings old new before between × StopsAll settings between now

-- The lines that a run adds tell its rounds. Its posts are those of these rounds, one after the other, and Stop at the end.
abbrev pub TellRun : Settings → List Attempt → List Attempt → List Post → Type 0
TellRun settings old new before = (now : List Post) × PostAndStop settings old new before now
