-- What a run posts that goes on until its watch ends it: the orders of its rounds, of workers that join, and of relaxed plans.
use Rattle.std.specs.Prelude.{◌≡◌, ◌⊎◌, ℕ, nat_lt, List, [], ◌∷◌, ◌++◌, Bool, true, false, if◌then◌else◌}
use Rattle.std.specs.Prelude.{Option, None, Some, is_some, length, min}
use Rattle.plan_model.specs.Planning.{Instance, assigned}
use Rattle.plan_model.specs.Shown.{Shown}
use Rattle.plan_model.specs.declared.answer.Answer.{Answer}
use Rattle.plan_model.specs.declared.answer.Answer.TheVariants.{NoPlan, Planned}
use Rattle.gear_status.specs.Status.{Line}
use Rattle.relaxed_plan.specs.Relaxed.{AreLetOff, IsPlanned, let_off_of}
use Rattle.relaxed_plan.specs.declared.relaxing.Relaxed.{Relaxed}
use Rattle.worker_state.specs.Limits.{max_generation}
use Rattle.worker_state.specs.OrderParts.{OrderParts}
use Rattle.worker_state.specs.Slots.{is_live}
use Rattle.worker_state.specs.declared.order.What.{What}
use Rattle.worker_state.specs.declared.order.What.TheVariants.{Idle, Stop, Work}
use Rattle.order_board.specs.declared.view.Post.{Post}
use Rattle.order_board.specs.Posts.{latest, post, posts_of}
use Rattle.pool_settings.specs.Settings.{Settings}
use Rattle.pool_core.specs.declared.answer.Ran.{Ran}
use Rattle.pool_core.specs.Machine.{State, input_of, slot_in}
use Rattle.pool_core.specs.Laws.{order_at}
use Rattle.pool_supervisor.specs.declared.attempt.Attempt.{Attempt}
use Rattle.pool_supervisor.specs.declared.attempts.Until.{Until}
use Rattle.pool_supervisor.specs.declared.attempts.Until.TheVariants.{Rounds, Ended}
use Rattle.pool_supervisor.specs.Lines.{attempt_of}
use Rattle.pool_supervisor.specs.Published.{ArePosted, round_order}
use Rattle.pool_supervisor.specs.Reached.{IsRoundOf}
use Rattle.pool_supervisor.specs.Rounds.{StopsAll, TellRun, is_round}

-- what is posted to a slot for the worker of another generation after this order: the same, if it names a function, and else nothing
abbrev pub handed : What → ℕ → ℕ → OrderParts → List Post
handed (Work function) slot generation last = post slot (record last { generation = generation }) ∷ []
handed Idle slot generation last = []
handed Stop slot generation last = []

-- What is posted to a slot in which a worker of this generation joined after this order: nothing in a run of so many attempts. In one that
-- goes on until its watch ends it, what the slot did last, if that was a function. The last generation that an order can name stands for
-- those after it, which no worker has.
abbrev pub handed_on : Until → ℕ → ℕ → OrderParts → List Post
handed_on (Rounds rounds) slot generation last = []
handed_on Ended slot generation last = handed last.what slot (min generation max_generation) last

-- The last order that was posted to the slot was posted to it once more, for the worker of some generation: so that worker does what the
-- slot did last.
abbrev pub PostsJoin : ℕ → List Post → List Post → Type 0
PostsJoin slot before now =
    (generation : ℕ) × (now ≡ before ++ post slot (record (latest (posts_of slot before)) { generation = generation }) ∷ [])

-- So it was in these slots, one after the other, and nothing else was posted.
abbrev pub PostJoins : List ℕ → List Post → List Post → Type 0
PostJoins [] before now = now ≡ before
PostJoins (slot ∷ slots) before now = (between : List Post) × PostsJoin slot before between × PostJoins slots between now

-- What was posted as workers joined: nothing in a run of so many attempts, and such orders in one that goes on until its watch ends it.
abbrev pub PostsMore : Until → List Post → List Post → Type 0
PostsMore (Rounds rounds) before now = now ≡ before
PostsMore Ended before now = (slots : List ℕ) × PostJoins slots before now

-- what a slot is to do after a plan: what its order says if a worker is live in it, and else nothing
abbrev pub what_at : State → ℕ → What
what_at state slot = if is_live (slot_in state.slots slot) then (order_at state.orders slot).what else Idle

-- the order of each slot, which is Idle if no worker is live in it; a slot that is not there gets none
abbrev pub standing_order : State → ℕ → List OrderParts
standing_order state slot =
    if nat_lt slot (length state.slots) then record (order_at state.orders slot) { what = what_at state slot } ∷ [] else []

-- what a worker is to do with this function, or without one; a function that no order can name counts as none
abbrev pub what_by : Option ℕ → What
what_by None = Idle
what_by (Some function) = if nat_lt function 1024 then Work function else Idle

-- what a plan gives each slot, as an order of the round of this number
abbrev pub plan_order : List (ℕ × Option ℕ) → ℕ → State → ℕ → List OrderParts
plan_order plan round state slot =
    if nat_lt slot (length state.slots)
    then record (order_at state.orders slot) { round = round; what = what_by (assigned plan slot) } ∷ []
    else []

-- The orders of a round, if it has a plan: each live slot's, and in a run that goes on until its watch ends it Idle to each empty slot.
abbrev pub orders_by : Until → Ran → State → ℕ → List OrderParts
orders_by (Rounds rounds) ran state slot = round_order ran state slot
orders_by Ended ran state slot = if is_some ran.backlog then standing_order state slot else []

-- what an answer gives each slot, as orders of the round of this number; one without a plan gives nothing
abbrev pub answer_order : Answer → ℕ → State → ℕ → List OrderParts
answer_order (Planned plan backlog short) round state slot = plan_order plan round state slot
answer_order (NoPlan short) round state slot = []

-- The orders that follow a round if this relaxed plan was found: those of it, if the round has no plan, in a run that goes on until its
-- watch ends it.
abbrev pub relaxed_order : Until → Ran → Option Relaxed → State → ℕ → List OrderParts
relaxed_order (Rounds rounds) ran relaxed state slot = []
relaxed_order Ended ran None state slot = []
relaxed_order Ended ran (Some relaxed) state slot =
    if is_some ran.backlog then [] else answer_order relaxed.certified.answer ran.number state slot

-- It is a relaxed plan of this problem: a plan for the problem in which the least numbers of the functions that it lets off are 0. Those
-- are functions of sets that are short of workers in turn.
pub record IsRelaxedFor (i : Instance) (relaxed : Relaxed) : Type 0 where
  pub set : List ℕ
  pub few : AreLetOff i set relaxed.let_off
  pub input : relaxed.certified.input ≡ let_off_of i relaxed.let_off
  pub planned : IsPlanned relaxed.certified.answer
  pub shown : Shown (let_off_of i relaxed.let_off) relaxed.certified.answer

-- The problem is what a round would plan for in this state, with these settings.
abbrev pub IsProblemIn : Settings → State → Instance → Type 0
IsProblemIn settings state i = (load : List Line) × (state.load ≡ Some load) × (i ≡ input_of settings state load)

-- It is a relaxed plan of what a round would plan for in this state.
abbrev pub IsRelaxedIn : Settings → State → Relaxed → Type 0
IsRelaxedIn settings state relaxed = (i : Instance) × IsProblemIn settings state i × IsRelaxedFor i relaxed

-- The orders were posted of a plan for what a round would plan for in this state, but with least numbers of 0 for functions of sets that
-- are short of workers in turn.
pub record PostsRelaxed (settings : Settings) (round : ℕ) (state : State) (before now : List Post) : Type 0 where
  pub problem : Instance
  pub is_problem : IsProblemIn settings state problem
  pub set : List ℕ
  pub let_off : List ℕ
  pub few : AreLetOff problem set let_off
  pub plan : List (ℕ × Option ℕ)
  pub backlog : ℕ
  pub short : Option (List ℕ)
  pub shown : Shown (let_off_of problem let_off) (Planned plan backlog short)
  pub posted : ArePosted (plan_order plan round state) before now

-- What follows a round: nothing in a run of so many attempts. In one that goes on until its watch ends it the orders of a relaxed plan may
-- follow a round without a plan.
abbrev pub PostsAfter : Until → Settings → Ran → State → List Post → List Post → Type 0
PostsAfter (Rounds rounds) settings ran state before now = now ≡ before
PostsAfter Ended settings ran state before now =
    (now ≡ before) ⊎ ((ran.backlog ≡ None) × PostsRelaxed settings ran.number state before now)

-- The orders of a round were posted, and what follows it.
abbrev pub PostsRound : Until → Settings → Ran → State → List Post → List Post → Type 0
PostsRound until settings ran state before now =
    (between : List Post) × ArePosted (orders_by until ran state) before between × PostsAfter until settings ran state between now

-- It reports a round of a pool of these settings, which was posted so.
abbrev pub PostsLine : Until → Settings → Attempt → List Post → List Post → Type 0
PostsLine until settings line before now =
    (ran : Ran) × (state : State) × IsRoundOf settings ran state × (line ≡ attempt_of ran) × PostsRound until settings ran state before now

abbrev pub PostsIfBy : Bool → Until → Settings → Attempt → List Post → List Post → Type 0
PostsIfBy true until settings line before now = PostsLine until settings line before now
PostsIfBy false until settings line before now = now ≡ before

-- What an attempt posts once its workers were started.
abbrev pub PostsBy : Until → Settings → Attempt → List Post → List Post → Type 0
PostsBy until settings line before now = PostsIfBy (is_round line) until settings line before now

-- What a whole attempt posts, with the orders of workers that join.
abbrev pub AttemptPosts : Until → Settings → Attempt → List Post → List Post → Type 0
AttemptPosts until settings line before now =
    (between : List Post) × PostsMore until before between × PostsBy until settings line between now

-- Attempts with these lines posted so, one after the other, and workers joined after the last of them too.
abbrev pub AllPostBy : Until → Settings → List Attempt → List Post → List Post → Type 0
AllPostBy until settings [] before now = PostsMore until before now
AllPostBy until settings (line ∷ lines) before now =
    (between : List Post) × AttemptPosts until settings line before between × AllPostBy until settings lines between now

-- The attempts that were made since then posted so.
abbrev pub PostSinceBy : Until → Settings → List Attempt → List Attempt → List Post → List Post → Type 0
PostSinceBy until settings old new before now =
    (more : List Attempt) × (new ≡ old ++ more) × AllPostBy until settings more before now

-- The attempts that were made since then posted so, and after the last of them Stop was posted.
abbrev pub PostAndStopBy : Until → Settings → List Attempt → List Attempt → List Post → List Post → Type 0
PostAndStopBy until settings old new before now =
    (between : List Post) × PostSinceBy until settings old new before between × StopsAll settings between now

-- The lines that a run adds which goes on until its watch ends it tell its rounds. Its posts are those of these rounds, with what follows
-- them, the orders of workers that join, and Stop at the end.
abbrev pub TellFarm : Settings → List Attempt → List Attempt → List Post → Type 0
TellFarm settings old new before = (now : List Post) × PostAndStopBy Ended settings old new before now

-- what a run tells of its rounds, by how long it makes attempts
abbrev pub TellsBy : Until → Settings → List Attempt → List Attempt → List Post → Type 0
TellsBy (Rounds rounds) settings old new before = TellRun settings old new before
TellsBy Ended settings old new before = TellFarm settings old new before
