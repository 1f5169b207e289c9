-- What attempts post, one after the other.
use Rattle.std.proofs.Common.{◌≡◌, ℕ, min, List, [], ◌∷◌, ◌++◌, Bool, true, false, Option, None, Some, refl, sym, ap, subst, ◌∙◌, inl, inr, append_assoc}
use Rattle.std.proofs.lemmas.List.{append-nil}
use Rattle.pool_settings.specs.Settings.{Settings}
use Rattle.worker_state.specs.Limits.{max_generation}
use Rattle.worker_state.specs.OrderParts.{OrderParts}
use Rattle.worker_state.specs.declared.order.What.{What}
use Rattle.worker_state.specs.declared.order.What.TheVariants.{Work}
use Rattle.plan_model.specs.Planning.{Instance}
use Rattle.relaxed_plan.specs.Relaxed.{let_off_of}
use Rattle.relaxed_plan.specs.declared.relaxing.Relaxed.{Relaxed}
use Rattle.order_board.specs.declared.view.Post.{Post}
use Rattle.order_board.specs.Posts.{latest, post, posts_of}
use Rattle.pool_core.specs.declared.answer.Ran.{Ran}
use Rattle.pool_core.specs.Machine.{State}
use Rattle.pool_supervisor.specs.Steps.{IsLetOffOf, IsMadeOf}
use Rattle.pool_supervisor.specs.declared.attempt.Attempt.{Attempt}
use Rattle.pool_supervisor.specs.declared.attempts.Until.{Until}
use Rattle.pool_supervisor.specs.declared.attempts.Until.TheVariants.{Rounds, Ended}
use Rattle.pool_supervisor.specs.Lines.{attempt_of}
use Rattle.pool_supervisor.specs.Published.{ArePosted, round_order}
use Rattle.pool_supervisor.specs.Reached.{IsRoundOf}
use Rattle.pool_supervisor.specs.Rounds.{is_round, AllPost, Posts, PostsIf}
use Rattle.pool_supervisor.specs.FarmPosts.{IsRelaxedFor, PostJoins, PostsMore, PostsRound, PostsIfBy, PostsBy, AttemptPosts, AllPostBy, PostSinceBy, PostAndStopBy, TellsBy}
use Rattle.pool_supervisor.specs.FarmPosts.{handed, handed_on}
use Rattle.pool_supervisor.proofs.Rounds.{with_is_round}

-- ---- relaxed plans

-- a relaxed plan of a problem of these settings
pub let_off_is : (settings : Settings) (i : Instance) (relaxed : Relaxed) → IsMadeOf settings i → IsRelaxedFor i relaxed → IsLetOffOf settings relaxed.let_off relaxed.certified.input
let_off_is settings i relaxed made is = (made.0, made.1, is.input ∙ ap (λ (x : Instance). let_off_of x relaxed.let_off) made.2)

-- ---- the orders of workers that join

pub more_none : (until : Until) (posts : List Post) → PostsMore until posts posts
more_none (Rounds rounds) posts = refl
more_none Ended posts = ([], refl)

joins_both : (slots more : List ℕ) (before between now : List Post) → PostJoins slots before between → PostJoins more between now → PostJoins (slots ++ more) before now
joins_both [] more before between now first then = subst (λ (p : List Post). PostJoins more p now) first then
joins_both (slot ∷ slots) more before between now first then = (first.0, first.1, joins_both slots more first.0 between now first.2 then)

pub more_both : (until : Until) (before between now : List Post) → PostsMore until before between → PostsMore until between now → PostsMore until before now
more_both (Rounds rounds) before between now first then = then ∙ first
more_both Ended before between now first then = (first.0 ++ then.0, joins_both first.0 then.0 before between now first.1 then.1)

-- the same posts as before
pub more_same : (until : Until) (before now : List Post) → now ≡ before → PostsMore until before now
more_same until before now same = subst (λ (p : List Post). PostsMore until before p) (sym same) (more_none until before)

-- a worker that joined
pub more_join : (until : Until) (slot generation : ℕ) (before now : List Post) → until ≡ Ended
    → now ≡ before ++ post slot (record (latest (posts_of slot before)) { generation = generation }) ∷ [] → PostsMore until before now
more_join until slot generation before now ended posted =
    subst (λ (u : Until). PostsMore u before now) (sym ended) (slot ∷ [], (now, (generation, posted), refl))

-- what a worker is posted that joins, of a slot that did a function last
pub handed_work : (until : Until) (slot generation bounded function : ℕ) (last : OrderParts) (before now : List Post) → until ≡ Ended → last.what ≡ Work function
    → bounded ≡ min generation max_generation → now ≡ before ++ post slot (record last { generation = bounded }) ∷ []
    → now ≡ before ++ handed_on until slot generation last
handed_work until slot generation bounded function last before now ended what is posted =
    let most = min generation max_generation in
    posted ∙ ap (λ (posts : List Post). before ++ posts)
    (ap (λ (g : ℕ). post slot (record last { generation = g }) ∷ []) is
    ∙ (sym (ap (λ (w : What). handed w slot most last) what)
    ∙ sym (ap (λ (u : Until). handed_on u slot generation last) ended)))

-- nothing, if that is what is handed on
pub handed_none : (handed : List Post) (before now : List Post) → handed ≡ [] → now ≡ before → now ≡ before ++ handed
handed_none handed before now none same = same ∙ (sym (append-nil before) ∙ ap (λ (posts : List Post). before ++ posts) (sym none))

-- nothing was posted to any slot
pub none_posted : (orders : ℕ → List OrderParts) (before now : List Post) → ((slot : ℕ) → orders slot ≡ []) → now ≡ before → ArePosted orders before now
none_posted orders before now none same = λ slot.
    ap (λ (p : List Post). posts_of slot p) same
    ∙ (sym (append-nil (posts_of slot before)) ∙ ap (λ (l : List OrderParts). posts_of slot before ++ l) (sym (none slot)))

-- ---- lines

-- the line of an adopted round
pub line_posts : (until : Until) (settings : Settings) (line : Attempt) (before now : List Post) (ran : Ran) (state : State) → IsRoundOf settings ran state → line ≡ attempt_of ran
    → PostsRound until settings ran state before now → PostsBy until settings line before now
line_posts until settings line before now ran state round is posted =
    subst (λ (b : Bool). PostsIfBy b until settings line before now) (sym (ap is_round is ∙ with_is_round ran.number ran.backlog)) (ran, state, round, is, posted)

-- the line of any other attempt
pub line_posts_none : (until : Until) (settings : Settings) (line : Attempt) (before now : List Post) → is_round line ≡ false → now ≡ before → PostsBy until settings line before now
line_posts_none until settings line before now none same = subst (λ (b : Bool). PostsIfBy b until settings line before now) (sym none) same

-- ---- attempts

more_and_all : (until : Until) (settings : Settings) (lines : List Attempt) (before between now : List Post) → PostsMore until before between → AllPostBy until settings lines between now
    → AllPostBy until settings lines before now
more_and_all until settings [] before between now first then = more_both until before between now first then
more_and_all until settings (line ∷ lines) before between now first then =
    let made = then.1 in (then.0, (made.0, more_both until before between made.0 first made.1, made.2), then.2)

all_and_more : (until : Until) (settings : Settings) (xs ys : List Attempt) (before between now : List Post) → AllPostBy until settings xs before between → AllPostBy until settings ys between now
    → AllPostBy until settings (xs ++ ys) before now
all_and_more until settings [] ys before between now first then = more_and_all until settings ys before between now first then
all_and_more until settings (x ∷ xs) ys before between now first then = (first.0, first.1, all_and_more until settings xs ys first.0 between now first.2 then)

pub since_none : (until : Until) (settings : Settings) (lines : List Attempt) (posts : List Post) → PostSinceBy until settings lines lines posts posts
since_none until settings lines posts = ([], sym (append-nil lines), more_none until posts)

pub since_one : (until : Until) (settings : Settings) (lines : List Attempt) (line : Attempt) (before now : List Post) → AttemptPosts until settings line before now
    → PostSinceBy until settings lines (lines ++ line ∷ []) before now
since_one until settings lines line before now posts = (line ∷ [], refl, (now, posts, more_none until now))

pub since_both : (until : Until) (settings : Settings) (old mid new : List Attempt) (before between now : List Post) → PostSinceBy until settings old mid before between → PostSinceBy until settings mid new between now
    → PostSinceBy until settings old new before now
since_both until settings old mid new before between now first then = (
  first.0 ++ then.0,
  then.1 ∙ (ap (λ (l : List Attempt). l ++ then.0) first.1 ∙ append_assoc old first.0 then.0),
  all_and_more until settings first.0 then.0 before between now first.2 then.2,
)

-- workers joined after the last attempt
pub since_more : (until : Until) (settings : Settings) (old new : List Attempt) (before between now : List Post) → PostSinceBy until settings old new before between → PostsMore until between now
    → PostSinceBy until settings old new before now
since_more until settings old new before between now first then =
    since_both until settings old new new before between now first ([], sym (append-nil new), then)

-- ---- runs of so many attempts

strict_if : (rounds : ℕ) (b : Bool) (settings : Settings) (line : Attempt) (before now : List Post) → PostsIfBy b (Rounds rounds) settings line before now → PostsIf b settings line before now
strict_if rounds true settings line before now posts =
    let then = posts.4 in
    (posts.0, posts.1, posts.2, posts.3, subst (λ (p : List Post). ArePosted (round_order posts.0 posts.1) before p) (sym then.2) then.1)
strict_if rounds false settings line before now same = same

all_strict : (rounds : ℕ) (settings : Settings) (lines : List Attempt) (before now : List Post) → AllPostBy (Rounds rounds) settings lines before now → AllPost settings lines before now
all_strict rounds settings [] before now same = same
all_strict rounds settings (line ∷ lines) before now posts =
    let made = posts.1 in
    let strict = strict_if rounds (is_round line) settings line made.0 posts.0 made.2 in
    (posts.0, subst (λ (p : List Post). Posts settings line p posts.0) made.1 strict, all_strict rounds settings lines posts.0 now posts.2)

-- a whole run
pub tells_by : (until : Until) (settings : Settings) (old new : List Attempt) (before now : List Post) → PostAndStopBy until settings old new before now → TellsBy until settings old new before
tells_by (Rounds rounds) settings old new before now made =
    let since = made.1 in
    (now, (made.0, (since.0, since.1, all_strict rounds settings since.0 before made.0 since.2), made.2))
tells_by Ended settings old new before now made = (now, made)
