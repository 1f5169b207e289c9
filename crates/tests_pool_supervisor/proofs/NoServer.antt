-- Each line of a run says that there was no link, if none of the calls of its dialler opened one.
use Rattle.std.proofs.Common.{◌≡◌, ◌≢◌, ◌⊎◌, inl, inr, List, [], ◌∷◌, ◌++◌, map, refl, ap, sym, subst, ◌∙◌, Option, Some, None, Ok, Err}
use Rattle.std.specs.Prelude.{Result, IfSome}
use Rattle.std.specs.List.{flat_map, AllByRecursion}
use Rattle.std.specs.Option.{option_to_list}
use Rattle.gear_status.specs.Status.{Line}
use Rattle.pool_settings.specs.Settings.{Settings}
use Rattle.pool_supervisor.specs.declared.attempt.Attempt.{Attempt}
use Rattle.pool_supervisor.specs.declared.attempt.Attempt.TheVariants as attempt
use Rattle.pool_supervisor.specs.declared.run_end.RunEnd.{RunEnd}
use Rattle.pool_supervisor.specs.Asking.{AskedOver, AsksFor, Follows}
use Rattle.pool_supervisor.specs.Dials.{DialCall, failed, opened, closed, then_called}
use Rattle.pool_supervisor.specs.Sessions.{PastSession, closing_of}
use Rattle.pool_supervisor.specs.Tries.{Rule, Try, calls_of, dials_of, lines_of, FollowsIf, InOrder, IsTry, Dials}
use Rattle.tests_pool_supervisor.specs.Unreached as spec
use Rattle.tests_pool_supervisor.specs.Unreached.{OpensNone}
use Rattle.tests_pool_supervisor.specs.declared.unreached.Calls.{Calls, New, Failed', HungUp'}

all_left : {A : Type 0} (P : A → Type 0) (xs ys : List A) → AllByRecursion P (xs ++ ys) → AllByRecursion P xs
all_left P [] ys all = tt
all_left P (x ∷ xs) ys all = (all.0, all_left P xs ys all.1)

all_right : {A : Type 0} (P : A → Type 0) (xs ys : List A) → AllByRecursion P (xs ++ ys) → AllByRecursion P ys
all_right P [] ys all = all
all_right P (x ∷ xs) ys all = all_right P xs ys all.1

all_and_one : {A : Type 0} (P : A → Type 0) (xs : List A) (y : A) → AllByRecursion P xs → P y → AllByRecursion P (xs ++ y ∷ [])
all_and_one P [] y all one = (one, tt)
all_and_one P (x ∷ xs) y all one = (all.0, all_and_one P xs y all.1 one)

-- the dialler opens no link
pub opens_none : (calls : Calls) → OpensNone (spec.calls_of calls)
opens_none New = tt
opens_none (Failed' shape before) = all_and_one (λ (call : DialCall). call ≢ opened) (spec.calls_of before) failed (opens_none before) (λ e. absurd cc)
opens_none (HungUp' shape before) = all_and_one (λ (call : DialCall). call ≢ opened) (spec.calls_of before) (closed _) (opens_none before) (λ e. absurd cc)

-- without a link a load was asked for in vain
asks_none : (answer : Result (List Line) Attempt) (asked : List DialCall) → answer ≢ Err attempt.NoLink → OpensNone asked → AsksFor answer asked → ⊥
asks_none answer asked other none (inl e) = other e.1
asks_none answer asked other none (inr over) = (subst OpensNone over.calls_are none).0 refl

no_link : (asked : List DialCall) (line : Attempt) → OpensNone asked → Follows asked line → line ≡ attempt.NoLink
no_link asked attempt.NoLink none follows = refl
no_link asked (attempt.Status error) none follows = absurd (asks_none (Err (attempt.Status error)) asked (λ e. absurd cc) none follows)
no_link asked (attempt.Refused refusal) none follows = absurd (asks_none (Ok follows.0) asked (λ e. absurd cc) none follows.1)
no_link asked attempt.Memory none follows = absurd (asks_none (Ok follows.0) asked (λ e. absurd cc) none follows.1)
no_link asked (attempt.Backlog round jobs) none follows = absurd (asks_none (Ok follows.0) asked (λ e. absurd cc) none follows.1)
no_link asked (attempt.Unserved round waiting) none follows = absurd (asks_none (Ok follows.0) asked (λ e. absurd cc) none follows.1)
no_link asked (attempt.NoPlan round) none follows = absurd (asks_none (Ok follows.0) asked (λ e. absurd cc) none follows.1)

all_both : {A : Type 0} (P : A → Type 0) (xs ys : List A) → AllByRecursion P xs → AllByRecursion P ys → AllByRecursion P (xs ++ ys)
all_both P [] ys all more = more
all_both P (x ∷ xs) ys all more = (all.0, all_both P xs ys all.1 more)

one_no_link : (asked : List DialCall) (line : Option Attempt) → OpensNone asked → FollowsIf asked line → AllByRecursion (λ (l : Attempt). l ≡ attempt.NoLink) (option_to_list line)
one_no_link asked None none follows = tt
one_no_link asked (Some line) none follows = (no_link asked line none follows, tt)

each_no_link : (settings : Settings) (looking : Try → Type 0) (had_jobs : PastSession → Type 0) (tries : List Try) → AllByRecursion (IsTry settings looking had_jobs) tries
    → OpensNone (flat_map calls_of tries) → AllByRecursion (λ (line : Attempt). line ≡ attempt.NoLink) (flat_map lines_of tries)
each_no_link settings looking had_jobs [] all none = tt
each_no_link settings looking had_jobs (try ∷ tries) all none =
    let P : DialCall → Type 0 = λ (call : DialCall). call ≢ opened in
    let own = all_left P (calls_of try) (flat_map calls_of tries) none in
    let asked = all_right P (flat_map dials_of try.looks) try.asked (all_right P (map closing_of try.joined) (flat_map dials_of try.looks ++ try.asked) own) in
    let one = all.0 in
    all_both (λ (line : Attempt). line ≡ attempt.NoLink) (lines_of try) (flat_map lines_of tries) (one_no_link try.asked try.line asked one.follows)
    (each_no_link settings looking had_jobs tries all.1 (all_right P (calls_of try) (flat_map calls_of tries) none))

pub lines_of_none : (settings : Settings) (allows : Rule) (had_jobs : PastSession → Type 0) (lines : List Attempt) (run : RunEnd) (before now : Option (List DialCall))
    → before ≡ Some [] → IfSome now OpensNone → Dials settings allows had_jobs [] lines run before now → AllByRecursion (λ (line : Attempt). line ≡ attempt.NoLink) lines
lines_of_none settings allows had_jobs lines run before now new known dials =
    let made = dials.attempts in
    let first = flat_map calls_of made.tries in
    let then = map closing_of dials.last.sessions in
    let calls : now ≡ then_called (then_called (Some []) first) then =
    dials.last.calls ∙ ap (λ (o : Option (List DialCall)). then_called o then) (made.calls ∙ ap (λ (o : Option (List DialCall)). then_called o first) new) in
    let all : OpensNone (first ++ then) = subst (λ (o : Option (List DialCall)). IfSome o OpensNone) calls known in
    let each = each_no_link settings (InOrder settings allows) had_jobs made.tries made.each (all_left (λ (call : DialCall). call ≢ opened) first then all) in
    subst (λ (l : List Attempt). AllByRecursion (λ (line : Attempt). line ≡ attempt.NoLink) l) (sym made.lines) each
