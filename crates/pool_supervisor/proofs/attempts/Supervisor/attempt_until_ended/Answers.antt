use Rattle.std.proofs.Common.{◌++◌, ◌∷◌, [], List, subst, sym}
use Rattle.pool_core.specs.declared.answer.Ran.{Ran}
use Rattle.pool_supervisor.specs.Rounds.{AreNoted}
use Rattle.pool_supervisor.specs.Tries.{LooksBy}
use Rattle.pool_supervisor.proofs.FarmPosts.{since_none, since_one, since_both, since_more}
use Rattle.pool_supervisor.proofs.Rounds.{noted_more}
use Rattle.pool_supervisor.proofs.Tries.{no_attempts, attempts_after, more_attempts, more_refills}
use Rattle.pool_supervisor.proofs.attempts.Supervisor.attempt_until_ended.Goals as goal

pub loop-attempt-init : goal.loop-attempt-init
loop-attempt-init g c = (
  [],
  since_none g.N.RunId.until g.N.RunId.settings [] c.args.self.now.seats.publisher.posts,
  no_attempts g.N.RunId.until g.N.RunId.settings g.N.RunId.allows g.N.RunId.had_jobs [] c.args.self.now.crew.counts (g.Y.Dial.calls c.args.self.now.dial),
  c.requires.noted,
)

-- an attempt, and then refills, which add no line
pub loop-attempt-preserved : goal.loop-attempt-preserved
loop-attempt-preserved g c =
    let until = g.N.RunId.until in
    let settings = g.N.RunId.settings in
    let looking = LooksBy until settings g.N.RunId.allows in
    let had = g.N.RunId.had_jobs in
    let so_far = c.loop-attempt.invariant in
    let line = c.in_ok-attempt.field-0 in
    let more = so_far.0 ++ line ∷ [] in
    let first = c.args.self.now in
    let between = c.loop-attempt.self in
    let made = c.attempt.new.self in
    let now = c.rest_and_refill.new.self in
    let posts = since_both until settings [] so_far.0 more first.seats.publisher.posts between.seats.publisher.posts made.seats.publisher.posts so_far.1
    (since_one until settings so_far.0 line between.seats.publisher.posts made.seats.publisher.posts c.in_ok-attempt.ensures.posts) in
    let attempts = more_attempts looking settings had [] so_far.0 more first.crew.counts between.crew.counts made.crew.counts (g.Y.Dial.calls first.dial) (g.Y.Dial.calls between.dial)
    (g.Y.Dial.calls made.dial) so_far.2
    (attempts_after looking settings had so_far.0 (line ∷ []) between.crew.counts made.crew.counts (g.Y.Dial.calls between.dial) (g.Y.Dial.calls made.dial) c.in_ok-attempt.ensures.calls) in
    let refills = c.in_ok-rest_and_refill.ensures.calls in
    let noted = noted_more so_far.0 line between.rounds made.rounds so_far.3 c.in_ok-attempt.ensures.notes in (
      more,
      since_more until settings [] more first.seats.publisher.posts made.seats.publisher.posts now.seats.publisher.posts posts c.rest_and_refill.ensures.posts,
      more_refills looking settings had [] more first.crew.counts made.crew.counts now.crew.counts (g.Y.Dial.calls first.dial) (g.Y.Dial.calls made.dial) (g.Y.Dial.calls now.dial) attempts refills,
      subst (λ (l : List Ran). AreNoted more l) (sym c.rest_and_refill.ensures.rounds) noted,
    )
