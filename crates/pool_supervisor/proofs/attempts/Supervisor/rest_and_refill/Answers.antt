use Rattle.std.proofs.Common.{[], refl, ◌∙◌}
use Rattle.pool_supervisor.specs.Tries.{LooksBy}
use Rattle.pool_supervisor.proofs.FarmPosts.{more_none, more_both}
use Rattle.pool_supervisor.proofs.Tries.{no_attempts, more_attempts}
use Rattle.pool_supervisor.proofs.attempts.Supervisor.rest_and_refill.Goals as goal

pub loop-refill-init : goal.loop-refill-init
loop-refill-init g c = (
  more_none g.N.RunId.until c.args.self.now.seats.publisher.posts,
  refl,
  no_attempts g.N.RunId.until g.N.RunId.settings g.N.RunId.allows g.N.RunId.had_jobs [] c.args.self.now.crew.counts (g.Y.Dial.calls c.args.self.now.dial),
)

pub loop-refill-preserved : goal.loop-refill-preserved
loop-refill-preserved g c =
    let so_far = c.loop-refill.invariant in
    let first = c.args.self.now in
    let between = c.loop-refill.self in
    let now = c.refill.new.self in (
      more_both g.N.RunId.until first.seats.publisher.posts between.seats.publisher.posts now.seats.publisher.posts so_far.0 c.refill.ensures.posts,
      c.refill.ensures.rounds ∙ so_far.1,
      more_attempts (LooksBy g.N.RunId.until g.N.RunId.settings g.N.RunId.allows) g.N.RunId.settings g.N.RunId.had_jobs [] [] [] first.crew.counts between.crew.counts now.crew.counts
          (g.Y.Dial.calls first.dial) (g.Y.Dial.calls between.dial) (g.Y.Dial.calls now.dial) so_far.2 c.in_ok-refill.ensures.calls,
    )

pub returns-in_err-refill-clause-posts : goal.returns-in_err-refill-clause-posts
returns-in_err-refill-clause-posts g c =
    more_both g.N.RunId.until c.args.self.now.seats.publisher.posts c.loop-refill.self.seats.publisher.posts c.refill.new.self.seats.publisher.posts
    c.loop-refill.invariant.0 c.refill.ensures.posts

pub returns-then-left-eq0-clause-posts : goal.returns-then-left-eq0-clause-posts
returns-then-left-eq0-clause-posts g c =
    more_both g.N.RunId.until c.args.self.now.seats.publisher.posts c.loop-refill.self.seats.publisher.posts c.refill.new.self.seats.publisher.posts
    c.loop-refill.invariant.0 c.refill.ensures.posts

pub returns-then-left-eq0-clause-calls : goal.returns-then-left-eq0-clause-calls
returns-then-left-eq0-clause-calls g c =
    let first = c.args.self.now in
    let between = c.loop-refill.self in
    let now = c.refill.new.self in
    more_attempts (LooksBy g.N.RunId.until g.N.RunId.settings g.N.RunId.allows) g.N.RunId.settings g.N.RunId.had_jobs [] [] [] first.crew.counts between.crew.counts now.crew.counts
    (g.Y.Dial.calls first.dial) (g.Y.Dial.calls between.dial) (g.Y.Dial.calls now.dial) c.loop-refill.invariant.2 c.in_ok-refill.ensures.calls
