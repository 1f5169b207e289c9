use Rattle.std.proofs.Common.{List, refl, sym, subst, ◌++◌, ◌∷◌, []}
use Rattle.pool_supervisor.specs.declared.attempt.Attempt.{Attempt}
use Rattle.pool_supervisor.specs.FarmPosts.{PostSinceBy}
use Rattle.pool_supervisor.specs.Rounds.{AreNoted}
use Rattle.pool_supervisor.specs.Tries.{Attempts, LooksBy}
use Rattle.pool_supervisor.proofs.FarmPosts.{since_none, since_one, since_both}
use Rattle.pool_supervisor.proofs.Rounds.{noted_more}
use Rattle.pool_supervisor.proofs.Tries.{no_attempts, attempts_after, more_attempts}
use Rattle.pool_supervisor.proofs.attempts.Supervisor.attempt_all.Goals as goal

pub loop-site-init : goal.loop-site-init
loop-site-init g c = (
  since_none g.N.RunId.until g.N.RunId.settings c.args.lines.now.told.items c.args.self.now.seats.publisher.posts,
  refl,
  no_attempts g.N.RunId.until g.N.RunId.settings g.N.RunId.allows g.N.RunId.had_jobs c.args.lines.now.told.items c.args.self.now.crew.counts (g.Y.Dial.calls c.args.self.now.dial),
  c.requires.noted,
)

pub loop-site-preserved : goal.loop-site-preserved
loop-site-preserved g c =
    let until = g.N.RunId.until in
    let settings = g.N.RunId.settings in
    let looking = LooksBy until settings g.N.RunId.allows in
    let first = c.args.lines.now.told.items in
    let now = c.loop-site.lines.told.items in
    let line = c.in_ok-line.line in
    let more = now ++ line ∷ [] in
    let before = c.args.self.now.seats.publisher.posts in
    let between = c.loop-site.self.seats.publisher.posts in
    let after = c.attempt.new.self.seats.publisher.posts in
    let counts = c.args.self.now.crew.counts in
    let counting = c.loop-site.self.crew.counts in
    let counts_now = c.attempt.new.self.crew.counts in
    let called = g.Y.Dial.calls c.args.self.now.dial in
    let calling = g.Y.Dial.calls c.loop-site.self.dial in
    let calls = g.Y.Dial.calls c.attempt.new.self.dial in
    let posts = since_both until settings first now more before between after c.loop-site.invariant.0
    (since_one until settings now line between after c.in_ok-line.ensures.posts) in
    let made = more_attempts looking settings g.N.RunId.had_jobs first now more counts counting counts_now called calling calls c.loop-site.invariant.2
    (attempts_after looking settings g.N.RunId.had_jobs now (line ∷ []) counting counts_now calling calls c.in_ok-line.ensures.calls) in (
      subst (λ (l : List Attempt). PostSinceBy until settings first l before after) (sym c.push_reserved.ensures.items) posts,
      c.loop-site.invariant.1,
      subst (λ (l : List Attempt). Attempts until settings g.N.RunId.allows g.N.RunId.had_jobs first l counts counts_now called calls) (sym c.push_reserved.ensures.items) made,
      subst (λ (l : List Attempt). AreNoted l c.attempt.new.self.rounds) (sym c.push_reserved.ensures.items)
          (noted_more now line c.loop-site.self.rounds c.attempt.new.self.rounds c.loop-site.invariant.3 c.in_ok-line.ensures.notes),
    )
