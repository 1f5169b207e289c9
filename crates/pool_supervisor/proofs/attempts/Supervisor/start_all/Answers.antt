use Rattle.std.proofs.Common.{ℕ, refl, subst, ◌∙◌}
use Rattle.pool_supervisor.specs.Tries.{FillsOne}
use Rattle.pool_supervisor.proofs.FarmPosts.{more_none, more_both}
use Rattle.pool_supervisor.proofs.Tries.{no_slots, one_slot_more}
use Rattle.pool_supervisor.proofs.attempts.Supervisor.start_all.Goals as goal

pub loop-number-init : goal.loop-number-init
loop-number-init g c = (more_none g.N.RunId.until c.args.self.now.seats.publisher.posts, refl, refl, no_slots g.N.RunId.allows (g.Y.Dial.calls c.args.self.now.dial))

pub loop-number-preserved : goal.loop-number-preserved
loop-number-preserved g c =
    let before = g.Y.Dial.calls c.args.self.now.dial in
    let between = g.Y.Dial.calls c.loop-number.self.dial in
    let now = g.Y.Dial.calls c.start_one.new.self.dial in (
      more_both g.N.RunId.until c.args.self.now.seats.publisher.posts c.loop-number.self.seats.publisher.posts c.start_one.new.self.seats.publisher.posts
          c.loop-number.invariant.0 c.start_one.ensures.posts,
      c.start_one.ensures.rounds ∙ c.loop-number.invariant.1,
      c.start_one.ensures.counts ∙ c.loop-number.invariant.2,
      one_slot_more g.N.RunId.allows c.loop-number.number before between now c.loop-number.invariant.3
          (subst (λ (k : ℕ). FillsOne g.N.RunId.allows k between now) c.new.ensures c.start_one.ensures.fills),
    )

pub returns-in_err-start_one-clause-posts : goal.returns-in_err-start_one-clause-posts
returns-in_err-start_one-clause-posts g c =
    more_both g.N.RunId.until c.args.self.now.seats.publisher.posts c.loop-number.self.seats.publisher.posts c.start_one.new.self.seats.publisher.posts
    c.loop-number.invariant.0 c.start_one.ensures.posts
