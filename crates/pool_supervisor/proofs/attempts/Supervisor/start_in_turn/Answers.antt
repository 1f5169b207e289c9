use Rattle.std.proofs.Common.{◌<◌, [], length, refl, arith, ◌∙◌}
use Rattle.pool_supervisor.proofs.FarmPosts.{more_none, more_both}
use Rattle.pool_supervisor.proofs.Tries.{these_none, these_once}
use Rattle.pool_supervisor.proofs.Turns.{next_turn, turns_apart}
use Rattle.pool_supervisor.proofs.attempts.Supervisor.start_in_turn.Goals as goal

pub loop-turn-init : goal.loop-turn-init
loop-turn-init g c = (
  more_none g.N.RunId.until c.args.self.now.seats.publisher.posts,
  refl,
  refl,
  ([], c.slots_take_turns.ensures.none c.args.self.now.turns, refl, these_none g.N.RunId.settings g.N.RunId.allows (g.Y.Dial.calls c.args.self.now.dial)),
)

pub loop-turn-preserved : goal.loop-turn-preserved
loop-turn-preserved g c =
    let so_far = c.loop-turn.invariant in
    let have = so_far.3 in
    let first = c.args.self.now in
    let between = c.loop-turn.self in
    let now = c.start_next.new.self in
    let few : c.loop-turn._turn < length first.turns = omega (arith, c.loop-turn-test.true, c.len-turn-end.ensures) in (
      more_both g.N.RunId.until first.seats.publisher.posts between.seats.publisher.posts now.seats.publisher.posts so_far.0 c.start_next.ensures.posts,
      c.start_next.ensures.rounds ∙ so_far.1,
      c.start_next.ensures.counts ∙ so_far.2,
      next_turn g.N.RunId.settings g.N.RunId.allows have.0 first.turns between.turns now.turns c.loop-turn._turn (g.Y.Dial.calls first.dial) (g.Y.Dial.calls between.dial) (g.Y.Dial.calls now.dial)
          c.slots_take_turns.ensures.one_more c.slots_take_turns.ensures.as_many have.1 have.2 few have.3 c.start_next.ensures.next,
    )

pub returns-in_err-start_next-clause-posts : goal.returns-in_err-start_next-clause-posts
returns-in_err-start_next-clause-posts g c =
    more_both g.N.RunId.until c.args.self.now.seats.publisher.posts c.loop-turn.self.seats.publisher.posts c.start_next.new.self.seats.publisher.posts
    c.loop-turn.invariant.0 c.start_next.ensures.posts

pub returns-then-is_over-clause-turns : goal.returns-then-is_over-clause-turns
returns-then-is_over-clause-turns g c = let have = c.loop-turn.invariant.3 in (have.0, have.1, have.3)

pub returns-then-is_over-clause-fills : goal.returns-then-is_over-clause-fills
returns-then-is_over-clause-fills g c =
    let settings = g.N.RunId.settings in
    let have = c.loop-turn.invariant.3 in
    let first = c.args.self.now in
    these_once settings g.N.RunId.allows have.0 (g.Y.Dial.calls first.dial) (g.Y.Dial.calls c.loop-turn.self.dial) have.3
    (turns_apart settings have.0 first.turns c.loop-turn.self.turns (c.slots_take_turns.ensures.twice settings) first.each_once have.1)

pub returns-clause-turns : goal.returns-clause-turns
returns-clause-turns g c = let have = c.loop-turn.invariant.3 in (have.0, have.1, have.3)

pub returns-clause-fills : goal.returns-clause-fills
returns-clause-fills g c =
    let settings = g.N.RunId.settings in
    let have = c.loop-turn.invariant.3 in
    let first = c.args.self.now in
    these_once settings g.N.RunId.allows have.0 (g.Y.Dial.calls first.dial) (g.Y.Dial.calls c.loop-turn.self.dial) have.3
    (turns_apart settings have.0 first.turns c.loop-turn.self.turns (c.slots_take_turns.ensures.twice settings) first.each_once have.1)
