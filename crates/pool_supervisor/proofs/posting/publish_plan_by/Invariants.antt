use Rattle.std.specs.Prelude.{◌≡◌}
use Rattle.pool_supervisor.specs.FarmPosts.{plan_order}
use Rattle.pool_supervisor.specs.Published.{ArePosted}
use Rattle.pool_supervisor.proofs.Published.{orders_below}
use Rattle.pool_supervisor.proofs.posting.publish_plan_by.Given as goal

abbrev pub invariant-loop-number : goal.invariant-loop-number
invariant-loop-number l =
    (l.publisher.board ≡ l.initial.publisher.board)
    × ArePosted (orders_below (plan_order l.plan l.round l.pool.state) l.number) l.initial.publisher.posts l.publisher.posts
