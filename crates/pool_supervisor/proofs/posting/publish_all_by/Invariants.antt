use Rattle.std.specs.Prelude.{◌≡◌}
use Rattle.pool_supervisor.specs.FarmPosts.{standing_order}
use Rattle.pool_supervisor.specs.Published.{ArePosted}
use Rattle.pool_supervisor.proofs.Published.{orders_below}
use Rattle.pool_supervisor.proofs.posting.publish_all_by.Given as goal

abbrev pub invariant-loop-number : goal.invariant-loop-number
invariant-loop-number l =
    (l.publisher.board ≡ l.initial.publisher.board)
    × ArePosted (orders_below (standing_order l.pool.state) l.number) l.initial.publisher.posts l.publisher.posts
