use Rattle.std.proofs.Common.{◌≡◌, ◌++◌, ◌∷◌, [], List, ap, sym, ◌∙◌}
use Rattle.worker_state.specs.OrderParts.{OrderParts}
use Rattle.order_board.specs.declared.view.Post.{Post}
use Rattle.order_board.specs.Posts.{latest, post, posts_of}
use Rattle.pool_supervisor.proofs.FarmPosts.{more_join}
use Rattle.pool_supervisor.proofs.place.RunBoard.hand_on.Goals as goal

-- the order that was read of the slot, in another generation
pub returns-in-Work-clause-posts : goal.returns-in-Work-clause-posts
returns-in-Work-clause-posts g c =
    let before = c.args.publisher.now.posts in
    let slot = c.args.slot in
    let generation = c.min.result in
    let read = ap (λ (o : OrderParts). record o { generation = generation }) (c.round.view_is ∙ c.posted_by.ensures.order) in
    let posted = c.post_by.ensures.posts
    ∙ (ap (λ p. p.posts ++ post slot (record { generation = generation; round = c.round.inside.round; what = c.round.inside.what }) ∷ []) c.posted_by.ensures.publisher
    ∙ ap (λ (o : OrderParts). before ++ post slot o ∷ []) read) in
    more_join g.N.RunId.until slot generation before c.post_by.new.publisher.posts (sym c.args.self.now.until_is ∙ c.in-Ended.is) posted
