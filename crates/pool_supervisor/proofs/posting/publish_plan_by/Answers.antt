use Rattle.std.proofs.Common.{◌≡◌, ◌≢◌, ℕ, List, [], ◌∷◌, ap, sym, subst, ◌∙◌, ◌++◌}
use Rattle.worker_state.specs.OrderParts.{OrderParts}
use Rattle.order_board.specs.Posts.{posts_of}
use Rattle.pool_supervisor.specs.FarmPosts.{plan_order}
use Rattle.pool_supervisor.proofs.Published.{one_more}
use Rattle.pool_supervisor.proofs.posting.publish_plan_by.Goals as goal

pub loop-number-preserved : goal.loop-number-preserved
loop-number-preserved c =
    let i = c.loop-number.invariant in
    let e = c.post_by.ensures in
    let orders = plan_order c.args.plan.now c.args.round c.args.pool.now.state in
    let j = c.loop-number.number in
    let old = c.args.publisher.now.posts in
    let new = c.loop-number.publisher.posts in
    let next = c.post_by.new.publisher.posts in
    let is = c.new-slot.ensures in
    let order = c.plan_order.result in
    let here : orders j ≡ order ∷ [] = subst (λ (k : ℕ). orders k ≡ order ∷ []) is c.plan_order.ensures in
    let posted = subst (λ (k : ℕ). posts_of k next ≡ posts_of k new ++ order ∷ []) is e.here in
    let others = subst (λ (k : ℕ). (s : ℕ) → s ≢ k → posts_of s next ≡ posts_of s new) is e.elsewhere in (
      e.own ∙ i.0,
      one_more orders j old new next (posted ∙ ap (λ (l : List OrderParts). posts_of j new ++ l) (sym here)) others i.1,
    )
