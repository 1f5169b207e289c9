use Rattle.std.proofs.Common.{◌≡◌, ◌≢◌, ℕ, List, [], ◌∷◌, ap, sym, subst, ◌∙◌, ◌++◌}
use Rattle.std.specs.Prelude.{slice_get, Some}
use Rattle.worker_state.specs.OrderParts.{OrderParts}
use Rattle.order_board.specs.Posts.{posts_of}
use Rattle.pool_supervisor.specs.Published.{live_order}
use Rattle.pool_supervisor.proofs.Published.{one_more, none_more, live_here, empty_here}
use Rattle.pool_supervisor.proofs.posting.publish_by.Goals as goal
use Rattle.pool_supervisor.proofs.posting.publish_by.Goals.{then-is_live, else-is_live}

pub loop-number-preserved : goal.loop-number-preserved
loop-number-preserved c =
    let i = c.loop-number.invariant in
    let state = c.args.pool.now.state in
    let j = c.loop-number.number in
    let old = c.args.publisher.now.posts in
    let new = c.loop-number.publisher.posts in
    let is = c.new-slot.ensures in
    let at = subst (λ (k : ℕ). slice_get state.slots k ≡ Some c.slot.result) is c.slot.ensures in
    elim c.if-is_live.branch [
      | then-is_live w ↦
          let e = w.post_by.ensures in
          let next = w.post_by.new.publisher.posts in
          let at_order = subst (λ (k : ℕ). slice_get state.orders k ≡ Some w.order.result) is w.order.ensures.order in
          let here = live_here state j c.slot.result w.order.result at (sym c.is_live.ensures ∙ w.if-is_live.true) at_order in
          let posted = subst (λ (k : ℕ). posts_of k next ≡ posts_of k new ++ w.order.result ∷ []) is e.here in
          let others = subst (λ (k : ℕ). (s : ℕ) → s ≢ k → posts_of s next ≡ posts_of s new) is e.elsewhere in (
            ap (λ p. p.board) w.publisher-is ∙ (e.own ∙ i.0),
            λ s. ap (λ p. posts_of s p.posts) w.publisher-is ∙ one_more (live_order state) j old new next (posted ∙ ap (λ (l : List OrderParts). posts_of j new ++ l) (sym here)) others i.1 s,
          )
      | else-is_live w ↦ (
        ap (λ p. p.board) w.publisher-is ∙ i.0,
        λ s. ap (λ p. posts_of s p.posts) w.publisher-is ∙ none_more (live_order state) j old new (empty_here state j c.slot.result at (sym c.is_live.ensures ∙ w.if-is_live.false)) i.1 s,
      )
    ]
