use Rattle.std.proofs.Common.{◌≡◌, ◌≢◌, ℕ, List, [], ◌∷◌, length, true, ap, sym, subst, arith, ◌∙◌, ◌++◌}
use Rattle.std.specs.Prelude.{slice_get, nat_lt, Some}
use Rattle.std.proofs.lemmas.Bool.{lt-ltb}
use Rattle.worker_state.specs.OrderParts.{OrderParts}
use Rattle.worker_state.specs.declared.order.What.TheVariants.{Stop}
use Rattle.order_board.specs.Posts.{posts_of}
use Rattle.pool_supervisor.specs.Published.{stop_order}
use Rattle.pool_supervisor.proofs.Published.{one_more, stop_here}
use Rattle.pool_supervisor.proofs.posting.stop_by.Goals as goal

pub loop-number-preserved : goal.loop-number-preserved
loop-number-preserved c =
    let i = c.loop-number.invariant in
    let e = c.post_by.ensures in
    let state = c.args.pool.now.state in
    let j = c.loop-number.number in
    let old = c.args.publisher.now.posts in
    let new = c.loop-number.publisher.posts in
    let next = c.post_by.new.publisher.posts in
    let is = c.new-slot.ensures in
    let read = c.order.result in
    let at_order = subst (λ (k : ℕ). slice_get state.orders k ≡ Some read) is c.order.ensures.order in
    let there : nat_lt j (length state.slots) ≡ true = lt-ltb j (length state.slots) (omega (arith, c.loop-number-test.true, c.slots-number-end.ensures)) in
    let here : stop_order state j ≡ record read { what = Stop } ∷ [] = stop_here state j read there at_order in
    let posted : posts_of j next ≡ posts_of j new ++ record read { what = Stop } ∷ [] =
    subst (λ (k : ℕ). posts_of k next ≡ posts_of k new ++ record read { what = Stop } ∷ []) is
    (e.here ∙ ap (λ (o : OrderParts). posts_of c.new-slot.result new ++ record o { what = Stop } ∷ []) c.generation.view_is)
    in
    let others = subst (λ (k : ℕ). (s : ℕ) → s ≢ k → posts_of s next ≡ posts_of s new) is e.elsewhere in (
      e.own ∙ i.0,
      one_more (stop_order state) j old new next (posted ∙ ap (λ (l : List OrderParts). posts_of j new ++ l) (sym here)) others i.1,
    )
