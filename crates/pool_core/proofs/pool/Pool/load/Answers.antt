use Rattle.std.proofs.Common.{◌+◌, ◌≤◌, List, ◌∷◌, [], ◌++◌, length, ap, ◌∙◌, arith}
use Rattle.gear_status.specs.Status.{Line}
use Rattle.std.proofs.lemmas.Bool.{leb-true}
use Rattle.pool_core.specs.declared.event.Event.{Event}
use Rattle.pool_core.specs.declared.event.Event.TheVariants as event
use Rattle.pool_core.specs.Machine.{owed}
use Rattle.pool_core.specs.Book.{Book, has_room}
use Rattle.pool_core.specs.View.{state_of}
use Rattle.pool_core.proofs.Calls.{kept_load}
use Rattle.pool_core.proofs.pool.Pool.load.Goals as goal

pub invariant_of-self-2 : goal.invariant_of-self-2
invariant_of-self-2 c =
    let p = c.self.inside in
    let room : length p.events.items + owed (state_of p) + 1 ≤ p.settings.history = leb-true _ _ (ap (λ (b : Book). has_room b 1) c.self.view_is ∙ (cc)) in (
      kept_load p.settings p.chapters p.standings.forgotten p.events.items (state_of p) p.owed p.reported p.lost _ c.self.invariant.0
          c.args.load (omega (arith, room, c.self.invariant.0.owes_is))
          c.push_reserved.new.self.items (c.push_reserved.ensures.items ∙ ap (λ (es : List Event). es ++ event.Load c.in_ok-noted.noted ∷ []) c.in_ok-reserve.ensures.items ∙ ap (λ (l : List Line). p.events.items ++ event.Load l ∷ []) c.in_ok-noted.ensures)
          _ (omega (arith, c.in_ok-reserve.ensures.ok, c.in_ok-reserve.ensures.len, p.events.ok.0, c.push_reserved.ensures.capacity)),
      c.self.invariant.1,
    )
