use Rattle.std.proofs.Common.{◌+◌, ◌≤◌, List, ◌∷◌, [], ◌++◌, length, ap, ◌∙◌, sym, subst, arith}
use Rattle.std.proofs.lemmas.Bool.{leb-true}
use Rattle.plan_model.specs.declared.answer.Answer.TheVariants as answers
use Rattle.pool_core.specs.declared.event.Event.{Event}
use Rattle.pool_core.specs.declared.event.Event.TheVariants as event
use Rattle.pool_core.specs.Machine.{owed, IsPossible}
use Rattle.pool_core.specs.Book.{Book, has_room}
use Rattle.pool_core.specs.View.{state_of}
use Rattle.pool_core.proofs.Calls.{kept_no_plan}
use Rattle.pool_core.proofs.pool.Pool.record_no_plan.Goals as goal

pub invariant_of-self-2 : goal.invariant_of-self-2
invariant_of-self-2 c =
    let p = c.self.inside in
    let room : length p.events.items + owed (state_of p) + 1 ≤ p.settings.history = leb-true _ _ (ap (λ (b : Book). has_room b 1) c.self.view_is ∙ c.requires.room) in (
      kept_no_plan p.settings p.chapters p.standings.forgotten p.events.items (state_of p) p.owed p.reported p.lost _ c.self.invariant.0
          c.args.short (subst (λ (b : Book). IsPossible b.settings (event.Round (answers.NoPlan c.args.short)) b.state) (sym c.self.view_is) c.requires.possible) room
          c.push_reserved.new.self.items (c.push_reserved.ensures.items ∙ ap (λ (es : List Event). es ++ event.Round (answers.NoPlan c.args.short) ∷ []) c.in_ok-reserve.ensures.items)
          _ (omega (arith, c.in_ok-reserve.ensures.ok, c.in_ok-reserve.ensures.len, p.events.ok.0, c.push_reserved.ensures.capacity)),
      c.self.invariant.1,
    )
