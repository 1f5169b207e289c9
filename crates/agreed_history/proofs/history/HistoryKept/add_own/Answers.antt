use Rattle.std.proofs.Common.{rules, sym, ap, ◌∙◌}
use Rattle.crossbeam_utils.specs.Seq.{cell_view}
use Rattle.pool_core.specs.declared.event.Event.{Event}
use Rattle.agreed_history.specs.Agreed.{is_own}
use Rattle.agreed_history.specs.declared.known.Past.{Past}
use Rattle.agreed_history.specs.declared.known.View.{View}
use Rattle.agreed_history.proofs.Moves.{spares, meets_teller, met_teller, adds_own_as}
use Rattle.agreed_history.proofs.history.HistoryKept.add_own.Goals as goal

pub split_pass-spare-requires : goal.split_pass-spare-requires
split_pass-spare-requires g c =
    let i = c.self.invariant in
    (search rules, (search rules, (i.1 ∙ sym i.0, spares _ _)))

pub join_pass-requires : goal.join_pass-requires
join_pass-requires g c =
    let i = c.self.invariant in
    let t = c.told.invariant in
    let s = c.split_pass-spare.ensures.kept in
    let other = c.replace-other.ensures.value in (
      search rules,
      (
        search rules,
        (
          (s.0.0 ∙ (i.1 ∙ sym i.0), ap (λ p. p.table_id) other ∙ (t.0 ∙ sym (s.0.0 ∙ i.1)), ap (λ p. p.me.1) other ∙ t.1),
          meets_teller _ _ _ _ (ap (λ (v : View). v.tells) (ap cell_view other ∙ t.2)),
        ),
      ),
    )

pub split_pass-requires : goal.split_pass-requires
split_pass-requires g c =
    let i = c.self.invariant in
    let t = c.told.invariant in
    let s = c.split_pass-spare.ensures.kept in
    let other = c.replace-other.ensures.value in
    let j = c.join_pass.ensures in
    let own = ap (λ (e : Event). is_own (cell_view c.told.inside.pass).who e) (sym c.requires.name) ∙ (ap (λ (p : Past). is_own p.who c.args.event.now) c.told.view_is ∙ c.requires.own) in (
      search rules,
      (
        search rules,
        (
          j.0.0 ∙ (s.0.0 ∙ (i.1 ∙ sym i.0)),
          adds_own_as _ _ _ _ _ _ _ (met_teller _ _ _ _ _ _ _ j.1 (s.1 ∙ i.2) (ap cell_view other ∙ t.2)) own,
        ),
      ),
    )
