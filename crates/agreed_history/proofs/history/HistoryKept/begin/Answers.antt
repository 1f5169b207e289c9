use Rattle.std.proofs.Common.{rules, sym, ap, ◌∙◌}
use Rattle.crossbeam_utils.specs.Seq.{cell_view}
use Rattle.agreed_history.specs.Agreed.{has, Kept}
use Rattle.agreed_history.specs.declared.known.View.{View}
use Rattle.agreed_history.proofs.Moves.{spares, meets_ruler, met_ruler, begun_as, joined_is, split_ruler}
use Rattle.agreed_history.proofs.history.HistoryKept.begin.Goals as goal

pub split_pass-spare-requires : goal.split_pass-spare-requires
split_pass-spare-requires g c =
    let i = c.self.invariant in
    (search rules, (search rules, (i.1 ∙ sym i.0, spares _ _)))

pub join_pass-requires : goal.join_pass-requires
join_pass-requires g c =
    let i = c.self.invariant in
    let t = c.roster.invariant in
    let s = c.split_pass-spare.ensures.kept in
    let other = c.replace-other.ensures.value in (
      search rules,
      (
        search rules,
        (
          (s.0.0 ∙ (i.1 ∙ sym i.0), ap (λ p. p.table_id) other ∙ (t.0 ∙ sym (s.0.0 ∙ i.1)), ap (λ p. p.me.1) other ∙ t.1),
          meets_ruler _ _ _ _ (ap (λ (v : View). v.rules) (ap cell_view other ∙ t.2)),
        ),
      ),
    )

pub split_pass-told-requires : goal.split_pass-told-requires
split_pass-told-requires g c =
    let i = c.self.invariant in
    let t = c.roster.invariant in
    let s = c.split_pass-spare.ensures.kept in
    let other = c.replace-other.ensures.value in
    let j = c.join_pass.ensures in
    let new = ap (λ k. has k (cell_view c.self.inside.pass).born) (sym c.requires.name) ∙ (ap (λ (l : Kept). has c.args.who l.born) c.self.view_is ∙ c.requires.new) in (
      search rules,
      (
        search rules,
        (
          j.0.0 ∙ (s.0.0 ∙ (i.1 ∙ sym i.0)),
          begun_as _ _ _ _ _ _ _ (met_ruler _ _ _ _ _ _ _ j.1 (s.1 ∙ i.2) (ap cell_view other ∙ t.2)) new,
        ),
      ),
    )

pub split_pass-requires : goal.split_pass-requires
split_pass-requires g c =
    let i = c.self.invariant in
    let t = c.roster.invariant in
    let s = c.split_pass-spare.ensures.kept in
    let other = c.replace-other.ensures.value in
    let j = c.join_pass.ensures in
    let b = c.split_pass-told.ensures.kept in (
      search rules,
      (
        search rules,
        (
          b.0.0 ∙ (j.0.0 ∙ (s.0.0 ∙ (i.1 ∙ sym i.0))),
          split_ruler _ _ (ap (λ (v : View). v.rules) (b.1 ∙ joined_is _ _ _ _ _ _ (met_ruler _ _ _ _ _ _ _ j.1 (s.1 ∙ i.2) (ap cell_view other ∙ t.2)))),
        ),
      ),
    )
