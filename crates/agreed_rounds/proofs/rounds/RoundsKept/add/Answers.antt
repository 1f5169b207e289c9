use Rattle.std.proofs.Common.{rules, sym, ap, ◌∙◌}
use Rattle.crossbeam_utils.specs.Seq.{cell_view}
use Rattle.agreed_rounds.specs.declared.known.View.{View}
use Rattle.agreed_rounds.specs.Agreed.{with_round}
use Rattle.agreed_rounds.proofs.Moves.{spares, meets_as, finds, adds, parts, met, found}
use Rattle.agreed_rounds.proofs.rounds.RoundsKept.add.Goals as goal

pub split_pass-spare-requires : goal.split_pass-spare-requires
split_pass-spare-requires g c =
    let i = c.self.invariant in
    (search rules, (search rules, (i.1 ∙ sym i.0, spares _ _)))

pub join_pass-requires : goal.join_pass-requires
join_pass-requires g c =
    let i = c.self.invariant in
    let t = c.told.invariant in
    let s = c.split_pass-spare.ensures.kept in
    let other = c.replace-other.ensures.value in (
      search rules,
      (
        search rules,
        (
          (s.0.0 ∙ (i.1 ∙ sym i.0), ap (λ p. p.table_id) other ∙ (t.0 ∙ sym (s.0.0 ∙ i.1)), ap (λ p. p.me.1) other ∙ t.1),
          meets_as _ _ _ _ _ (ap cell_view other ∙ t.2),
        ),
      ),
    )

pub load_as-requires : goal.load_as-requires
load_as-requires g c =
    let i = c.self.invariant in
    let s = c.split_pass-spare.ensures.kept in
    let j = c.join_pass.ensures in
    (search rules, (search rules, (j.0.0 ∙ (s.0.0 ∙ (i.1 ∙ sym i.0)), finds _ _)))

pub load_as-requires-2 : goal.load_as-requires-2
load_as-requires-2 g c =
    let i = c.self.invariant in
    let t = c.told.invariant in
    let s = c.split_pass-spare.ensures.kept in
    let other = c.replace-other.ensures.value in
    let j = c.join_pass.ensures in
    let l = c.load_as.ensures in
    let together = met _ _ _ _ _ j.1 (s.1 ∙ i.2) (ap cell_view other ∙ t.2) in
    let seen = found _ _ _ _ l.rule together in (
      search rules,
      (
        search rules,
        (
          l.cell.0 ∙ (j.0.0 ∙ (s.0.0 ∙ (i.1 ∙ sym i.0))),
          adds _ _ _ (ap (λ (v : View). v.keeps) seen.0) (ap (λ (v : View). v.tells) seen.0),
        ),
      ),
    )

pub split_pass-requires : goal.split_pass-requires
split_pass-requires g c =
    let i = c.self.invariant in
    let t = c.told.invariant in
    let s = c.split_pass-spare.ensures.kept in
    let other = c.replace-other.ensures.value in
    let j = c.join_pass.ensures in
    let l = c.load_as.ensures in
    let a = c.load_as-2.ensures in
    let together = met _ _ _ _ _ j.1 (s.1 ∙ i.2) (ap cell_view other ∙ t.2) in
    let seen = found _ _ _ _ l.rule together in
    let added = a.rule ∙ ap (λ (v : View). with_round g.Y.AddedRound.ran v) seen.0 in (
      search rules,
      (
        search rules,
        (
          a.cell.0 ∙ (l.cell.0 ∙ (j.0.0 ∙ (s.0.0 ∙ (i.1 ∙ sym i.0)))),
          parts _ _ (ap (λ (v : View). v.tells) added),
        ),
      ),
    )
