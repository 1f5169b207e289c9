use Rattle.std.proofs.Common.{rules, sym, ap, ◌∙◌}
use Rattle.agreed_rounds.specs.declared.known.View.{View}
use Rattle.agreed_rounds.proofs.Moves.{meets_as, finds, parts, met, found}
use Rattle.agreed_rounds.proofs.rounds.RoundsKept.reconcile.Goals as goal

pub join_pass-requires : goal.join_pass-requires
join_pass-requires g c =
    let i = c.self.invariant in
    let t = c.told.invariant in
    (search rules, (search rules, ((i.1 ∙ sym i.0, t.0 ∙ sym i.1, t.1), meets_as _ _ _ _ _ t.2)))

pub load_as-requires : goal.load_as-requires
load_as-requires g c =
    let i = c.self.invariant in
    (search rules, (search rules, (c.join_pass.ensures.0.0 ∙ (i.1 ∙ sym i.0), finds _ _)))

pub split_pass-told-requires : goal.split_pass-told-requires
split_pass-told-requires g c =
    let i = c.self.invariant in
    let t = c.told.invariant in
    let j = c.join_pass.ensures in
    let l = c.load_as.ensures in
    let seen = found _ _ _ _ l.rule (met _ _ _ _ _ j.1 i.2 t.2) in
    (search rules, (search rules, (l.cell.0 ∙ (j.0.0 ∙ (i.1 ∙ sym i.0)), parts _ _ (ap (λ (v : View). v.tells) seen.0))))
