use Rattle.std.proofs.Common.{◌≤◌, List, ℕ, arith, length, subst, sym}
use Rattle.plan_model.proofs.Hall.{length-rising}
use Rattle.settings_command.proofs.farm_remarks.least_of.Goals as goal

pub total_least-requires-clause-few : goal.total_least-requires-clause-few
total_least-requires-clause-few c =
    let short = c.requires in
    let many = length-rising (length c.args.settings.now.functions) c.args.set.now short.rising short.within in
    subst (λ (set : List ℕ). length set ≤ 1024) (sym c.functions.ensures.all) (omega (arith, many, c.facts.ensures.functions_few))
