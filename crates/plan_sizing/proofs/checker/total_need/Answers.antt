use Rattle.std.proofs.Common.{ℕ, List, sym, subst, arith, ◌<◌, All, length}
use Rattle.std.specs.List.Sorted.{IsStrictlyIncreasing}
use Rattle.plan_model.proofs.Hall.{length-rising}
use Rattle.plan_sizing.proofs.checker.total_need.Goals as goal

pub add_needs-requires-clause-few : goal.add_needs-requires-clause-few
add_needs-requires-clause-few c =
    let set = c.functions.result.now in
    let P : List ℕ → Type 0 = IsStrictlyIncreasing in
    let Q : List ℕ → Type 0 = All (λ f. f < length c.args.farm.now.problem.least) in
    let order = subst P (sym c.functions.ensures.all) c.functions.ensures.rising in
    omega (arith, c.facts.ensures.instance.limits.functions, length-rising (length c.args.farm.now.problem.least) set order (subst Q (sym c.functions.ensures.all) c.requires))
