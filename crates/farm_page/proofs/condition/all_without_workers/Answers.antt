use Rattle.std.proofs.Common.{rules, ◌≡◌, ℕ, ◌≤◌, ap, length, drop, sum_by}
use Rattle.std.proofs.Math.ListN.{drop_of_length-le}
use Rattle.farm_page.specs.Condition.{without_workers}
use Rattle.farm_page.proofs.condition.all_without_workers.Goals as goal

-- nothing is left to count
pub returns : goal.returns
returns c =
    let functions = c.args.functions.now in
    let index : ℕ = c.loop-function.function-index in
    let counted : length functions ≤ index = search rules in
    let left = drop_of_length-le functions {i = index} counted in
    let none : sum_by without_workers (drop index functions) ≡ 0 = ap (λ rest. sum_by without_workers rest) left in
    search (rules, none)
