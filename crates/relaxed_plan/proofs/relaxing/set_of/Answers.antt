use Rattle.std.proofs.Common.{ℕ, List, subst, sym}
use Rattle.std.specs.List.Sorted.{IsStrictlyIncreasing}
use Rattle.relaxed_plan.proofs.Left.{rising-rises}
use Rattle.relaxed_plan.proofs.relaxing.set_of.Goals as goal

pub of_rising-requires : goal.of_rising-requires
of_rising-requires c =
    let P : List ℕ → Type 0 = IsStrictlyIncreasing in
    subst P (sym c.in_ok-functions.ensures.rising) (rising-rises c.functions.result c.args.named.now)
