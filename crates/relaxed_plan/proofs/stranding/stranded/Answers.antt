use Rattle.std.proofs.Common.{ℕ, ◌<◌, List, ap, filter, length, subst, sym, ◌∙◌}
use Rattle.std.specs.List.{range_with_len}
use Rattle.std.specs.List.Sorted.{IsStrictlyIncreasing}
use Rattle.plan_model.specs.Planning.{IsShort, top_level}
use Rattle.relaxed_plan.specs.Stranded.{lacks_all}
use Rattle.relaxed_plan.proofs.Unserved.{lacking-rises, short-stranded}
use Rattle.relaxed_plan.proofs.stranding.stranded.Goals as goal

pub of_rising-requires : goal.of_rising-requires
of_rising-requires c =
    let P : List ℕ → Type 0 = IsStrictlyIncreasing in
    subst P (sym c.in_ok-functions.ensures) (lacking-rises c.args.input.now c.functions.result)

pub returns-clause-short : goal.returns-clause-short
returns-clause-short c =
    let i = c.args.input.now in
    let Short : List ℕ → Type 0 = λ set. 0 < length set → IsShort i top_level set in
    let all = c.of_rising.ensures ∙ c.in_ok-functions.ensures ∙ ap (λ n. filter (lacks_all i) (range_with_len 0 n)) c.functions.ensures.all in
    subst Short (sym all) (short-stranded i)
