use Rattle.std.proofs.Common.{ℕ, List, Option, ◌++◌, ◌∙◌, ap, sym, subst}
use Rattle.std.specs.List.Sorted.{IsStrictlyIncreasing}
use Rattle.plan_model.specs.Planning.{slots_of}
use Rattle.plan_sizing.specs.Hiring.{hired_entries}
use Rattle.plan_sizing.proofs.Hired.{rises_on}
use Rattle.plan_sizing.proofs.search.grow_plan.Goals as goal

pub of_rising-requires : goal.of_rising-requires
of_rising-requires c =
    let plan = c.args.plan.now in
    let first = c.args.farm.now.slots in
    let hires = c.args.hires.now in
    let P : List (ℕ × Option ℕ) → Type 0 = λ entries. IsStrictlyIncreasing (slots_of entries) in
    let copied = c.in_ok-entries.ensures.items ∙ c.entries.ensures.all in
    let whole = c.in_ok-add_entries.ensures ∙ ap (λ (entries : List (ℕ × Option ℕ)). entries ++ hired_entries c.slots.result hires) copied ∙ ap (λ (slot : ℕ). plan ++ hired_entries slot hires) c.slots.ensures.all in
    subst P (sym whole) (rises_on plan first hires c.entries.ensures.rising c.requires.slots)
