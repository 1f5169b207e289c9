use Rattle.std.proofs.Common.{◌≡◌, ℕ, List, Option, true, sym, subst}
use Rattle.std.proofs.lemmas.Bool.{false≢true}
use Rattle.std.specs.List.Sorted.{IsStrictlyIncreasing}
use Rattle.plan_model.specs.Planning.{slots_of}
use Rattle.plan_model.proofs.plan.Plan.new.Goals as goal

pub returns-then-not-slots_rise-clause-exact : goal.returns-then-not-slots_rise-clause-exact
returns-then-not-slots_rise-clause-exact c =
    let P : List (ℕ × Option ℕ) → Type 0 = λ entries. IsStrictlyIncreasing (slots_of entries) in (
      λ e. absurd (false≢true e),
      λ rises.
          let yes : c.slots_rise.result ≡ true = c.slots_rise.ensures.1 (subst P (sym c.deref.ensures.value) rises) in
          let no = c.if-not-slots_rise.true in
          absurd cc,
    )
