-- A view with the answer that a search found for it.
use Rattle.std.proofs.Common.{◌≡◌, ℕ, List, Bor, Option, Some, None, Ok, IfSome, sym, subst}
use Rattle.std.specs.Option.{option_copied}
use Rattle.level_search.specs.Steady.{IsSteady}
use Rattle.plan_model.specs.Certificate.{Certificate}
use Rattle.plan_model.specs.Planning.{Instance}
use Rattle.plan_model.specs.Shown.{Shown}
use Rattle.plan_model.specs.declared.answer.Answer.{Answer}
use Rattle.pool_core.specs.Book.{Book, IsInputOf, view_refusal}
use Rattle.pool_replay.specs.Step.{Sees}

of_lent : {A : Type 0} (P : A → Type 0) (r : Option (Bor A)) (s : Option A) → option_copied r ≡ s → IfSome r (λ x. P x.now) → IfSome s P
of_lent {A = A} P r s is there = subst (λ o. IfSome o P) is (by r there)
  where
    by : (r : Option (Bor A)) → IfSome r (λ x. P x.now) → IfSome (option_copied r) P
    by None there = tt
    by (Some x) there = there

pub viewed : (book : Book) (input : Instance) (answer : Answer) (previous : Option (Bor (List (ℕ × Option ℕ)))) (made : Certificate)
    → made ≡ record { input = input; answer = answer } → IsInputOf book input → Shown input answer
    → option_copied previous ≡ book.state.previous → IfSome previous (λ plan. IsSteady input plan.now answer)
    → None ≡ view_refusal book → Sees book (Ok made)
viewed book input answer previous made is input_is shown copied steady admitted =
    subst (λ (m : Certificate). Sees book (Ok m)) (sym is)
    ((input_is, shown, of_lent (λ plan. IsSteady input plan answer) previous book.state.previous copied steady), admitted)
