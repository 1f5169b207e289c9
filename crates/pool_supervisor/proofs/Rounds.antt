-- The rounds that attempts tell.
use Rattle.std.proofs.Common.{◌≡◌, ℕ, List, [], ◌∷◌, ◌++◌, Bool, true, false, Option, None, Some, refl, sym, ap, subst, ◌∙◌, append_assoc}
use Rattle.std.specs.Prelude.{cond, map}
use Rattle.std.proofs.lemmas.List.{append-nil, map-append}
use Rattle.std.proofs.lemmas.List.Elements.{filter-append}
use Rattle.plan_model.specs.Backlogs.{as_backlog}
use Rattle.plan_model.specs.declared.level.Backlog.{Backlog}
use Rattle.plan_model.specs.declared.level.Backlog.TheVariants as backlog
use Rattle.pool_core.specs.declared.answer.Ran.{Ran}
use Rattle.pool_supervisor.specs.declared.attempt.Attempt.{Attempt}
use Rattle.pool_supervisor.specs.Lines.{attempt_of, attempt_with, planned_attempt}
use Rattle.pool_supervisor.specs.Rounds.{is_round, rounds_in, AreNoted, Notes}

planned_is_round : (number : ℕ) (b : Backlog) → is_round (planned_attempt number b) ≡ true
planned_is_round number (backlog.Jobs jobs) = refl
planned_is_round number (backlog.Unserved jobs) = refl

pub with_is_round : (number : ℕ) (o : Option ℕ) → is_round (attempt_with number o) ≡ true
with_is_round number None = refl
with_is_round number (Some n) = planned_is_round number (as_backlog n)

-- ---- the rounds that lines report

pub none_noted : (lines : List Attempt) (rounds : List Ran) → lines ≡ [] → rounds ≡ [] → AreNoted lines rounds
none_noted lines rounds no_lines no_rounds = ap (λ (l : List Ran). map attempt_of l) no_rounds ∙ sym (ap rounds_in no_lines)

-- the line of an adopted round
pub round_noted : (line : Attempt) (before now : List Ran) (ran : Ran) → now ≡ before ++ ran ∷ [] → line ≡ attempt_of ran → Notes line before now
round_noted line before now ran added is =
    let reports = ap is_round is ∙ with_is_round ran.number ran.backlog in
    let alone : rounds_in (line ∷ []) ≡ attempt_of ran ∷ [] = ap (λ (b : Bool). cond b (line ∷ []) []) reports ∙ ap (λ (a : Attempt). a ∷ []) is in
    ap (λ (l : List Ran). map attempt_of l) added ∙ (map-append attempt_of before (ran ∷ []) ∙ ap (λ (l : List Attempt). map attempt_of before ++ l) (sym alone))

-- the line of any other attempt
pub nothing_noted : (line : Attempt) (before now : List Ran) → is_round line ≡ false → now ≡ before → Notes line before now
nothing_noted line before now none same =
    let no_lines : rounds_in (line ∷ []) ≡ [] = ap (λ (b : Bool). cond b (line ∷ []) []) none in
    ap (λ (l : List Ran). map attempt_of l) same ∙ (sym (append-nil (map attempt_of before)) ∙ ap (λ (l : List Attempt). map attempt_of before ++ l) (sym no_lines))

-- the lines so far, and one more
pub noted_more : (lines : List Attempt) (line : Attempt) (before now : List Ran) → AreNoted lines before → Notes line before now → AreNoted (lines ++ line ∷ []) now
noted_more lines line before now noted notes =
    notes ∙ (ap (λ (l : List Attempt). l ++ rounds_in (line ∷ [])) noted ∙ sym (filter-append is_round lines (line ∷ [])))
