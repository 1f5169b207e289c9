use Rattle.std.proofs.Common.{◌≡◌, ◌≤◌, ◌<◌, ◌+◌, ℕ, List, Bool, true, false, Option, None, Some, IfNone, IfSome, get_or, ltb, ap, sym, ◌∙◌, subst}
use Rattle.std.proofs.lemmas.Bool.{false≢true, ltb-true, ltb-false}
use Rattle.plan_model.specs.Planning.{Instance, may_do}
use Rattle.plan_sizing.specs.Hiring.{IsBestBelow}
use Rattle.plan_sizing.proofs.Placed.{best_next, best_stays}
use Rattle.plan_sizing.proofs.hiring.best_machine.Goals.{then-may+then-is_better, else-may, else-may-via-then-may+else-is_better, else-may-via-else-may}
use Rattle.plan_sizing.proofs.hiring.best_machine.Goals as goal

-- better than the best so far
above : (scores : List ℕ) (k : ℕ) (best : Option ℕ) (better : Bool) → better ≡ true → IfSome best (λ b. better ≡ ltb (get_or scores b 0) (get_or scores k 0)) → IfSome best (λ b. get_or scores b 0 < get_or scores k 0)
above scores k None better yes_better some = tt
above scores k (Some b) better yes_better some = ltb-true (get_or scores b 0) (get_or scores k 0) (sym some ∙ yes_better)

-- not better
kept_none : (i : Instance) (f k : ℕ) (best : Option ℕ) (better : Bool) → better ≡ false → IfNone best (better ≡ true) → IfNone best (may_do i k f ≡ false)
kept_none i f k None better not_better none = absurd (false≢true (sym not_better ∙ none))
kept_none i f k (Some b) better not_better none = tt

kept_some : (i : Instance) (scores : List ℕ) (f k : ℕ) (best : Option ℕ) (better : Bool) → better ≡ false → IfSome best (λ b. better ≡ ltb (get_or scores b 0) (get_or scores k 0)) → IfSome best (λ b. may_do i k f ≡ true → get_or scores k 0 ≤ get_or scores b 0)
kept_some i scores f k None better not_better some = tt
kept_some i scores f k (Some b) better not_better some = λ can. ltb-false (get_or scores b 0) (get_or scores k 0) (sym some ∙ not_better)

-- not permitted
barred_none : (i : Instance) (f k : ℕ) (best : Option ℕ) → may_do i k f ≡ false → IfNone best (may_do i k f ≡ false)
barred_none i f k None not_may = not_may
barred_none i f k (Some b) not_may = tt

barred_some : (i : Instance) (scores : List ℕ) (f k : ℕ) (best : Option ℕ) → may_do i k f ≡ false → IfSome best (λ b. may_do i k f ≡ true → get_or scores k 0 ≤ get_or scores b 0)
barred_some i scores f k None not_may = tt
barred_some i scores f k (Some b) not_may = λ can. absurd (false≢true (sym not_may ∙ can))

pub loop-machine-preserved : goal.loop-machine-preserved
loop-machine-preserved c =
    let i = c.args.input.now in
    let scores = c.args.scores.now in
    let f : ℕ = c.args.function in
    let k : ℕ = c.loop-machine.machine in
    let best = c.loop-machine.best in
    let may : c.may.result ≡ may_do i k f = c.may.ensures ∙ ap (λ m. may_do i m f) c.new.ensures in
    let P : Option ℕ → Type 0 = IsBestBelow i scores f (k + 1) in
    elim c.if-may.branch [
      | then-may+then-is_better w ↦ subst P (sym w.best-is) (best_next i scores f k best c.loop-machine.invariant (sym may ∙ w.if-may.true) (above scores k best w.is_better.result w.if-is_better.true w.is_better.ensures.some))
      | else-may w ↦ subst P (sym w.best-is) (elim w.else-may.branch [
        | else-may-via-then-may+else-is_better v ↦ best_stays i scores f k best c.loop-machine.invariant (kept_none i f k best v.is_better.result v.if-is_better.false v.is_better.ensures.none) (kept_some i scores f k best v.is_better.result v.if-is_better.false v.is_better.ensures.some)
        | else-may-via-else-may v ↦ best_stays i scores f k best c.loop-machine.invariant (barred_none i f k best (sym may ∙ v.if-may.false)) (barred_some i scores f k best (sym may ∙ v.if-may.false))
      ])
    ]
