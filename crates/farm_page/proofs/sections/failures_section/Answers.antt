use Rattle.std.proofs.Common.{◌≡◌, ◌∙◌, List, ℕ, ◌++◌, true, false, eqb, length, sym, ap, subst}
use Rattle.farm_page.specs.Rows.{failure_rows}
use Rattle.farm_page.specs.Sections.{Holds}
use Rattle.farm_page.specs.declared.view.FailureView.{FailureView}
use Rattle.farm_page.proofs.Failed.{none_shown, part_of_none, part_of_some}
use Rattle.farm_page.proofs.Held.{holds_in, holds_last, holds_more}
use Rattle.farm_page.proofs.sections.failures_section.Goals as goal

pub returns-then-is_empty : goal.returns-then-is_empty
returns-then-is_empty c =
    let P : List ℕ → Type 0 = λ t. Holds c.put_tags.new.self t in
    let jobs : List FailureView = c.args.view.now.failures in
    let none : eqb (length jobs) 0 ≡ true = ap (λ (fs : List FailureView). eqb (length fs) 0) (sym c.jobs-jobs.ensures) ∙ sym c.is_empty.ensures ∙ c.if-is_empty.true in
    subst P (sym (part_of_none jobs none)) (holds_in _ _ _ c.put_tags.new.self none_shown c.in_ok-put_tags.ensures)

pub returns : goal.returns
returns c =
    let P : List ℕ → Type 0 = λ t. Holds c.put_tags-3.new.self t in
    let jobs : List FailureView = c.args.view.now.failures in
    let some : eqb (length jobs) 0 ≡ false = ap (λ (fs : List FailureView). eqb (length fs) 0) (sym c.jobs-jobs.ensures) ∙ sym c.is_empty.ensures ∙ c.if-is_empty.false in
    let rows = c.in_ok-rows.ensures ∙ ap failure_rows c.jobs-jobs.ensures in
    let first = holds_last c.put_tags-2.new.self (failure_rows jobs) c.put.new.self (c.in_ok-put.ensures ∙ ap (λ t. c.put_tags-2.new.self ++ t) rows) in
    subst P (sym (part_of_some jobs some)) (holds_more c.put.new.self (failure_rows jobs) _ c.put_tags-3.new.self first c.in_ok-put_tags-3.ensures)
