use Rattle.std.proofs.Common.{◌≡◌, ◌∙◌, ℕ, List, [], ◌∷◌, ◌++◌, Vec, Global, ap, sym, subst}
use Rattle.job_runner.specs.Table.{told_by}
use Rattle.stock_jobs.specs.Stock.{told_by_job, told_by_name}
use Rattle.stock_jobs.specs.declared.stock.StockJob.{StockJob}
use Rattle.stock_jobs.proofs.Table.{three_jobs}
use Rattle.stock_jobs.proofs.stock.stock_jobs.Goals as goal

pub returns : goal.returns
returns c name input =
    let first = c.in_ok-named in
    let second = c.in_ok-named-2 in
    let third = c.in_ok-named-3 in
    let Tells : List (Vec ℕ Global × StockJob) → Type 0 = λ es. told_by (λ e. e.0.items) (λ e. told_by_job e.1) es name input ≡ told_by_name name input in
    let items : c.push-3.new.self.items ≡ first.field-0 ∷ second.field-0 ∷ third.field-0 ∷ [] =
    c.in_ok-push-3.ensures.items
    ∙ ap (λ es. es ++ third.field-0 ∷ [])
    (c.in_ok-push-2.ensures.items ∙ ap (λ es. es ++ second.field-0 ∷ []) (c.in_ok-push.ensures.items ∙ ap (λ es. es ++ first.field-0 ∷ []) c.new-jobs.ensures.items)) in
    c.in-Ok.ensures.same name input
    ∙ subst Tells (sym items) (three_jobs first.field-0 second.field-0 third.field-0 (first.ensures.name, first.ensures.job)
    (second.ensures.name, second.ensures.job) (third.ensures.name, third.ensures.job) name input)
