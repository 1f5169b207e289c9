use Rattle.std.proofs.Common.{◌∙◌, ap}
use Rattle.farm_page.specs.Rows.{failure_rows}
use Rattle.farm_page.proofs.Failed.{row_alike, rows_alike}
use Rattle.farm_page.proofs.failures.Failures.copy.Goals as goal

pub returns : goal.returns
returns c =
    rows_alike _ (λ f g same. row_alike f g same) c.self.inside.jobs.items c.in_ok-jobs.jobs.items c.in_ok-jobs.ensures.cases.0
    ∙ ap failure_rows c.self.view_is
