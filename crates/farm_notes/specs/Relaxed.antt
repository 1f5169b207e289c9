-- The plan that is in force if no plan meets all least numbers.
use Rattle.std.specs.Prelude.{◌≡◌, ℕ, List, Option, Some, None, ⊤}
use Rattle.farm_page.specs.declared.view.RelaxedPlan.{RelaxedPlan}
use Rattle.plan_model.specs.Certificate.{Certificate}
use Rattle.plan_model.specs.Shown.{Shown}
use Rattle.pool_report.specs.Answered.{report_text}
use Rattle.pool_settings.specs.Settings.{Settings}
use Rattle.pool_supervisor.specs.Steps.{IsLetOffOf}

-- The report is that of an answer that is shown for its input, and the input is one of these settings but for the least numbers of some
-- functions, which are 0.
pub record IsRelaxedReport (report : List ℕ) : Type 0 where
  pub settings : Settings
  pub certified : Certificate
  pub let_off : List ℕ
  pub input : IsLetOffOf settings let_off certified.input
  pub shown : Shown certified.input certified.answer
  pub is_its : report ≡ report_text settings certified.input certified.answer

-- If there is such a plan, its report is one of those.
abbrev pub ShowsARelaxedPlan : Option RelaxedPlan → Type 0
ShowsARelaxedPlan None = ⊤
ShowsARelaxedPlan (Some plan) = IsRelaxedReport plan.report.items
