-- A text that says that no addition serves, read.
use Rattle.std.proofs.Common.{◌≡◌, ◌^◌, ◌<◌, [], Some, None, length, All, refl, subst}
use Rattle.plan_sizing.specs.Sizing.{Farm, IsFarm, first_obstacle}
use Rattle.plan_sizing.specs.declared.size.Obstacle.{Obstacle}
use Rattle.plan_sizing.specs.declared.size.Obstacle.TheVariants.{AboveMost, NoMachine}
use Rattle.plan_sizing.specs.declared.size.Size.TheVariants.{Never}
use Rattle.pool_settings.specs.Names.{name_at}
use Rattle.pool_settings.specs.Settings.{AreSettings, Settings}
use Rattle.pool_report.proofs.Found.{function_found}
use Rattle.size_report.specs.Law.{IsReadBack}
use Rattle.size_report.specs.Lines.{above_most, no_machine}
use Rattle.size_report.specs.Text.{above_most_line, no_machine_line, obstacle_line}
use Rattle.size_report.specs.declared.stage.Kind.TheVariants as kind
use Rattle.size_report.specs.declared.stage.Stage.TheVariants as stage
use Rattle.size_report.proofs.Bounds.{IsTold, obstacle_told}
use Rattle.size_report.proofs.Encoded.{above_told, nobody_told}
use Rattle.size_report.proofs.Walks.{Leads, asked, at, closed, leads_line}

module _ (p : Settings) (valid : AreSettings p) where
  obstacle_lead : (o : Obstacle) → IsTold (length p.functions) o → Leads p asked (obstacle_line p o) (at stage.Barred (kind.Never o) [] [] None 0 0 0)
  obstacle_lead (AboveMost f n most) is =
      leads_line p asked (at stage.Barred (kind.Never (AboveMost f n most)) [] [] None 0 0 0) (above_most_line (name_at p.functions f) n most) (above_most (name_at p.functions f) n most)
      (above_told (name_at p.functions f) n most (valid.functions_named f [] is.0) is.1 is.2) (rw (function_found p valid f is.0) refl)
  obstacle_lead (NoMachine f n) is =
      leads_line p asked (at stage.Barred (kind.Never (NoMachine f n)) [] [] None 0 0 0) (no_machine_line (name_at p.functions f) n) (no_machine (name_at p.functions f) n)
      (nobody_told (name_at p.functions f) n (valid.functions_named f [] is.0) is.1) (rw (function_found p valid f is.0) refl)

  pub never_read : (farm : Farm) (o : Obstacle) → IsFarm farm → length farm.problem.least ≡ length p.functions → All (λ n. n < 2 ^ 32) farm.problem.least → All (λ n. n < 2 ^ 32) farm.problem.most
      → first_obstacle farm ≡ Some o → IsReadBack p farm (Never o)
  never_read farm o sound many least most is = record {
    same = closed p farm.level sound.some sound.small (obstacle_line p o) stage.Barred (kind.Never o) [] [] None 0 0 0 refl
        (obstacle_lead o (subst (λ n. IsTold n o) many (obstacle_told farm sound least most o is)));
    shown = is;
    text = refl;
  }
