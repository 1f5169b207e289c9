-- The farm of a problem of settings.
use Rattle.std.proofs.Common.{◌≡◌, ◌∙◌, length, ap}
use Rattle.plan_model.specs.Planning.{Instance}
use Rattle.plan_sizing.specs.Sizing.{Farm}
use Rattle.pool_settings.specs.Settings.{AreSettings, Settings}
use Rattle.pool_settings.specs.Slots.{slots}
use Rattle.live_size.specs.Answers.{IsFarmOf}
use Rattle.live_size.proofs.Taken.{of_permissions}

module _ (p : Settings) (farm : Farm) where
  pub its_permissions : IsFarmOf p farm → farm.problem.may ≡ p.may
  its_permissions posed = ap (λ (f : Farm). f.problem.may) posed.is_its ∙ of_permissions p posed.input posed.of_these

  pub its_slots : IsFarmOf p farm → farm.slots ≡ slots p
  its_slots posed = ap (λ (f : Farm). f.slots) posed.is_its

  pub its_functions : IsFarmOf p farm → AreSettings p → length farm.problem.least ≡ length p.functions
  its_functions posed valid =
      ap (λ (f : Farm). length f.problem.least) posed.is_its ∙ ap (λ (i : Instance). length i.least) posed.of_these.2 ∙ valid.least_paired
