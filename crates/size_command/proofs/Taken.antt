-- The planning problem of settings.
use Rattle.std.proofs.Common.{◌≡◌, ap}
use Rattle.plan_model.specs.Planning.{Instance}
use Rattle.pool_report.specs.Law.{IsOf}
use Rattle.pool_settings.specs.Settings.{Settings}

-- a problem of settings has their permissions
module _ (p : Settings) where
  pub of_permissions : (i : Instance) → IsOf p i → i.may ≡ p.may
  of_permissions i from = ap (λ (j : Instance). j.may) from.2
