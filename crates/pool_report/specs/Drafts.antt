-- What a draft keeps: its numbers rise.
use Rattle.std.specs.Prelude.{◌<◌, [], unwrap_or, All}
use Rattle.std.specs.List.Sorted.{IsStrictlyIncreasing}
use Rattle.plan_model.specs.Planning.{slots_of}
use Rattle.pool_report.specs.Reading.{Draft}

pub record IsDraft (d : Draft) : Type 0 where
  pub slots : IsStrictlyIncreasing (slots_of d.entries)
  pub slots_below : All (λ s. s < d.next_slot) (slots_of d.entries)
  pub functions : IsStrictlyIncreasing (unwrap_or d.set [])
  pub functions_below : All (λ f. f < d.next_function) (unwrap_or d.set [])
