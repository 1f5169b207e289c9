-- What a draft keeps: its numbers rise, and no more than 4,096 workers are added.
use Rattle.std.specs.Prelude.{◌<◌, ◌≤◌, [], length, unwrap_or, All}
use Rattle.std.specs.List.Sorted.{IsNonDecreasing, IsStrictlyIncreasing}
use Rattle.plan_model.specs.Planning.{slots_of}
use Rattle.size_report.specs.Reading.{Draft}

pub record IsDraft (d : Draft) : Type 0 where
  pub machines : IsNonDecreasing d.machines
  pub machines_below : All (λ m. m < d.next_machine) d.machines
  pub machines_few : length d.machines ≤ 4096
  pub slots : IsStrictlyIncreasing (slots_of d.entries)
  pub slots_below : All (λ s. s < d.next_slot) (slots_of d.entries)
  pub functions : IsStrictlyIncreasing (unwrap_or d.set [])
  pub functions_below : All (λ f. f < d.next_function) (unwrap_or d.set [])
