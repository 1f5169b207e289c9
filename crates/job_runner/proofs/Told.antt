-- What a link tells, over several calls.
use Rattle.std.proofs.Common.{◌≡◌, ℕ, List, ◌++◌, Option, ap, ◌∙◌}
use Rattle.byte_io.specs.Sides.{and_then}
use Rattle.byte_io.proofs.Devices.{told_twice}

-- what goes on after `bytes` goes on after all that was told
pub goes_after : (before : Option (List ℕ)) (bytes more : List ℕ) (old new : Option (List ℕ)) → old ≡ and_then before bytes → new ≡ and_then old more → new ≡ and_then before (bytes ++ more)
goes_after before bytes more old new at step = step ∙ ap (λ (o : Option (List ℕ)). and_then o more) at ∙ told_twice before bytes more
