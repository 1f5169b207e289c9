use Rattle.std.proofs.Common.{◌≡◌, map, take}
use Rattle.std.specs.Prelude.{string_bytes}
use Rattle.pool_settings.proofs.names.Names.copy.Given as goal

-- the names so far
abbrev pub invariant-loop-name : goal.invariant-loop-name
invariant-loop-name l = map (λ s. string_bytes s) l.names.items ≡ map (λ s. string_bytes s) (take l.name-index l.name-items)
