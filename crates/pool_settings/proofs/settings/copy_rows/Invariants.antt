use Rattle.std.proofs.Common.{◌≡◌, map, take}
use Rattle.pool_settings.proofs.settings.copy_rows.Given as goal

-- the rows so far
abbrev pub invariant-loop-row : goal.invariant-loop-row
invariant-loop-row l = map (λ row. row.items) l.copy.items ≡ map (λ row. row.items) (take l.row-index l.rows)
