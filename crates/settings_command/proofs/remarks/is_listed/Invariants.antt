use Rattle.std.proofs.Common.{◌≡◌, ◌-◌, length}
use Rattle.std.specs.List.{list_any, range_with_len}
use Rattle.pool_settings.specs.Rows.{may_do}
use Rattle.settings_command.specs.Meaning as spec
use Rattle.settings_command.proofs.remarks.is_listed.Given as goal

-- a machine lists it where one of those that are left does
abbrev pub invariant-loop-number : goal.invariant-loop-number
invariant-loop-number l =
    list_any (λ machine. may_do l.settings machine l.function) (range_with_len l.number (length l.settings.machines - l.number))
    ≡ spec.is_listed l.settings l.function
