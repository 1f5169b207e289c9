use Rattle.std.proofs.Common.{◌≡◌, ◌≤◌}
use Rattle.tests_gear_status.proofs.tests.texts.waiting_in_bytes.Given as goal

-- the script has not failed
abbrev pub invariant-loop-byte : goal.invariant-loop-byte
invariant-loop-byte l = record { unfailed : l.script.take_failures ≡ 0; few : l.lulls ≤ 60 }
