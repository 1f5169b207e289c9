use Rattle.std.proofs.Common.{◌≡◌, ◌+◌, ◌++◌, drop, string_bytes}
use Rattle.run_command.specs.Run as spec
use Rattle.run_command.proofs.text.attempt_lines.Given as goal

-- the lines so far and those of what is left are those of all
abbrev pub invariant-loop-place : goal.invariant-loop-place
invariant-loop-place l = string_bytes l.text ++ spec.attempt_lines (l.place + 1) (drop l.place l.attempts) ≡ spec.attempt_lines 1 l.attempts
