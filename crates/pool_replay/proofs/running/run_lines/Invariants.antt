use Rattle.std.proofs.Common.{◌≡◌, ◌+◌, ◌≤◌, length, string_bytes}
use Rattle.pool_replay.specs.Transcript.{lines_of}
use Rattle.pool_replay.proofs.Ends.{LeadsOn}
use Rattle.pool_replay.proofs.running.run_lines.Given as goal

-- a transcript of the lines that are left, after what was printed, is a transcript of all lines
abbrev pub invariant-loop-line : goal.invariant-loop-line
invariant-loop-line l = record {
  settings : l.desk.pool.settings ≡ l.settings;
  within : l.number + length l.rest ≤ length l.input + 1;
  transcript : LeadsOn l.settings (lines_of l.input) (string_bytes l.output) l.number l.desk (lines_of l.rest);
}

abbrev pub decreases-loop-line : goal.decreases-loop-line
decreases-loop-line l = length l.rest
