use Rattle.std.proofs.Common.{◌≡◌, ◌+◌, ◌≤◌, drop, length}
use Rattle.std.specs.Prelude.{filter}
use Rattle.pool_settings.specs.Fault.{begins_character}
use Rattle.pool_settings.proofs.fault.characters.Given as goal

-- those so far, and those that are left
abbrev pub invariant-loop-byte : goal.invariant-loop-byte
invariant-loop-byte l = record {
  all : l.count + length (filter begins_character (drop l.byte-index l.settings_text)) ≡ length (filter begins_character l.settings_text);
  few : l.count ≤ l.byte-index;
}
