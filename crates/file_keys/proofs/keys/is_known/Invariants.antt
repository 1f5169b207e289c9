use Rattle.std.proofs.Common.{◌≡◌, drop}
use Rattle.file_keys.specs.Keys.{is_known, keys_view}
use Rattle.file_keys.proofs.keys.is_known.Given as goal

-- what is left decides
abbrev pub invariant-loop-key : goal.invariant-loop-key
invariant-loop-key l = is_known (keys_view (drop l.key-index l.keys)) l.name ≡ is_known (keys_view l.keys) l.name
