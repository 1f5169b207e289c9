use Rattle.std.proofs.Common.{◌≡◌, length, map, take}
use Rattle.toml.specs.View.{table_view}
use Rattle.file_keys.specs.Keys.{key_view, number_in}
use Rattle.file_keys.proofs.values.numbers_in.Given as goal

-- the numbers of the keys so far
abbrev pub invariant-loop-place : goal.invariant-loop-place
invariant-loop-place g l = record {
  long : length l.numbers ≡ length l.keys;
  done : take l.place l.numbers ≡ map (λ key. number_in (table_view l.table) (key_view key)) (take l.place l.keys);
}
