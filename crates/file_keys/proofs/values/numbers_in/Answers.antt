use Rattle.std.proofs.Common.{◌≤◌, length, map, sym, ap, ◌∙◌, arith}
use Rattle.std.proofs.lemmas.List.{take_all}
use Rattle.toml.specs.View.{table_view}
use Rattle.file_keys.specs.Keys.{key_view, number_in}
use Rattle.file_keys.proofs.Maps.{map_twice}
use Rattle.file_keys.proofs.values.numbers_in.Goals as goal

pub returns : goal.returns
returns g c =
    let all : length c.args.keys.now ≤ c.loop-place.place = omega (arith, c.requires, c.loop-place-test.false) in
    let many : length c.loop-place.numbers ≤ c.loop-place.place = omega (arith, c.loop-place.invariant.long, all) in
    sym (take_all c.loop-place.place c.loop-place.numbers many) ∙ c.loop-place.invariant.done
    ∙ ap (map (λ key. number_in (table_view c.args.table.now) (key_view key))) (take_all c.loop-place.place c.args.keys.now all)
    ∙ sym (map_twice (number_in (table_view c.args.table.now)) key_view c.args.keys.now)
