use Rattle.std.proofs.Common.{append_assoc, map, string_bytes, sum_by}
use Rattle.std.specs.List.{flat_map}
use Rattle.plan_model.specs.Planning.{machines_of, may_do, neighbours}
use Rattle.plan_sizing.specs.Sizing.{need}
use Rattle.pool_report.specs.Report.{needed_line, short_line}
use Rattle.size_report.specs.Text.{needed_of}
use Rattle.size_report.proofs.text.push_set.Goals as goal

pub loop-function-init : goal.loop-function-init
loop-function-init c =
    let farm = c.args.farm.now in
    let set = c.args.set.now in
    rw (c.in_ok-push_short_line.ensures, c.total_need-need.ensures, c.from.ensures, c.count_neighbours-have.ensures, c.input.ensures, c.functions-function-items.ensures.all)
    (append_assoc (string_bytes c.args.out.now) (short_line (sum_by (need farm) set) (neighbours (may_do farm.problem) (machines_of farm.problem) set))
    (flat_map needed_line (map (needed_of c.args.settings.now farm) set)))
