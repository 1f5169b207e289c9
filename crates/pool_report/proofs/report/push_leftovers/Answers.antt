use Rattle.std.proofs.Common.{◌∙◌, ◌+◌, ◌-◌, ◌++◌, ap, append_assoc, arith, filter, length, map, string_bytes, sym}
use Rattle.std.specs.List.{flat_map, range_with_len}
use Rattle.plan_model.specs.Planning.{is_stranded}
use Rattle.pool_report.specs.Answered.{stranded_at}
use Rattle.pool_report.specs.Report.{stranded_line}
use Rattle.pool_report.proofs.Leftovers.{left_more}
use Rattle.pool_report.proofs.report.push_leftovers.Goals as goal

pub loop-number-preserved : goal.loop-number-preserved
loop-number-preserved c =
    let r = c.args.settings.now in
    let i = c.args.input.now in
    let k = c.loop-number.number in
    let n = length i.least in
    let rest = flat_map stranded_line (map (stranded_at r i) (filter (is_stranded i) (range_with_len (k + 1) (n - (k + 1))))) in
    let more = left_more stranded_line (stranded_at r i) (is_stranded i) n k (omega arith) in
    ap (λ t. t ++ rest) c.in_ok-push_if_stranded.ensures
    ∙ append_assoc (string_bytes c.loop-number.out) _ rest
    ∙ ap (λ t. string_bytes c.loop-number.out ++ t) (sym more)
    ∙ c.loop-number.invariant
