use Rattle.std.proofs.Common.{◌∙◌, ◌+◌, ◌-◌, ◌++◌, ap, append_assoc, arith, length, string_bytes, sym}
use Rattle.std.specs.List.{flat_map, range_with_len}
use Rattle.size_report.specs.Text.{on_if}
use Rattle.size_report.proofs.Written.{left_on}
use Rattle.size_report.proofs.text.push_on_lines.Goals as goal

pub loop-number-preserved : goal.loop-number-preserved
loop-number-preserved c =
    let f = on_if c.args.settings.now c.args.added.now in
    let k = c.loop-number.number in
    let n = length c.args.settings.now.machines in
    let rest = flat_map f (range_with_len (k + 1) (n - (k + 1))) in
    ap (λ t. t ++ rest) c.in_ok-push_on_if.ensures
    ∙ append_assoc (string_bytes c.loop-number.out) (f k) rest
    ∙ ap (λ t. string_bytes c.loop-number.out ++ t) (sym (left_on f n k (omega arith)))
    ∙ c.loop-number.invariant
