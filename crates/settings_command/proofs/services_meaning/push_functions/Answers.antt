use Rattle.std.proofs.Common.{arith, length, string_bytes}
use Rattle.toml.specs.View.{table_view}
use Rattle.settings_command.specs.ServicesMeaning as spec
use Rattle.settings_command.proofs.Numbered.{one_written}
use Rattle.settings_command.proofs.services_meaning.push_functions.Goals as goal

pub loop-number-preserved : goal.loop-number-preserved
loop-number-preserved c =
    let p = c.args.settings.now in
    let k = c.loop-number.number in
    one_written (spec.function_lines (table_view c.args.file.now.tree) p c.args.services.now) (length p.functions) k (string_bytes c.loop-number.out) _ _
    (omega arith) (rw c.new.ensures at c.in_ok-push_function.ensures) c.loop-number.invariant
