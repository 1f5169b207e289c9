use Rattle.std.proofs.Common.{arith, length, string_bytes}
use Rattle.settings_command.specs.ServicesMeaning as spec
use Rattle.settings_command.proofs.Numbered.{one_written}
use Rattle.settings_command.proofs.services_meaning.push_urls.Goals as goal

pub loop-number-preserved : goal.loop-number-preserved
loop-number-preserved c =
    let p = c.args.settings.now in
    let k = c.loop-number.number in
    one_written (spec.machine_line p c.args.services.now) (length p.machines) k (string_bytes c.loop-number.out) _ _ (omega arith)
    (rw c.new.ensures at c.in_ok-push_url.ensures) c.loop-number.invariant
