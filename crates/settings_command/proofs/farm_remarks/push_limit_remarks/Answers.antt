use Rattle.std.proofs.Common.{refl}
use Rattle.settings_command.specs.Remarks.{limit_remarks}
use Rattle.settings_command.proofs.farm_remarks.push_limit_remarks.Goals as goal

pub returns : goal.returns
returns c =
    let short = c.in_ok-short.short in
    (limit_remarks c.args.settings.now short, (short, c.in_ok-short.ensures, refl), c.in_ok-push_limits.ensures)
