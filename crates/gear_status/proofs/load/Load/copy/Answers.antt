use Rattle.std.proofs.Common.{◌∙◌}
use Rattle.gear_status.proofs.Lines.{lines_view-clone}
use Rattle.gear_status.proofs.load.Load.copy.Goals as goal

pub returns : goal.returns
returns c = lines_view-clone c.self.inside.lines.entries c.in_ok-clone.field-0.entries c.in_ok-clone.ensures.cases ∙ c.self.view_is
