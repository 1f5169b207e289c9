use Rattle.std.proofs.Common.{inl, subst}
use Rattle.size_command.specs.Sizes.{Reports}
use Rattle.size_command.proofs.size.answer.Goals as goal

pub returns-in-Ok : goal.returns-in-Ok
returns-in-Ok g c =
    let made = c.in-Ok.ensures in
    let old = g.S.Device.output c.args.sink.now in
    let new = g.S.Device.output c.report.new.sink in record {
      answers = inl (made.0, made.1, subst (λ farm. Reports c.args.problem.now.settings farm old new c.report.result) made.2 c.report.ensures.reports);
    }
