use Rattle.std.proofs.Common.{ap, ◌∙◌}
use Rattle.plan_commands.specs.Fault.{refused}
use Rattle.plan_commands.proofs.Written.{unwritten}
use Rattle.plan_commands.proofs.plan.report.Goals as goal

pub returns : goal.returns
returns g c = record {
  reports = unwritten c.args.problem.now c.in-Ok.answer (g.S.Device.output c.args.sink.now) (g.S.Device.output c.write.new.sink)
      c.refused-in-Err-write.result c.in-Err-write.error c.in-Ok.ensures c.in-Err-write.ensures.written
      (c.refused-in-Err-write.ensures ∙ ap refused c.from.ensures);
}
