use Rattle.std.proofs.Common.{◌∙◌, ap, inl}
use Rattle.plan_commands.specs.Fault.{answered}
use Rattle.serve_command.proofs.serving.serve_farm.Goals as goal

pub returns-in-Ok : goal.returns-in-Ok
returns-in-Ok g c =
    let run = c.in-Ok.ensures.run in
    record {
      serves = inl ((run.0, run.1, run.2), c.in-Ok.ended.outlook, c.answered.ensures ∙ ap answered c.status.ensures);
    }
