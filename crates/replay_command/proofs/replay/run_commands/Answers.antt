use Rattle.std.proofs.Common.{inl, string_bytes, subst}
use Rattle.plan_commands.specs.Ending.{Delivers}
use Rattle.replay_command.proofs.replay.run_commands.Goals as goal

pub returns-in-Ok : goal.returns-in-Ok
returns-in-Ok g c =
    let told = c.in-Ok.ensures in
    let old = g.S.Device.output c.args.sink.now in
    let new = g.S.Device.output c.deliver.new.sink in
    let written = subst (λ text. Delivers text c.exit_of.result old new c.deliver.result) c.as_bytes.ensures.value c.deliver.ensures.delivers in record {
      replays = (
        told.0,
        told.1,
        inl (
          string_bytes c.in-Ok.outcome.output,
          c.in-Ok.outcome.end,
          told.2,
          subst (λ done. Delivers (string_bytes c.in-Ok.outcome.output) done old new c.deliver.result) c.exit_of.ensures written,
        ),
      );
    }
