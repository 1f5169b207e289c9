use Rattle.std.proofs.Common.{inl, subst, ap, ◌∙◌}
use Rattle.plan_commands.specs.Ending.{Delivers}
use Rattle.plan_commands.specs.Fault.{answered}
use Rattle.run_command.specs.Run.{run_text, status_after}
use Rattle.run_command.proofs.running.run_source.Goals as goal

pub returns-in-Ok : goal.returns-in-Ok
returns-in-Ok g c =
    let told = c.in-Ok.told in
    let old = g.S.Device.output c.args.sink.now in
    let new = g.S.Device.output c.deliver.new.sink in
    let done = answered (status_after told.ended.lines.items) in
    let text = c.as_bytes.ensures.value ∙ c.in-Ok.ensures.text in
    let exit = c.answered-done.ensures ∙ ap answered (c.status_after.ensures ∙ ap status_after c.deref.ensures.value) in
    let written = subst (λ t. Delivers t c.answered-done.result old new c.deliver.result) text c.deliver.ensures.delivers in record {
      supervises = inl (
        told.ended,
        c.in-Ok.ensures.run,
        c.in-Ok.ensures.lines,
        subst (λ e. Delivers (run_text told.ended) e old new c.deliver.result) exit written,
      );
    }
