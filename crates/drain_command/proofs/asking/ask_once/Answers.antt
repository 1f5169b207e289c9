use Rattle.std.proofs.Common.{◌≡◌, ◌∙◌, [], ◌∷◌, ap, subst, sym}
use Rattle.job_runner.specs.Run.{seen_link}
use Rattle.http_jobs.specs.Serving.{closed, opened, then_called}
use Rattle.drain_command.specs.Drain.{ComesOver}
use Rattle.drain_command.proofs.Asked.{Calls, called_twice, once, only}
use Rattle.drain_command.proofs.asking.ask_once.Goals as goal

pub returns : goal.returns
returns g c =
    let input = g.L.Device.input in
    let output = g.L.Device.output in
    let after = seen_link input output c.of-left.result.value in
    let same : c.of-left.result.value ≡ c.ask_over-came.new.link = c.of-left.ensures in (
      only after,
      c.hung_up.ensures.calls ∙ ap (λ (o : Calls). then_called o (closed after ∷ [])) c.in-Ok.ensures.calls ∙ called_twice (g.D.Dial.calls c.args.dial.now) (opened ∷ []) (closed after ∷ []),
      once after c.ask_over-came.result (subst (λ l. ComesOver input output l c.ask_over-came.result) (sym same) c.ask_over-came.ensures),
    )
