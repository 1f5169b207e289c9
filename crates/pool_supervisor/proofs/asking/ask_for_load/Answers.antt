use Rattle.std.proofs.Common.{◌≡◌, [], ◌∷◌, refl, subst, inr}
use Rattle.job_runner.specs.Run.{seen_link}
use Rattle.pool_supervisor.specs.Dials.{opened, closed, then_called}
use Rattle.pool_supervisor.proofs.Called.{called_both}
use Rattle.pool_supervisor.proofs.asking.ask_for_load.Goals as goal

-- a link was opened, asked and closed
pub returns : goal.returns
returns g c =
    let seen = seen_link g.L.Device.input g.L.Device.output in
    let before = g.Y.Dial.calls c.args.dial.now in
    let between = g.Y.Dial.calls c.dial_for_status.new.self in
    let now = g.Y.Dial.calls c.hung_up.new.self in
    let last = seen c.ask-answer.result.1 in
    let up = subst (λ v. now ≡ then_called between (closed (seen v) ∷ [])) c.of-left.ensures c.hung_up.ensures.calls in
    record {
      asked = opened ∷ closed last ∷ [];
      calls = called_both before between now (opened ∷ []) (closed last ∷ []) c.in-Some.ensures.calls up;
      answers = inr (record { first = seen c.in-Some.link; last = last; new = c.in-Some.ensures.fresh; asked = c.ask-answer.ensures; calls_are = refl });
    }
