use Rattle.std.proofs.Common.{ℕ, [], ◌∷◌, List, Ok, Err, refl, sym, subst, ◌∙◌}
use Rattle.gear_packets.specs.Request.{set_client_id}
use Rattle.job_runner.specs.declared.end.EndCause.TheVariants.{Memory}
use Rattle.job_runner.specs.Course.{IsAccepted, Sends}
use Rattle.job_runner.proofs.state.Session.begin.Goals as goal

pub send-requires-clause-accepted : goal.send-requires-clause-accepted
send-requires-clause-accepted g c = subst (λ (t : List ℕ). IsAccepted (set_client_id t)) (sym (c.as_bytes.ensures.value ∙ c.in-Ok.ensures.text)) c.in-Ok.ensures.accepted

pub returns-in_default-clause-begins : goal.returns-in_default-clause-begins
returns-in_default-clause-begins g c = record { named = (g.L.Device.output c.args.self.now.link.now).got; answer = Err Memory; sends = refl; goes_on = (refl, refl) }

pub returns-in-Ok-send-clause-begins : goal.returns-in-Ok-send-clause-begins
returns-in-Ok-send-clause-begins g c =
    let old = (g.L.Device.output c.args.self.now.link.now).got in
    let new = (g.L.Device.output c.send.new.link).got in
    let named = c.as_bytes.ensures.value ∙ c.in-Ok.ensures.text in
    record {
      named = new;
      answer = Ok tt;
      sends = subst (λ (t : List ℕ). Sends old new (set_client_id t ∷ []) (Ok tt)) named c.in-Ok-send.ensures.sends;
      goes_on = c.follow.ensures.follows;
    }

pub returns-clause-begins : goal.returns-clause-begins
returns-clause-begins g c =
    let old = (g.L.Device.output c.args.self.now.link.now).got in
    let new = (g.L.Device.output c.send.new.link).got in
    let named = c.as_bytes.ensures.value ∙ c.in-Ok.ensures.text in
    record {
      named = new;
      answer = Err c.in-Err.cause;
      sends = subst (λ (t : List ℕ). Sends old new (set_client_id t ∷ []) (Err c.in-Err.cause)) named c.in-Err.ensures.sends;
      goes_on = (refl, refl);
    }
