use Rattle.std.proofs.Common.{◌≡◌, ℕ, ◌<◌, [], ◌∷◌, ◌++◌, List, length, take, sym, ap, subst, ◌∙◌}
use Rattle.std.proofs.lemmas.List.{append-nil}
use Rattle.gear_packets.specs.Request.{encoding}
use Rattle.gear_packets.specs.Requests.{packet_of}
use Rattle.gear_packets.specs.Text.{text_of}
use Rattle.byte_io.specs.Sides.{and_then}
use Rattle.job_runner.proofs.sending.send.Goals as goal

pub returns-clause-sends : goal.returns-clause-sends
returns-clause-sends g c =
    let p = packet_of c.args.request.now in
    let same : c.as_slice.result.now ≡ text_of (p ∷ []) = c.as_slice.ensures.value ∙ c.in-Ok.ensures.encoded ∙ ap (λ (t : List ℕ). t ++ encoding p) c.new-text.ensures.items ∙ sym (append-nil (encoding p)) in
    (c.in-Ok-give_all.ensures.ok.0 ∙ ap (and_then (g.L.Device.output c.args.link.now).got) same, (c.in-Ok.ensures.sent, tt))

pub returns-in_default-give_all-clause-sends : goal.returns-in_default-give_all-clause-sends
returns-in_default-give_all-clause-sends g c =
    let p = packet_of c.args.request.now in
    let count = c.in_default-give_all.field-0.count in
    let same : c.as_slice.result.now ≡ text_of (p ∷ []) = c.as_slice.ensures.value ∙ c.in-Ok.ensures.encoded ∙ ap (λ (t : List ℕ). t ++ encoding p) c.new-text.ensures.items ∙ sym (append-nil (encoding p)) in (
      count,
      subst (λ (t : List ℕ). count < length t) same c.in_default-give_all.ensures.err.1,
      c.in_default-give_all.ensures.err.0 ∙ ap (λ (t : List ℕ). and_then (g.L.Device.output c.args.link.now).got (take count t)) same,
      (c.in-Ok.ensures.sent, tt),
    )
