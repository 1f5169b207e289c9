use Rattle.std.proofs.Common.{ℕ, ◌<◌, List, length, take, Option, sym, ap, subst, ◌∙◌}
use Rattle.std.specs.List.{AllByRecursion}
use Rattle.gear_packets.specs.Request.{IsSent}
use Rattle.gear_packets.specs.Text.{text_of}
use Rattle.byte_io.specs.Sides.{and_then}
use Rattle.worker_state.specs.Registration.{seen_name}
use Rattle.job_runner.specs.Course.{IsAccepted, name_of, obeying}
use Rattle.job_runner.proofs.Names.{order_accepted}
use Rattle.job_runner.proofs.order.write_change.Goals as goal

pub returns-clause-sends : goal.returns-clause-sends
returns-clause-sends g c =
    let named = ap (λ (n : Option (List ℕ)). obeying n (seen_name c.name_of-to.result)) c.name_of-from.ensures.name ∙ ap (λ (n : Option (List ℕ)). obeying (name_of c.args.settings.now.functions c.args.from) n) c.name_of-to.ensures.name in
    let same = c.as_slice.ensures.value ∙ c.in-Ok.ensures.text ∙ ap text_of named in
    (c.in-Ok-give_all.ensures.ok.0 ∙ ap (and_then (g.L.Device.output c.args.link.now).got) same, subst (AllByRecursion IsSent) named c.in-Ok.ensures.each)

pub returns-in_default-give_all-clause-sends : goal.returns-in_default-give_all-clause-sends
returns-in_default-give_all-clause-sends g c =
    let count = c.in_default-give_all.field-0.count in
    let named = ap (λ (n : Option (List ℕ)). obeying n (seen_name c.name_of-to.result)) c.name_of-from.ensures.name ∙ ap (λ (n : Option (List ℕ)). obeying (name_of c.args.settings.now.functions c.args.from) n) c.name_of-to.ensures.name in
    let same = c.as_slice.ensures.value ∙ c.in-Ok.ensures.text ∙ ap text_of named in (
      count,
      subst (λ (t : List ℕ). count < length t) same c.in_default-give_all.ensures.err.1,
      c.in_default-give_all.ensures.err.0 ∙ ap (λ (t : List ℕ). and_then (g.L.Device.output c.args.link.now).got (take count t)) same,
      subst (AllByRecursion IsSent) named c.in-Ok.ensures.each,
    )

pub encode_change-requires : goal.encode_change-requires
encode_change-requires g c =
    let functions = c.args.settings.now.functions in
    let named = ap (λ (n : Option (List ℕ)). obeying n (seen_name c.name_of-to.result)) c.name_of-from.ensures.name ∙ ap (λ (n : Option (List ℕ)). obeying (name_of functions c.args.from) n) c.name_of-to.ensures.name in
    record { accepted = subst (AllByRecursion IsAccepted) (sym named) (order_accepted (name_of functions c.args.from) (name_of functions c.args.to) c.name_of-from.ensures.named c.name_of-to.ensures.named) }
