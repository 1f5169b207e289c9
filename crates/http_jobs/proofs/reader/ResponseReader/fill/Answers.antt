use Rattle.std.proofs.Common.{◌≡◌, ◌++◌, ◌∙◌, [], Result, Ok, sym, ap, subst}
use Rattle.std.proofs.lemmas.List.{append-nil}
use Rattle.byte_io.specs.declared.device.Took.{Took}
use Rattle.byte_io.specs.declared.device.Took.TheVariants.{Ended}
use Rattle.byte_io.specs.declared.device.DeviceFault.{DeviceFault}
use Rattle.byte_io.specs.Device.{taken, lull_of, is_end}
use Rattle.http_jobs.specs.Reading.{Closed}
use Rattle.http_jobs.specs.Reasons.{came_of}
use Rattle.http_jobs.specs.Response.{HoldsNoAnswer}
use Rattle.http_jobs.proofs.reader.ResponseReader.fill.Goals as goal

pub returns-else-close-clause-fills : goal.returns-else-close-clause-fills
returns-else-close-clause-fills g c =
    let into = c.take.new.buffer in
    let is : c.take.result ≡ Ok Ended = c.in-Ok-Ended.is ∙ ap Ok c.in-Ok-Ended.field-0-is in
    let none : taken into c.take.result ≡ [] = ap (λ (r : Result Took DeviceFault). taken into r) is in (
      taken into c.take.result,
      lull_of c.take.result,
      c.take.ensures.bytes,
      c.take.ensures.pauses,
      λ e. cc,
      λ read same. c.close.ensures.came ∙ same ∙ ap came_of (sym (append-nil read) ∙ ap (λ x. read ++ x) (sym none)),
      λ limits read h w.
          let cut : HoldsNoAnswer limits read = subst (λ b. Closed limits read c.close.new.self b) c.if-close.false (c.close.ensures.closes limits read h w) in (
            c.take.ensures.ends ∙ ap (λ (r : Result Took DeviceFault). is_end r) is,
            subst (λ x. HoldsNoAnswer limits x) (sym (append-nil read) ∙ ap (λ x. read ++ x) (sym none)) cut,
          ),
    )
