use Rattle.std.proofs.Common.{◌∙◌, ap, take, List, ℕ}
use Rattle.byte_io.specs.Sides.{and_then}
use Rattle.http_jobs.specs.declared.answers.Progress.TheVariants.{Partway}
use Rattle.http_jobs.proofs.Meanwhile.{after_looks, late_to, prefix_first, prefix_then, read_later, sent_then}
use Rattle.http_jobs.proofs.answers.send_request.Goals as goal

pub returns-in-Ok-clause-read : goal.returns-in-Ok-clause-read
returns-in-Ok-clause-read g c limits first seen h =
    let why = c.in-Ok.ensures.why in
    c.send_meanwhile.ensures.read limits first (after_looks seen why.0)
    (read_later limits c.args.bounds first (g.L.Device.input c.args.link.now) (g.L.Device.input c.send.new.link) (g.C.Clock.shown c.args.clock.now) (g.C.Clock.shown c.send.new.clock) why.0
    c.send.ensures.input why.1 seen c.args.reader h why.2)

pub returns-in-Ok-clause-went : goal.returns-in-Ok-clause-went
returns-in-Ok-clause-went g c =
    let old = g.L.Device.output c.args.link.now in
    let text = c.args.request.now.text.items in
    let sent = c.in-Ok.ensures.sent in
    sent_then c.send_meanwhile.result old (g.L.Device.output c.send.new.link) (g.L.Device.output c.send_meanwhile.new.link) text c.args.request.now.rest.now
    (sent.0 ∙ ap (and_then old.got) c.as_slice.ensures.value, sent.1) c.send_meanwhile.ensures.went

pub returns-in-Ok-clause-prefix : goal.returns-in-Ok-clause-prefix
returns-in-Ok-clause-prefix g c =
    let old = g.L.Device.output c.args.link.now in
    let text = c.args.request.now.text.items in
    let sent = c.in-Ok.ensures.sent in
    let more = c.send_meanwhile.ensures.prefix in (
      _,
      prefix_then old (g.L.Device.output c.send.new.link) (g.L.Device.output c.send_meanwhile.new.link) text c.args.request.now.rest.now
          (sent.0 ∙ ap (and_then old.got) c.as_slice.ensures.value, sent.1) more.0 more.1,
    )

pub returns-in-Err-Write-clause-read : goal.returns-in-Err-Write-clause-read
returns-in-Err-Write-clause-read g c limits first seen h =
    let why = rw c.in-Err-Write.field-0-is at c.in-Err-Write.ensures.why in (
      _,
      read_later limits c.args.bounds first (g.L.Device.input c.args.link.now) (g.L.Device.input c.send.new.link) (g.C.Clock.shown c.args.clock.now) (g.C.Clock.shown c.send.new.clock) why.0
          c.send.ensures.input why.1 seen c.args.reader h why.3.1,
    )

pub returns-in-Err-Write-clause-went : goal.returns-in-Err-Write-clause-went
returns-in-Err-Write-clause-went g c =
    let why = rw c.in-Err-Write.field-0-is at c.in-Err-Write.ensures.why in
    let old = g.L.Device.output c.args.link.now in
    let p = c.send.ensures.prefix in (
      prefix_first old (g.L.Device.output c.send.new.link) c.args.request.now.text.items c.args.request.now.rest.now p.0
          (p.1 ∙ ap (λ (t : List ℕ). and_then old.got (take p.0 t)) c.as_slice.ensures.value),
      why.3.0,
    )

pub returns-in-Err-Write-clause-prefix : goal.returns-in-Err-Write-clause-prefix
returns-in-Err-Write-clause-prefix g c =
    let old = g.L.Device.output c.args.link.now in
    let p = c.send.ensures.prefix in
    prefix_first old (g.L.Device.output c.send.new.link) c.args.request.now.text.items c.args.request.now.rest.now p.0
    (p.1 ∙ ap (λ (t : List ℕ). and_then old.got (take p.0 t)) c.as_slice.ensures.value)

pub returns-in-Err-Late-clause-read : goal.returns-in-Err-Late-clause-read
returns-in-Err-Late-clause-read g c limits first seen h =
    let why = rw c.in-Err-Late.field-0-is at c.in-Err-Late.ensures.why in
    late_to limits c.args.bounds first (g.L.Device.input c.args.link.now) (g.L.Device.input c.send.new.link) (g.C.Clock.shown c.args.clock.now) (g.C.Clock.shown c.send.new.clock) why.0
    c.send.ensures.input why.1 (Partway c.args.reader) (seen, h) why.3

pub returns-in-Err-Late-clause-prefix : goal.returns-in-Err-Late-clause-prefix
returns-in-Err-Late-clause-prefix g c =
    let old = g.L.Device.output c.args.link.now in
    let p = c.send.ensures.prefix in
    prefix_first old (g.L.Device.output c.send.new.link) c.args.request.now.text.items c.args.request.now.rest.now p.0
    (p.1 ∙ ap (λ (t : List ℕ). and_then old.got (take p.0 t)) c.as_slice.ensures.value)
