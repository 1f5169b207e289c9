use Rattle.std.proofs.Common.{◌∙◌, ◌+◌, ap, arith, length-append, length-drop, subst, sym, take, ℕ}
use Rattle.std.proofs.lemmas.List.{take_all}
use Rattle.byte_io.specs.Sides.{HasText, Input, Output, and_then}
use Rattle.byte_io.proofs.Devices.{rest_taken}
use Rattle.http_jobs.specs.declared.answers.Progress.TheVariants.{Partway}
use Rattle.http_jobs.proofs.Meanwhile.{after_looks, late_to, prefix_after, read_later, read_to, sent_after}
use Rattle.http_jobs.proofs.answers.send_rest.Goals as goal

pub returns-in-Err-Write-clause-read : goal.returns-in-Err-Write-clause-read
returns-in-Err-Write-clause-read g c limits first seen h =
    let so_far = c.loop-turn.invariant.read limits first seen h in
    let why = rw c.in-Err-Write.field-0-is at c.in-Err-Write.ensures.why in (
      _,
      read_later limits c.args.bounds first (g.L.Device.input c.loop-turn.link) (g.L.Device.input c.send_what_fits.new.link) (g.C.Clock.shown c.loop-turn.clock) (g.C.Clock.shown c.send_what_fits.new.clock) why.0
          c.send_what_fits.ensures.input why.1 so_far.0 c.loop-turn.reader so_far.1 why.3.1,
    )

pub returns-in-Err-Write-clause-went : goal.returns-in-Err-Write-clause-went
returns-in-Err-Write-clause-went g c =
    let why = rw c.in-Err-Write.field-0-is at c.in-Err-Write.ensures.why in
    let gone = c.loop-turn.invariant.gone in
    let more = c.send_what_fits.ensures.prefix in (
      (c.loop-turn.count + more.0, prefix_after (g.L.Device.output c.args.link.now) (g.L.Device.output c.loop-turn.link) (g.L.Device.output c.send_what_fits.new.link) c.args.rest.now c.loop-turn.count gone more.0 more.1),
      why.3.0 ∙ ap (λ (n : ℕ). n + 1) gone.1,
    )

pub returns-in-Err-Write-clause-prefix : goal.returns-in-Err-Write-clause-prefix
returns-in-Err-Write-clause-prefix g c =
    let more = c.send_what_fits.ensures.prefix in
    (c.loop-turn.count + more.0, prefix_after (g.L.Device.output c.args.link.now) (g.L.Device.output c.loop-turn.link) (g.L.Device.output c.send_what_fits.new.link) c.args.rest.now c.loop-turn.count c.loop-turn.invariant.gone more.0 more.1)

pub returns-in-Err-Late-clause-read : goal.returns-in-Err-Late-clause-read
returns-in-Err-Late-clause-read g c limits first seen h =
    let so_far = c.loop-turn.invariant.read limits first seen h in
    let why = rw c.in-Err-Late.field-0-is at c.in-Err-Late.ensures.why in
    late_to limits c.args.bounds first (g.L.Device.input c.loop-turn.link) (g.L.Device.input c.send_what_fits.new.link) (g.C.Clock.shown c.loop-turn.clock) (g.C.Clock.shown c.send_what_fits.new.clock) why.0
    c.send_what_fits.ensures.input why.1 (Partway c.loop-turn.reader) (so_far.0, so_far.1) why.3

pub returns-in-Err-Late-clause-prefix : goal.returns-in-Err-Late-clause-prefix
returns-in-Err-Late-clause-prefix g c =
    let more = c.send_what_fits.ensures.prefix in
    (c.loop-turn.count + more.0, prefix_after (g.L.Device.output c.args.link.now) (g.L.Device.output c.loop-turn.link) (g.L.Device.output c.send_what_fits.new.link) c.args.rest.now c.loop-turn.count c.loop-turn.invariant.gone more.0 more.1)

pub returns-then-count-rest-clause-read : goal.returns-then-count-rest-clause-read
returns-then-count-rest-clause-read g c limits first seen h =
    let so_far = c.loop-turn.invariant.read limits first seen h in
    let why = c.in-Ok.ensures.why in (
      _,
      read_later limits c.args.bounds first (g.L.Device.input c.loop-turn.link) (g.L.Device.input c.send_what_fits.new.link) (g.C.Clock.shown c.loop-turn.clock) (g.C.Clock.shown c.send_what_fits.new.clock) why.0
          c.send_what_fits.ensures.input why.1 so_far.0 c.loop-turn.reader so_far.1 why.2,
    )

pub returns-then-count-rest-clause-went : goal.returns-then-count-rest-clause-went
returns-then-count-rest-clause-went g c =
    let gone = c.loop-turn.invariant.gone in
    let sent = c.in-Ok.ensures.sent in
    let old = g.L.Device.output c.args.link.now in (
      prefix_after old (g.L.Device.output c.loop-turn.link) (g.L.Device.output c.send_what_fits.new.link) c.args.rest.now c.loop-turn.count gone c.in-Ok.given sent.0
          ∙ ap (and_then old.got) (take_all (c.loop-turn.count + c.in-Ok.given) c.args.rest.now (omega (arith, c.if-count-rest.true))),
      sent.1 ∙ gone.1,
    )

pub returns-then-count-rest-clause-prefix : goal.returns-then-count-rest-clause-prefix
returns-then-count-rest-clause-prefix g c =
    let more = c.send_what_fits.ensures.prefix in
    (c.loop-turn.count + more.0, prefix_after (g.L.Device.output c.args.link.now) (g.L.Device.output c.loop-turn.link) (g.L.Device.output c.send_what_fits.new.link) c.args.rest.now c.loop-turn.count c.loop-turn.invariant.gone more.0 more.1)

pub returns-in-Ok-read_on-clause-read : goal.returns-in-Ok-read_on-clause-read
returns-in-Ok-read_on-clause-read g c limits first seen h =
    let so_far = c.loop-turn.invariant.read limits first seen h in
    let why = c.in-Ok.ensures.why in
    let shown = g.C.Clock.shown c.send_what_fits.new.clock in
    let before = read_later limits c.args.bounds first (g.L.Device.input c.loop-turn.link) (g.L.Device.input c.limit_reads.new.self) (g.C.Clock.shown c.loop-turn.clock) shown why.0
    (c.limit_reads.ensures.input ∙ c.send_what_fits.ensures.input) why.1 so_far.0 c.loop-turn.reader so_far.1 why.2 in
    c.send_last.ensures.read limits first (read_to limits c.args.bounds first _ _ c.in-Ok-read_on.read (c.in-Ok-read_on.ensures.read limits first _ shown before))

pub returns-in-Ok-read_on-clause-went : goal.returns-in-Ok-read_on-clause-went
returns-in-Ok-read_on-clause-went g c =
    let out = c.read_on.ensures.output ∙ c.limit_reads.ensures.output in
    let old = g.L.Device.output c.args.link.now in
    let mid = g.L.Device.output c.send_what_fits.new.link in
    let gone = c.loop-turn.invariant.gone in
    let sent = c.in-Ok.ensures.sent in
    let before : HasText old (take (c.loop-turn.count + c.in-Ok.given) c.args.rest.now) mid = (prefix_after old (g.L.Device.output c.loop-turn.link) mid c.args.rest.now c.loop-turn.count gone c.in-Ok.given sent.0, sent.1 ∙ gone.1) in
    sent_after c.send_last.result old (g.L.Device.output c.read_on.new.link) (g.L.Device.output c.send_last.new.link) c.args.rest.now (c.loop-turn.count + c.in-Ok.given)
    (subst (λ (o : Output). HasText old (take (c.loop-turn.count + c.in-Ok.given) c.args.rest.now) o) (sym out) before) c.send_last.ensures.went

pub returns-in-Ok-read_on-clause-prefix : goal.returns-in-Ok-read_on-clause-prefix
returns-in-Ok-read_on-clause-prefix g c =
    let out = c.read_on.ensures.output ∙ c.limit_reads.ensures.output in
    let old = g.L.Device.output c.args.link.now in
    let mid = g.L.Device.output c.send_what_fits.new.link in
    let gone = c.loop-turn.invariant.gone in
    let sent = c.in-Ok.ensures.sent in
    let more = c.send_last.ensures.prefix in
    let before : HasText old (take (c.loop-turn.count + c.in-Ok.given) c.args.rest.now) mid = (prefix_after old (g.L.Device.output c.loop-turn.link) mid c.args.rest.now c.loop-turn.count gone c.in-Ok.given sent.0, sent.1 ∙ gone.1) in (
      (c.loop-turn.count + c.in-Ok.given) + more.0,
      prefix_after old (g.L.Device.output c.read_on.new.link) (g.L.Device.output c.send_last.new.link) c.args.rest.now (c.loop-turn.count + c.in-Ok.given)
          (subst (λ (o : Output). HasText old (take (c.loop-turn.count + c.in-Ok.given) c.args.rest.now) o) (sym out) before) more.0 more.1,
    )

pub returns-in-Err-clause-read : goal.returns-in-Err-clause-read
returns-in-Err-clause-read g c limits first seen h =
    let so_far = c.loop-turn.invariant.read limits first seen h in
    let why = c.in-Ok.ensures.why in
    let shown = g.C.Clock.shown c.send_what_fits.new.clock in
    c.in-Err.ensures.read limits first _ shown
    (read_later limits c.args.bounds first (g.L.Device.input c.loop-turn.link) (g.L.Device.input c.limit_reads.new.self) (g.C.Clock.shown c.loop-turn.clock) shown why.0
    (c.limit_reads.ensures.input ∙ c.send_what_fits.ensures.input) why.1 so_far.0 c.loop-turn.reader so_far.1 why.2)

pub returns-in-Err-clause-prefix : goal.returns-in-Err-clause-prefix
returns-in-Err-clause-prefix g c =
    let out = c.read_on.ensures.output ∙ c.limit_reads.ensures.output in
    let sent = c.in-Ok.ensures.sent in
    (c.loop-turn.count + c.in-Ok.given, ap (λ (o : Output). o.got) out ∙ prefix_after (g.L.Device.output c.args.link.now) (g.L.Device.output c.loop-turn.link) (g.L.Device.output c.send_what_fits.new.link) c.args.rest.now c.loop-turn.count c.loop-turn.invariant.gone c.in-Ok.given sent.0)

pub loop-turn-preserved : goal.loop-turn-preserved
loop-turn-preserved g c =
    let out = c.read_on.ensures.output ∙ c.limit_reads.ensures.output in
    let same = c.limit_reads.ensures.input ∙ c.send_what_fits.ensures.input in
    let old = g.L.Device.output c.args.link.now in
    let mid = g.L.Device.output c.send_what_fits.new.link in
    let gone = c.loop-turn.invariant.gone in
    let sent = c.in-Ok.ensures.sent in
    let within = rw (rest_taken c.loop-turn.count c.args.rest.now) at c.in-Ok.ensures.within in
    let why = c.in-Ok.ensures.why in
    let shown = g.C.Clock.shown c.send_what_fits.new.clock in
    let reads = rw c.in-Ok-Partway.field-0-is at c.in-Ok-Partway.ensures.read in
    let before : HasText old (take (c.loop-turn.count + c.in-Ok.given) c.args.rest.now) mid = (prefix_after old (g.L.Device.output c.loop-turn.link) mid c.args.rest.now c.loop-turn.count gone c.in-Ok.given sent.0, sent.1 ∙ gone.1) in
    record {
      reading = rw c.in-Ok-Partway.field-0-is at c.in-Ok-Partway.ensures.reading;
      unfailed = c.in-Ok-Partway.ensures.failures ∙ ap (λ (i : Input). i.failures) same ∙ c.loop-turn.invariant.unfailed;
      gone = subst (λ (o : Output). HasText old (take (c.loop-turn.count + c.in-Ok.given) c.args.rest.now) o) (sym out) before;
      within = omega (arith, within, c.loop-turn.invariant.within, length-drop c.loop-turn.count c.args.rest.now);
      read = λ limits first seen h.
          let so_far = c.loop-turn.invariant.read limits first seen h in
          let on = reads limits first (after_looks so_far.0 why.0) shown
          (read_later limits c.args.bounds first (g.L.Device.input c.loop-turn.link) (g.L.Device.input c.limit_reads.new.self) (g.C.Clock.shown c.loop-turn.clock) shown why.0 same why.1 so_far.0 c.loop-turn.reader so_far.1 why.2) in
          (_, on.3, omega (arith, so_far.2, on.2, length-append so_far.0.read on.0));
    }
