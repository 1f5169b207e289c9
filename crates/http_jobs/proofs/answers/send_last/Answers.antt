use Rattle.std.proofs.Common.{subst, sym}
use Rattle.http_jobs.specs.declared.fault.Came.{Came}
use Rattle.http_jobs.specs.declared.fault.Unanswered.TheVariants as unanswered
use Rattle.http_jobs.specs.declared.fault.Unserved.TheVariants as reason
use Rattle.http_jobs.specs.Meanwhile.{HasNone, moment}
use Rattle.http_jobs.proofs.Meanwhile.{late_to, read_to_later}
use Rattle.http_jobs.proofs.answers.send_last.Goals as goal

pub returns-in-Ok-clause-read : goal.returns-in-Ok-clause-read
returns-in-Ok-clause-read g c limits first h =
    let why = c.in-Ok.ensures.why in
    read_to_later limits c.args.bounds first (g.L.Device.input c.args.link.now) (g.L.Device.input c.send.new.link) (g.C.Clock.shown c.args.clock.now) (g.C.Clock.shown c.send.new.clock) why.0
    c.send.ensures.input why.1 c.args.progress h why.2

pub returns-in-Err-Write-clause-read : goal.returns-in-Err-Write-clause-read
returns-in-Err-Write-clause-read g c limits first h =
    let why = rw c.in-Err-Write.field-0-is at c.in-Err-Write.ensures.why in
    read_to_later limits c.args.bounds first (g.L.Device.input c.args.link.now) (g.L.Device.input c.send.new.link) (g.C.Clock.shown c.args.clock.now) (g.C.Clock.shown c.send.new.clock) why.0
    c.send.ensures.input why.1 c.args.progress h why.3.1

pub returns-in-Err-Late-clause-read : goal.returns-in-Err-Late-clause-read
returns-in-Err-Late-clause-read g c limits first h =
    let why = rw c.in-Err-Late.field-0-is at c.in-Err-Late.ensures.why in
    let later = moment (g.L.Device.input c.send.new.link) (g.C.Clock.shown c.send.new.clock) in
    subst (λ (k : Came). HasNone limits c.args.bounds first later (unanswered.Unserved reason.Late k)) (sym c.came_in.ensures)
    (late_to limits c.args.bounds first (g.L.Device.input c.args.link.now) (g.L.Device.input c.send.new.link) (g.C.Clock.shown c.args.clock.now) (g.C.Clock.shown c.send.new.clock) why.0
    c.send.ensures.input why.1 c.args.progress h why.3)
