use Rattle.std.proofs.Common.{sym, ◌∙◌}
use Rattle.job_runner.specs.Run.{EndTold, Link}
use Rattle.job_runner.specs.Loop.{duty_of}
use Rattle.job_runner.proofs.Ending.{promised_kept, promised_lost}
use Rattle.job_runner.proofs.session.serve_worker.Goals as goal

pub returns-in-Some : goal.returns-in-Some
returns-in-Some g c =
    let duty = duty_of c.args.place.settings.now c.args.pass in
    let old : Link = record { input = g.L.Device.input c.args.link.now; output = g.L.Device.output c.args.link.now } in
    let new : Link = record { input = g.L.Device.input c.session_over-end.new.link; output = g.L.Device.output c.session_over-end.new.link } in
    let ran = c.session_over-end.ensures.ran in
    let kept = promised_lost c.says_its_packets.ensures duty (EndTold g.J.Jobs.tells g.J.Jobs.fails g.J.Jobs.prepares c.args.jobs.now c.session_over-end.new.jobs) ran.0 old.output.got old new (g.P.PoolPort.book c.session_over-end.new.port) (g.P.PoolPort.book c.lose.new.self) c.session_over-end.result c.in-Some.loss
    ran.2 c.session_over-end.ensures.faults c.session_over-end.ensures.losses (sym c.loss.ensures.exact ∙ c.in-Some.is) c.lose.ensures in
    record { served = (ran.0, kept.0, kept.1, ran.1, kept.2, kept.3, kept.4); turns = c.session_over-end.ensures.turns }

pub returns-in-None : goal.returns-in-None
returns-in-None g c =
    let duty = duty_of c.args.place.settings.now c.args.pass in
    let old : Link = record { input = g.L.Device.input c.args.link.now; output = g.L.Device.output c.args.link.now } in
    let new : Link = record { input = g.L.Device.input c.session_over-end.new.link; output = g.L.Device.output c.session_over-end.new.link } in
    let ran = c.session_over-end.ensures.ran in
    let kept = promised_kept c.says_its_packets.ensures duty (EndTold g.J.Jobs.tells g.J.Jobs.fails g.J.Jobs.prepares c.args.jobs.now c.session_over-end.new.jobs) ran.0 old.output.got old new (g.P.PoolPort.book c.session_over-end.new.port) c.session_over-end.result
    ran.2 c.session_over-end.ensures.faults c.session_over-end.ensures.losses (sym c.loss.ensures.exact ∙ c.in-None.is) in
    record { served = (ran.0, kept.0, kept.1, ran.1, kept.2, kept.3, kept.4); turns = c.session_over-end.ensures.turns }
