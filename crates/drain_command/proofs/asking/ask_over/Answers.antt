use Rattle.job_runner.specs.Run.{seen_link}
use Rattle.drain_command.proofs.Asked.{can_be_sent, comes}
use Rattle.drain_command.proofs.asking.ask_over.Goals as goal

pub ask-requires-clause-sendable : goal.ask-requires-clause-sendable
ask-requires-clause-sendable g c = can_be_sent

pub returns : goal.returns
returns g c =
    let seen = seen_link g.L.Device.input g.L.Device.output in
    let got = c.ask.ensures.answered in
    let part = c.ask.ensures.prefix in
    comes (seen c.args.link.now) (seen c.ask.new.link) got.0 c.moment.result c.requires got.1.0 part.0 part.1 c.ask.result c.totals_of.result
    c.ask.ensures.request c.totals_of.ensures got.3
