use Rattle.std.proofs.Common.{Ok, Err, refl}
use Rattle.gear_packets.specs.Reading.{job_of}
use Rattle.job_runner.specs.Acting.{moment, tellings_of}
use Rattle.job_runner.proofs.Telling.{told_and_prepared, told_so, port_serves}
use Rattle.job_runner.proofs.state.Session.serve_job.Goals as goal

pub returns-in-Err-clause-serves : goal.returns-in-Err-clause-serves
returns-in-Err-clause-serves g c =
    let state = c.answer.new.self.state in
    let a = c.in-Err.ensures.answers in (
      a.0,
      a.1,
      record {
        answered = moment state (g.L.Device.output c.answer.new.self.link.now).got (g.P.PoolPort.book c.answer.new.self.port.now);
        answer = Err c.in-Err.cause;
        answers = a.2;
        registered = c.answer.ensures.registered;
        orders = c.in-Err.ensures.orders;
        goes_on = (refl, refl);
      },
    )

pub returns-clause-serves : goal.returns-clause-serves
returns-clause-serves g c =
    let state = c.answer.new.self.state in
    let got = (g.L.Device.output c.answer.new.self.link.now).got in
    let a = c.in-Ok.ensures.answers in
    let since = tellings_of (job_of c.args.job) a.0 in
    let follow = c.prepare_and_follow in (
      a.0,
      told_so g.J.Jobs.tells g.J.Jobs.fails g.J.Jobs.prepares c.args.self.now.jobs.now follow.new.self.jobs.now since follow.result (port_serves c.args.worker.now.pass.now.generation (g.P.PoolPort.book follow.new.self.port.now) follow.result follow.ensures.reason)
          (told_and_prepared g.J.Jobs.tells g.J.Jobs.prepares c.args.self.now.jobs.now c.answer.new.self.jobs.now follow.new.self.jobs.now since a.1 follow.ensures.ready.jobs),
      record {
        answered = moment state got (g.P.PoolPort.book c.answer.new.self.port.now);
        answer = Ok tt;
        answers = a.2;
        registered = c.answer.ensures.registered;
        orders = c.in-Ok.ensures.orders;
        goes_on = follow.ensures.follows;
      },
    )
