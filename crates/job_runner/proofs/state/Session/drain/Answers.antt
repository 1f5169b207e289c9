use Rattle.std.proofs.Common.{[], ◌∷◌, ◌++◌, inl, refl, sym, ap, subst, ◌∙◌}
use Rattle.gear_packets.specs.Reading.{message_of, fault_of}
use Rattle.gear_packets.specs.Text.{Reading}
use Rattle.job_runner.specs.declared.end.EndCause.TheVariants.{BadPacket}
use Rattle.job_runner.specs.Told.{AreTold}
use Rattle.job_runner.specs.Run.{EndTold}
use Rattle.job_runner.specs.Loop.{duty_in, session_in, HasServed}
use Rattle.job_runner.proofs.Telling.{told_on, end_told_on}
use Rattle.job_runner.proofs.Turning.{heard_next, says_after, tally_room, port_room, reason_next, serving_halts, broken_says}
use Rattle.job_runner.proofs.Parts.{same_parts}
use Rattle.job_runner.specs.Acting.{moment, asked_by, told_at}
use Rattle.job_runner.proofs.Paths.{act_on, act_ended}
use Rattle.job_runner.proofs.state.Session.drain.Goals as goal

pub act-requires-clause-tally : goal.act-requires-clause-tally
act-requires-clause-tally g c =
    let w = c.requires.serving in
    tally_room (session_in c.args.worker.now w.0.before w.0.read) (AreTold g.J.Jobs.tells g.J.Jobs.prepares w.0.first c.loop-message.self.jobs.now) _ _ c.loop-message.self.state _ (c.loop-message.invariant.serving w.0 w.2) w.1

pub act-requires-clause-port : goal.act-requires-clause-port
act-requires-clause-port g c =
    let w = c.requires.serving in
    port_room (session_in c.args.worker.now w.0.before w.0.read) (AreTold g.J.Jobs.tells g.J.Jobs.prepares w.0.first c.loop-message.self.jobs.now) _ _ c.loop-message.self.state _ (c.loop-message.invariant.serving w.0 w.2) w.1

pub returns-in-Err-clause-leaves : goal.returns-in-Err-clause-leaves
returns-in-Err-clause-leaves g c = λ start stands.
    let st = c.loop-message.invariant.serving start stands in
    let m = message_of c.in-Some.message in
    let asked = asked_by m c.loop-message.self.state.phase in
    let acted = c.in-Err.ensures.does in
    record {
      told = st.told ++ told_at asked acted.0;
      ran = end_told_on g.J.Jobs.tells g.J.Jobs.fails g.J.Jobs.prepares start.first c.loop-message.self.jobs.now c.act.new.self.jobs.now c.in-Err.cause st.told (told_at asked acted.0) st.ran acted.1;
      ended = act_ended c.args.worker.now start.before start.read m asked acted.0
          (moment c.loop-message.self.state (g.L.Device.output c.loop-message.self.link.now).got (g.P.PoolPort.book c.loop-message.self.port.now)) (moment c.act.new.self.state (g.L.Device.output c.act.new.self.link.now).got (g.P.PoolPort.book c.act.new.self.port.now))
          st.given _ st.told c.in-Err.cause refl acted.2 st.went (says_after start.read st.given m _ _ st.heard c.in-Some.ensures.given);
    }

pub returns-in-Err-clause-reason : goal.returns-in-Err-clause-reason
returns-in-Err-clause-reason g c = λ start stands.
    let st = c.loop-message.invariant.serving start stands in
    reason_next (duty_in c.args.worker.now) (AreTold g.J.Jobs.tells g.J.Jobs.prepares start.first c.loop-message.self.jobs.now) start.before start.read _ (message_of c.in-Some.message) _ _ c.loop-message.self.state c.act.new.self.state.tally (g.P.PoolPort.book c.loop-message.self.port.now) (g.P.PoolPort.book c.act.new.self.port.now) c.in-Err.cause st c.in-Some.ensures.given c.in-Err.ensures.reason

pub loop-message-preserved : goal.loop-message-preserved
loop-message-preserved g c =
    let m = message_of c.in-Some.message in
    let asked = asked_by m c.loop-message.self.state.phase in
    let acted = c.in-Ok.ensures.does in
    record {
      serving = λ start stands.
          let st = c.loop-message.invariant.serving start stands in
          record {
            told = st.told ++ told_at asked acted.0;
            given = st.given ++ m ∷ [];
            ran = told_on g.J.Jobs.tells g.J.Jobs.prepares start.first c.loop-message.self.jobs.now c.act.new.self.jobs.now st.told (told_at asked acted.0) st.ran acted.1;
            heard = heard_next start.read st.given m _ _ st.heard c.in-Some.ensures.given;
            went = act_on c.args.worker.now start.before m asked acted.0
                (moment c.loop-message.self.state (g.L.Device.output c.loop-message.self.link.now).got (g.P.PoolPort.book c.loop-message.self.port.now)) (moment c.act.new.self.state (g.L.Device.output c.act.new.self.link.now).got (g.P.PoolPort.book c.act.new.self.port.now))
                st.given st.told refl acted.2 st.went;
          };
      input = c.act.ensures.link.input ∙ c.loop-message.invariant.input;
      failures = c.in-Ok.ensures.link.no_failure (λ e. cc) ∙ c.loop-message.invariant.failures;
      parts = same_parts _ _ _ c.loop-message.invariant.parts c.act.ensures.parts;
      losses = c.act.ensures.losses ∙ c.loop-message.invariant.losses;
    }

pub returns-in-Some-fault-clause-leaves : goal.returns-in-Some-fault-clause-leaves
returns-in-Some-fault-clause-leaves g c = λ start stands.
    let st = c.loop-message.invariant.serving start stands in
    serving_halts (session_in c.args.worker.now start.before start.read) (AreTold g.J.Jobs.tells g.J.Jobs.prepares start.first c.loop-message.self.jobs.now) (EndTold g.J.Jobs.tells g.J.Jobs.fails g.J.Jobs.prepares start.first c.loop-message.self.jobs.now) _ _ c.loop-message.self.state _ BadPacket st (ap (λ (x : Reading). x.messages) c.in_default.ensures.given ∙ c.in_default.ensures.none)
    (c.loop-message.self.jobs.now, st.ran, inl (refl, λ e. cc)) tt

pub returns-in-Some-fault-clause-reason : goal.returns-in-Some-fault-clause-reason
returns-in-Some-fault-clause-reason g c = λ start stands.
    let st = c.loop-message.invariant.serving start stands in
    inl (broken_says start.read st.given c.loop-message.reader c.in-Some-fault.field-0 st.heard (sym c.in-Some-fault.is ∙ c.fault.ensures ∙ ap (λ (x : Reading). fault_of x.ending) (sym c.next.ensures.given)))

pub returns-in-None-clause-leaves : goal.returns-in-None-clause-leaves
returns-in-None-clause-leaves g c = λ start stands.
    subst (λ (r : Reading). HasServed (session_in c.args.worker.now start.before start.read) (AreTold g.J.Jobs.tells g.J.Jobs.prepares start.first c.loop-message.self.jobs.now) (g.L.Device.output c.loop-message.self.link.now).got r c.loop-message.self.state (g.P.PoolPort.book c.loop-message.self.port.now))
    c.in_default.ensures.given (c.loop-message.invariant.serving start stands)

pub returns-in-Err-clause-parts : goal.returns-in-Err-clause-parts
returns-in-Err-clause-parts g c = same_parts _ _ _ c.loop-message.invariant.parts c.act.ensures.parts
