use Rattle.std.proofs.Common.{◌≡◌, ℕ, ◌+◌, List, length, Option, Result, Ok, Err, inl, refl, sym, ap, subst, ◌∙◌, arith, add-zero}
use Rattle.gear_packets.specs.Text.{Reading}
use Rattle.byte_io.specs.Sides.{Input, Output, counted}
use Rattle.job_runner.specs.declared.end.EndCause.{EndCause}
use Rattle.job_runner.specs.declared.listen.Heard.{Heard}
use Rattle.job_runner.specs.Told.{AreTold}
use Rattle.job_runner.specs.Run.{EndTold, Link}
use Rattle.job_runner.specs.Listening.{IsReadEnd, Reads, lulls_of, reads_of, read_failures, finds_end}
use Rattle.job_runner.specs.Course.{session_of}
use Rattle.job_runner.specs.Loop.{duty_in}
use Rattle.job_runner.proofs.Reasons.{port_turns}
use Rattle.job_runner.proofs.Listening.{one_at_most, reads_within}
use Rattle.job_runner.proofs.Reasons.{memory_is_other}
use Rattle.job_runner.proofs.Listening.{no_read_failed}
use Rattle.byte_io.proofs.Devices.{counted_nothing}
use Rattle.job_runner.proofs.Telling.{told_and_prepared}
use Rattle.job_runner.proofs.Turning.{glanced, read_ended}
use Rattle.job_runner.specs.Acting.{moment, Glances}
use Rattle.job_runner.proofs.Paths.{went_at, glance_gone}
use Rattle.job_runner.proofs.state.Session.listen.Goals as goal

pub returns-in-Ok-Piece-clause-listens : goal.returns-in-Ok-Piece-clause-listens
returns-in-Ok-Piece-clause-listens g c = λ start given at st.
    let heard = c.in-Ok-Piece.ensures.hears given start.read st.given at st.heard in
    let same = ap (λ (o : Output). o.got) c.in-Ok-Piece.ensures.output in
    (heard.0, heard.1, omega (arith, heard.2), record { told = st.told; given = st.given; ran = st.ran; heard = heard.3; went = went_at (duty_in c.args.worker.now) start.before _ _ st.given st.told _ _ _ same st.went })

pub returns-in-Ok-Lull-clause-listens : goal.returns-in-Ok-Lull-clause-listens
returns-in-Ok-Lull-clause-listens g c = λ start given at st.
    let duty = duty_in c.args.worker.now in
    let heard = c.in-Ok-Lull.ensures.hears given start.read st.given at st.heard in
    let ran = told_and_prepared g.J.Jobs.tells g.J.Jobs.prepares start.first c.args.self.now.jobs.now c.glance.new.self.jobs.now st.told st.ran c.glance.ensures.ready.jobs in
    let old : Link = record { input = g.L.Device.input c.args.self.now.link.now; output = g.L.Device.output c.args.self.now.link.now } in
    let new : Link = record { input = g.L.Device.input c.glance.new.self.link.now; output = g.L.Device.output c.glance.new.self.link.now } in
    let got = ap (λ (o : Output). o.got) c.in-Ok-Lull.ensures.output in
    let same = ap (λ (o : Output). o.failures) c.in-Ok-Lull.ensures.output in (
      heard.0,
      ap (λ (i : Input). i.given) c.glance.ensures.link.input ∙ heard.1,
      omega (arith, heard.2),
      glanced (session_of duty start.before heard.0) (AreTold g.J.Jobs.tells g.J.Jobs.prepares start.first c.glance.new.self.jobs.now) (EndTold g.J.Jobs.tells g.J.Jobs.fails g.J.Jobs.prepares start.first c.glance.new.self.jobs.now) _ st.told st.given _ c.glance.new.self.state _ old new c.glance.result ran (λ e o. (c.glance.new.self.jobs.now, ran, inl (refl, o))) heard.3
          (glance_gone c.args.worker.now start.before heard.0
          (moment c.args.self.now.state (g.L.Device.output c.hear.new.link).got (g.P.PoolPort.book c.args.self.now.port.now)) (moment c.glance.new.self.state (g.L.Device.output c.glance.new.self.link.now).got (g.P.PoolPort.book c.glance.new.self.port.now))
          st.given _ st.told c.glance.result c.glance.ensures.glances (went_at duty start.before _ _ st.given st.told _ _ _ got st.went) (ap (λ (x : Reading). x.messages) heard.3)
          (ap (λ (r : Reading). r.messages) (c.in-Ok-Lull.ensures.kept (λ e. cc)) ∙ c.requires.all_given))
          c.glance.ensures.reason (λ x. c.glance.ensures.link.write_fault x ∙ ap (λ (n : ℕ). n + 1) same)
          (λ x. (ap (λ (i : Input). i.failures) c.glance.ensures.link.input ∙ c.in-Ok-Lull.ensures.failures ∙ add-zero (g.L.Device.input c.args.self.now.link.now).failures, c.glance.ensures.link.no_failure (memory_is_other _ x) ∙ same)),
    )

pub returns-in-Err-clause-listens : goal.returns-in-Err-clause-listens
returns-in-Err-clause-listens g c = λ start given at st.
    let duty = duty_in c.args.worker.now in
    let heard = c.in-Err.ensures.hears given start.read st.given at st.heard in
    let old : Link = record { input = g.L.Device.input c.args.self.now.link.now; output = g.L.Device.output c.args.self.now.link.now } in
    let new : Link = record { input = g.L.Device.input c.hear.new.link; output = g.L.Device.output c.hear.new.link } in
    let got = ap (λ (o : Output). o.got) c.in-Err.ensures.output in (
      heard.0,
      heard.1,
      omega (arith, heard.2),
      read_ended (session_of duty start.before heard.0) (EndTold g.J.Jobs.tells g.J.Jobs.fails g.J.Jobs.prepares start.first c.args.self.now.jobs.now) _ st.told st.given c.hear.new.reader c.args.self.now.state _ old new c.in-Err.cause (λ e o. (c.args.self.now.jobs.now, st.ran, inl (refl, o))) (went_at duty start.before _ _ st.given st.told _ _ _ got st.went) heard.3
          (ap (λ (r : Reading). r.messages) (c.in-Err.ensures.kept (λ e. cc)) ∙ c.requires.all_given) c.in-Err.ensures.causes
          (λ x. c.in-Err.ensures.ended ∙ ap (λ (y : EndCause). finds_end (Err y)) x)
          (λ x. c.in-Err.ensures.failures ∙ ap (λ (y : EndCause). (g.L.Device.input c.args.self.now.link.now).failures + read_failures (Err y)) x)
          (λ x. (c.in-Err.ensures.failures ∙ ap (λ (y : EndCause). (g.L.Device.input c.args.self.now.link.now).failures + read_failures (Err y)) x ∙ add-zero (g.L.Device.input c.args.self.now.link.now).failures, ap (λ (o : Output). o.failures) c.in-Err.ensures.output)),
    )

pub returns-in-Ok-Piece-clause-looks : goal.returns-in-Ok-Piece-clause-looks
returns-in-Ok-Piece-clause-looks g c =
    let lulls = (g.L.Device.input c.args.self.now.link.now).lulls in
    λ differs. absurd (differs (c.in-Ok-Piece.ensures.lulls ∙ ap (λ (h : Heard). counted lulls (lulls_of (let z : Result Heard EndCause = Ok h in z))) c.in-Ok-Piece.field-0-is ∙ sym (counted_nothing lulls)))

pub returns-in-Ok-Lull-clause-looks : goal.returns-in-Ok-Lull-clause-looks
returns-in-Ok-Lull-clause-looks g c = λ differs.
    subst (λ (written : Option (List ℕ)). Glances c.args.worker.now (moment c.args.self.now.state written (g.P.PoolPort.book c.args.self.now.port.now)) (moment c.glance.new.self.state (g.L.Device.output c.glance.new.self.link.now).got (g.P.PoolPort.book c.glance.new.self.port.now)) c.glance.result)
    (ap (λ (o : Output). o.got) c.in-Ok-Lull.ensures.output) c.glance.ensures.glances

pub returns-in-Err-clause-looks : goal.returns-in-Err-clause-looks
returns-in-Err-clause-looks g c = λ differs. absurd (differs (c.in-Err.ensures.lulls ∙ sym (counted_nothing (g.L.Device.input c.args.self.now.link.now).lulls)))

pub returns-in-Ok-Piece-clause-reads : goal.returns-in-Ok-Piece-clause-reads
returns-in-Ok-Piece-clause-reads g c =
    let room : length c.args.inbox.now.buffer ≡ 4096 = omega arith in
    reads_within _ 1 1 1 1 _ _ room (omega arith) (omega arith) c.in-Ok-Piece.ensures.reads

pub returns-in-Ok-Lull-clause-reads : goal.returns-in-Ok-Lull-clause-reads
returns-in-Ok-Lull-clause-reads g c =
    let room : length c.args.inbox.now.buffer ≡ 4096 = omega arith in
    subst (λ (i : Input). Reads 4096 (reads_of c.glance.result) 1 (g.L.Device.input c.args.self.now.link.now) i) (sym c.glance.ensures.link.input)
    (reads_within _ 1 1 (reads_of c.glance.result) 1 _ _ room (one_at_most c.glance.result) (omega arith) c.in-Ok-Lull.ensures.reads)

pub returns-in-Err-clause-reads : goal.returns-in-Err-clause-reads
returns-in-Err-clause-reads g c =
    let room : length c.args.inbox.now.buffer ≡ 4096 = omega arith in
    reads_within _ 0 1 0 1 _ _ room (omega arith) (omega arith) c.in-Err.ensures.reads

pub returns-in-Ok-Lull-clause-no_turns : goal.returns-in-Ok-Lull-clause-no_turns
returns-in-Ok-Lull-clause-no_turns g c = port_turns c.args.worker.now.pass.now.generation (g.P.PoolPort.book c.glance.new.self.port.now) c.glance.result c.glance.ensures.reason

pub returns-in-Err-clause-no_turns : goal.returns-in-Err-clause-no_turns
returns-in-Err-clause-no_turns g c = λ same. subst IsReadEnd same c.in-Err.ensures.causes

pub returns-in-Ok-Lull-clause-read_failures : goal.returns-in-Ok-Lull-clause-read_failures
returns-in-Ok-Lull-clause-read_failures g c = λ o. ap (λ (i : Input). i.failures) c.glance.ensures.link.input ∙ c.in-Ok-Lull.ensures.failures ∙ add-zero (g.L.Device.input c.args.self.now.link.now).failures

pub returns-in-Ok-Lull-clause-write_failures : goal.returns-in-Ok-Lull-clause-write_failures
returns-in-Ok-Lull-clause-write_failures g c = λ o. c.glance.ensures.link.no_failure o ∙ ap (λ (x : Output). x.failures) c.in-Ok-Lull.ensures.output

pub returns-in-Err-clause-read_failures : goal.returns-in-Err-clause-read_failures
returns-in-Err-clause-read_failures g c = λ o. no_read_failed (g.L.Device.input c.args.self.now.link.now).failures (g.L.Device.input c.hear.new.link).failures c.in-Err.cause (λ e. o (ap (λ (y : EndCause). let z : Result (Unit {0}) EndCause = Err y in z) e)) c.in-Err.ensures.failures
