use Rattle.std.proofs.Common.{ℕ, ◌+◌, [], Result, Ok, Err, inl, refl, sym, ap, subst, ◌∙◌, arith}
use Rattle.byte_io.specs.Sides.{Input}
use Rattle.job_runner.specs.declared.end.EndCause.{EndCause}
use Rattle.job_runner.specs.declared.end.EndCause.TheVariants.{TurnsUsed}
use Rattle.job_runner.specs.Book.{Ledger}
use Rattle.job_runner.specs.Told.{AreTold}
use Rattle.job_runner.specs.Run.{EndTold, Link, ReadReason}
use Rattle.job_runner.specs.Course.{PortReason, session_of}
use Rattle.job_runner.specs.Loop.{duty_in}
use Rattle.job_runner.proofs.Parts.{same_parts}
use Rattle.byte_io.proofs.Devices.{told_nothing}
use Rattle.job_runner.proofs.Reasons.{outer_reason, port_served, read_reason, reason_from, memory_is_other}
use Rattle.job_runner.proofs.Listening.{no_reads, reads_on, reads_within, reads_ended}
use Rattle.job_runner.proofs.Turning.{reads_nothing, says_nothing, serving_halts}
use Rattle.job_runner.proofs.Paths.{begun_gone, same_cause}
use Rattle.job_runner.specs.Acting.{moment}
use Rattle.job_runner.proofs.state.Session.serve.Goals as goal

pub returns-in-Err-clause-ran : goal.returns-in-Err-clause-ran
returns-in-Err-clause-ran g c =
    let duty = duty_in c.args.worker.now in
    let old : Link = record { input = g.L.Device.input c.args.self.now.link.now; output = g.L.Device.output c.args.self.now.link.now } in
    let new : Link = record { input = g.L.Device.input c.begin.new.self.link.now; output = g.L.Device.output c.begin.new.self.link.now } in (
      [],
      ap (λ (i : Input). i.given) c.begin.ensures.link.input ∙ told_nothing old.input.given,
      (
        record {
          told = [];
          ran = (c.args.self.now.jobs.now, ([], refl), inl (c.begin.ensures.idles.jobs, port_served c.args.worker.now.pass.now.generation (g.P.PoolPort.book c.begin.new.self.port.now) c.in-Err.cause c.in-Err.ensures.reason));
          ended = begun_gone c.args.worker.now (moment c.args.self.now.state old.output.got (g.P.PoolPort.book c.args.self.now.port.now)) (moment c.begin.new.self.state new.output.got (g.P.PoolPort.book c.begin.new.self.port.now)) (Err c.in-Err.cause) c.requires.first c.requires.fresh c.in-Err.ensures.begins says_nothing;
        },
        outer_reason (session_of duty old.output.got []) old new c.begin.new.self.state.tally (g.P.PoolPort.book c.begin.new.self.port.now) c.in-Err.cause (read_reason (session_of duty old.output.got []) c.begin.new.self.state.tally (g.P.PoolPort.book c.begin.new.self.port.now) c.in-Err.cause c.in-Err.ensures.reason)
            (λ x. c.in-Err.ensures.link.write_fault (ap (λ (y : EndCause). let z : Result (Unit {0}) EndCause = Err y in z) x))
            (λ x. (ap (λ (i : Input). i.failures) c.begin.ensures.link.input, c.in-Err.ensures.link.no_failure (memory_is_other _ (ap (λ (y : EndCause). let z : Result (Unit {0}) EndCause = Err y in z) x)))),
      ),
    )

pub loop-made-init : goal.loop-made-init
loop-made-init g c =
    let duty = duty_in c.args.worker.now in
    let before = (g.L.Device.output c.args.self.now.link.now).got in
    let start = (g.L.Device.input c.args.self.now.link.now).given in
    record {
      within = omega arith;
      serving = (
        [],
        ap (λ (i : Input). i.given) c.begin.ensures.link.input ∙ told_nothing start,
        omega arith,
        record {
          told = [];
          given = [];
          ran = ([], c.begin.ensures.idles.jobs);
          heard = reads_nothing ∙ sym c.new.ensures;
          went = begun_gone c.args.worker.now (moment c.args.self.now.state before (g.P.PoolPort.book c.args.self.now.port.now)) (moment c.begin.new.self.state (g.L.Device.output c.begin.new.self.link.now).got (g.P.PoolPort.book c.begin.new.self.port.now)) (Ok tt) c.requires.first c.requires.fresh c.in-Ok.ensures.begins says_nothing;
        },
      );
      turns = no_reads _ _ c.begin.ensures.link.input;
      read_failures = ap (λ (i : Input). i.failures) c.begin.ensures.link.input;
      write_failures = c.in-Ok.ensures.link.no_failure (λ e. cc);
      parts = c.begin.ensures.idles.parts;
      losses = c.begin.ensures.losses ∙ ap (λ (b : Ledger). b.losses) c.requires.fresh;
    }

pub drain-requires-clause-serving : goal.drain-requires-clause-serving
drain-requires-clause-serving g c =
    let now = c.loop-made.invariant.serving in
    (record { first = c.args.self.now.jobs.now; before = (g.L.Device.output c.args.self.now.link.now).got; read = now.0 }, omega (arith, now.2, c.loop-made.auto.made-fits), now.3)

pub returns-in-Err-drain-clause-ran : goal.returns-in-Err-drain-clause-ran
returns-in-Err-drain-clause-ran g c =
    let duty = duty_in c.args.worker.now in
    let before = (g.L.Device.output c.args.self.now.link.now).got in
    let old : Link = record { input = g.L.Device.input c.args.self.now.link.now; output = g.L.Device.output c.args.self.now.link.now } in
    let new : Link = record { input = g.L.Device.input c.drain.new.self.link.now; output = g.L.Device.output c.drain.new.self.link.now } in
    let now = c.loop-made.invariant.serving in
    let left = c.in-Err-drain.ensures.leaves (record { first = c.args.self.now.jobs.now; before = before; read = now.0 }) now.3 in
    (now.0, ap (λ (i : Input). i.given) c.drain.ensures.link.input ∙ now.1, (left, outer_reason (session_of duty before now.0) old new c.drain.new.self.state.tally (g.P.PoolPort.book c.drain.new.self.port.now) c.in-Err-drain.cause (c.in-Err-drain.ensures.reason (record { first = c.args.self.now.jobs.now; before = before; read = now.0 }) now.3) (λ x. c.in-Err-drain.ensures.link.write_fault (ap (λ (y : EndCause). let z : Result (Unit {0}) EndCause = Err y in z) x) ∙ ap (λ (n : ℕ). n + 1) c.loop-made.invariant.write_failures) (λ x. (ap (λ (i : Input). i.failures) c.drain.ensures.link.input ∙ c.loop-made.invariant.read_failures, c.in-Err-drain.ensures.link.no_failure (memory_is_other _ (ap (λ (y : EndCause). let z : Result (Unit {0}) EndCause = Err y in z) x)) ∙ c.loop-made.invariant.write_failures))))

pub loop-made-preserved : goal.loop-made-preserved
loop-made-preserved g c =
    let before = (g.L.Device.output c.args.self.now.link.now).got in
    let start = (g.L.Device.input c.args.self.now.link.now).given in
    let now = c.loop-made.invariant.serving in
    let left = c.in-Ok-drain.ensures.leaves (record { first = c.args.self.now.jobs.now; before = before; read = now.0 }) now.3 in
    let next = c.in-Ok-listen.ensures.listens (record { first = c.args.self.now.jobs.now; before = before; read = now.0 }) start (ap (λ (i : Input). i.given) c.drain.ensures.link.input ∙ now.1) left in
    record {
      within = omega (arith, c.loop-made-test.true);
      serving = (next.0, next.1, omega (arith, next.2, now.2), next.3);
      turns = reads_on c.loop-made.made c.loop-made.made 1 1 _ _ _ _ c.loop-made.invariant.turns c.drain.ensures.link.input c.in-Ok-listen.ensures.reads;
      read_failures = c.in-Ok-listen.ensures.read_failures (λ e. cc) ∙ ap (λ (i : Input). i.failures) c.drain.ensures.link.input ∙ c.loop-made.invariant.read_failures;
      write_failures = c.in-Ok-listen.ensures.write_failures (λ e. cc) ∙ c.in-Ok-drain.ensures.link.no_failure (λ e. cc) ∙ c.loop-made.invariant.write_failures;
      parts = same_parts _ _ _ c.loop-made.invariant.parts (same_parts _ _ _ c.drain.ensures.parts c.listen.ensures.ready.parts);
      losses = c.listen.ensures.losses ∙ c.drain.ensures.losses ∙ c.loop-made.invariant.losses;
    }

pub returns-in-Err-listen-clause-ran : goal.returns-in-Err-listen-clause-ran
returns-in-Err-listen-clause-ran g c =
    let duty = duty_in c.args.worker.now in
    let before = (g.L.Device.output c.args.self.now.link.now).got in
    let start = (g.L.Device.input c.args.self.now.link.now).given in
    let older : Link = record { input = g.L.Device.input c.args.self.now.link.now; output = g.L.Device.output c.args.self.now.link.now } in
    let old : Link = record { input = g.L.Device.input c.drain.new.self.link.now; output = g.L.Device.output c.drain.new.self.link.now } in
    let new : Link = record { input = g.L.Device.input c.listen.new.self.link.now; output = g.L.Device.output c.listen.new.self.link.now } in
    let now = c.loop-made.invariant.serving in
    let left = c.in-Ok-drain.ensures.leaves (record { first = c.args.self.now.jobs.now; before = before; read = now.0 }) now.3 in
    let next = c.in-Err-listen.ensures.listens (record { first = c.args.self.now.jobs.now; before = before; read = now.0 }) start (ap (λ (i : Input). i.given) c.drain.ensures.link.input ∙ now.1) left in (
      next.0,
      next.1,
      (
        next.3.0,
        reason_from (session_of duty before next.0) older old new c.listen.new.self.state.tally (g.P.PoolPort.book c.listen.new.self.port.now) c.in-Err-listen.cause next.3.1
            (ap (λ (i : Input). i.failures) c.drain.ensures.link.input ∙ c.loop-made.invariant.read_failures) (c.in-Ok-drain.ensures.link.no_failure (λ e. cc) ∙ c.loop-made.invariant.write_failures),
      ),
    )

pub drain-requires-2-clause-serving : goal.drain-requires-2-clause-serving
drain-requires-2-clause-serving g c =
    let now = c.loop-made.invariant.serving in
    (record { first = c.args.self.now.jobs.now; before = (g.L.Device.output c.args.self.now.link.now).got; read = now.0 }, omega (arith, now.2, c.loop-made.auto.made-fits), now.3)

pub returns-in-Ok-drain-2-clause-ran : goal.returns-in-Ok-drain-2-clause-ran
returns-in-Ok-drain-2-clause-ran g c =
    let before = (g.L.Device.output c.args.self.now.link.now).got in
    let now = c.loop-made.invariant.serving in
    let left = c.in-Ok-drain-2.ensures.leaves (record { first = c.args.self.now.jobs.now; before = before; read = now.0 }) now.3 in
    (now.0, ap (λ (i : Input). i.given) c.drain-2.ensures.link.input ∙ now.1, (serving_halts (session_of (duty_in c.args.worker.now) before now.0) (AreTold g.J.Jobs.tells g.J.Jobs.prepares c.args.self.now.jobs.now c.drain-2.new.self.jobs.now) (EndTold g.J.Jobs.tells g.J.Jobs.fails g.J.Jobs.prepares c.args.self.now.jobs.now c.drain-2.new.self.jobs.now) _ _ c.drain-2.new.self.state _ TurnsUsed left c.in-Ok-drain-2.ensures.all_given (c.drain-2.new.self.jobs.now, left.ran, inl (refl, λ e. cc)) tt, (ap (λ (i : Input). i.failures) c.drain-2.ensures.link.input ∙ c.loop-made.invariant.read_failures, c.in-Ok-drain-2.ensures.link.no_failure (λ e. cc) ∙ c.loop-made.invariant.write_failures)))

pub returns-clause-ran : goal.returns-clause-ran
returns-clause-ran g c =
    let duty = duty_in c.args.worker.now in
    let before = (g.L.Device.output c.args.self.now.link.now).got in
    let old : Link = record { input = g.L.Device.input c.args.self.now.link.now; output = g.L.Device.output c.args.self.now.link.now } in
    let new : Link = record { input = g.L.Device.input c.drain-2.new.self.link.now; output = g.L.Device.output c.drain-2.new.self.link.now } in
    let now = c.loop-made.invariant.serving in
    let left = c.in-Err-drain-2.ensures.leaves (record { first = c.args.self.now.jobs.now; before = before; read = now.0 }) now.3 in
    (now.0, ap (λ (i : Input). i.given) c.drain-2.ensures.link.input ∙ now.1, (left, outer_reason (session_of duty before now.0) old new c.drain-2.new.self.state.tally (g.P.PoolPort.book c.drain-2.new.self.port.now) c.in-Err-drain-2.cause (c.in-Err-drain-2.ensures.reason (record { first = c.args.self.now.jobs.now; before = before; read = now.0 }) now.3) (λ x. c.in-Err-drain-2.ensures.link.write_fault (ap (λ (y : EndCause). let z : Result (Unit {0}) EndCause = Err y in z) x) ∙ ap (λ (n : ℕ). n + 1) c.loop-made.invariant.write_failures) (λ x. (ap (λ (i : Input). i.failures) c.drain-2.ensures.link.input ∙ c.loop-made.invariant.read_failures, c.in-Err-drain-2.ensures.link.no_failure (memory_is_other _ (ap (λ (y : EndCause). let z : Result (Unit {0}) EndCause = Err y in z) x)) ∙ c.loop-made.invariant.write_failures))))

pub returns-in-Err-clause-turns : goal.returns-in-Err-clause-turns
returns-in-Err-clause-turns g c =
    reads_ended c.args.worker.now.place.turns 0 0 c.in-Err.cause _ _ (λ same. subst (PortReason c.args.worker.now.pass.now.generation (g.P.PoolPort.book c.begin.new.self.port.now)) same c.in-Err.ensures.reason)
    (omega arith) (no_reads _ _ c.begin.ensures.link.input)

pub returns-in-Err-drain-clause-turns : goal.returns-in-Err-drain-clause-turns
returns-in-Err-drain-clause-turns g c =
    let before = (g.L.Device.output c.args.self.now.link.now).got in
    let now = c.loop-made.invariant.serving in
    let session = session_of (duty_in c.args.worker.now) before now.0 in
    let reads = reads_on c.loop-made.made c.loop-made.made 0 0 _ _ _ _ c.loop-made.invariant.turns c.drain.ensures.link.input (no_reads _ _ refl) in
    reads_ended c.args.worker.now.place.turns (c.loop-made.made + 0) (c.loop-made.made + 0) c.in-Err-drain.cause _ _
    (λ same. subst (ReadReason session c.drain.new.self.state.tally (g.P.PoolPort.book c.drain.new.self.port.now)) same (c.in-Err-drain.ensures.reason (record { first = c.args.self.now.jobs.now; before = before; read = now.0 }) now.3))
    (let within = c.loop-made.invariant.within in omega (arith, within)) reads

pub returns-in-Err-listen-clause-turns : goal.returns-in-Err-listen-clause-turns
returns-in-Err-listen-clause-turns g c =
    let reads = reads_on c.loop-made.made c.loop-made.made 0 1 _ _ _ _ c.loop-made.invariant.turns c.drain.ensures.link.input c.in-Err-listen.ensures.reads in
    reads_ended c.args.worker.now.place.turns (c.loop-made.made + 0) (c.loop-made.made + 1) c.in-Err-listen.cause _ _ c.in-Err-listen.ensures.no_turns
    (let within = c.loop-made-test.true in omega (arith, within)) reads

pub returns-in-Ok-drain-2-clause-turns : goal.returns-in-Ok-drain-2-clause-turns
returns-in-Ok-drain-2-clause-turns g c =
    let reads = reads_on c.loop-made.made c.loop-made.made 0 0 _ _ _ _ c.loop-made.invariant.turns c.drain-2.ensures.link.input (no_reads _ _ refl) in
    reads_within 4096 (c.loop-made.made + 0) (c.loop-made.made + 0) c.args.worker.now.place.turns c.args.worker.now.place.turns _ _ refl
    (let past = c.loop-made-test.false in omega (arith, past)) (let within = c.loop-made.invariant.within in omega (arith, within)) reads

pub returns-clause-turns : goal.returns-clause-turns
returns-clause-turns g c =
    let before = (g.L.Device.output c.args.self.now.link.now).got in
    let now = c.loop-made.invariant.serving in
    let session = session_of (duty_in c.args.worker.now) before now.0 in
    let reads = reads_on c.loop-made.made c.loop-made.made 0 0 _ _ _ _ c.loop-made.invariant.turns c.drain-2.ensures.link.input (no_reads _ _ refl) in
    reads_ended c.args.worker.now.place.turns (c.loop-made.made + 0) (c.loop-made.made + 0) c.in-Err-drain-2.cause _ _
    (λ same. subst (ReadReason session c.drain-2.new.self.state.tally (g.P.PoolPort.book c.drain-2.new.self.port.now)) same (c.in-Err-drain-2.ensures.reason (record { first = c.args.self.now.jobs.now; before = before; read = now.0 }) now.3))
    (let within = c.loop-made.invariant.within in omega (arith, within)) reads

pub returns-in-Err-clause-faults : goal.returns-in-Err-clause-faults
returns-in-Err-clause-faults g c = (λ o. ap (λ (i : Input). i.failures) c.begin.ensures.link.input, λ o. c.in-Err.ensures.link.no_failure (λ x. o (same_cause _ _ x)))

pub returns-in-Err-drain-clause-faults : goal.returns-in-Err-drain-clause-faults
returns-in-Err-drain-clause-faults g c = (
  λ o. ap (λ (i : Input). i.failures) c.drain.ensures.link.input ∙ c.loop-made.invariant.read_failures,
  λ o. c.in-Err-drain.ensures.link.no_failure (λ x. o (same_cause _ _ x)) ∙ c.loop-made.invariant.write_failures,
)

pub returns-in-Err-listen-clause-faults : goal.returns-in-Err-listen-clause-faults
returns-in-Err-listen-clause-faults g c = (
  λ o. c.in-Err-listen.ensures.read_failures (λ x. o (same_cause _ _ x)) ∙ ap (λ (i : Input). i.failures) c.drain.ensures.link.input ∙ c.loop-made.invariant.read_failures,
  λ o. c.in-Err-listen.ensures.write_failures (λ x. o (same_cause _ _ x)) ∙ c.in-Ok-drain.ensures.link.no_failure (λ e. cc) ∙ c.loop-made.invariant.write_failures,
)

pub returns-in-Ok-drain-2-clause-faults : goal.returns-in-Ok-drain-2-clause-faults
returns-in-Ok-drain-2-clause-faults g c = (
  λ o. ap (λ (i : Input). i.failures) c.drain-2.ensures.link.input ∙ c.loop-made.invariant.read_failures,
  λ o. c.in-Ok-drain-2.ensures.link.no_failure (λ e. cc) ∙ c.loop-made.invariant.write_failures,
)

pub returns-clause-faults : goal.returns-clause-faults
returns-clause-faults g c = (
  λ o. ap (λ (i : Input). i.failures) c.drain-2.ensures.link.input ∙ c.loop-made.invariant.read_failures,
  λ o. c.in-Err-drain-2.ensures.link.no_failure (λ x. o (same_cause _ _ x)) ∙ c.loop-made.invariant.write_failures,
)

pub returns-in-Err-drain-clause-parts : goal.returns-in-Err-drain-clause-parts
returns-in-Err-drain-clause-parts g c = same_parts _ _ _ c.loop-made.invariant.parts c.drain.ensures.parts

pub returns-in-Err-listen-clause-parts : goal.returns-in-Err-listen-clause-parts
returns-in-Err-listen-clause-parts g c = same_parts _ _ _ c.loop-made.invariant.parts (same_parts _ _ _ c.drain.ensures.parts c.listen.ensures.ready.parts)

pub returns-in-Ok-drain-2-clause-parts : goal.returns-in-Ok-drain-2-clause-parts
returns-in-Ok-drain-2-clause-parts g c = same_parts _ _ _ c.loop-made.invariant.parts c.drain-2.ensures.parts

pub returns-clause-parts : goal.returns-clause-parts
returns-clause-parts g c = same_parts _ _ _ c.loop-made.invariant.parts c.drain-2.ensures.parts
