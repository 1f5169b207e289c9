use Rattle.std.proofs.Common.{◌≡◌, ℕ, ◌+◌, List, [], Option, Some, None, inl, inr, refl, ap, subst, ◌∙◌, arith}
use Rattle.std.specs.List.{AllByRecursion}
use Rattle.std.specs.Option.{option_map}
use Rattle.gear_packets.specs.Request.{IsSent}
use Rattle.gear_packets.specs.Reading.{job_of}
use Rattle.gear_packets.specs.Text.{text_of}
use Rattle.job_runner.specs.declared.answering.Tally.{Tally}
use Rattle.job_runner.specs.Told.{Told, answer_to, told_of}
use Rattle.job_runner.specs.declared.end.EndCause.TheVariants.{Gone, HistoryFull, Memory, Retired, Unserved}
use Rattle.job_runner.specs.declared.jobs.NotDone.TheVariants as NotDone
use Rattle.job_runner.proofs.Counts.{grab_refused, grab_done, begin_refused, begin_done, report_refused, report_done}
use Rattle.job_runner.proofs.Exits.{breaks_unrun, breaks_unwritten, breaks_cut, breaks_written, replied}
use Rattle.job_runner.proofs.state.Session.answer.Goals as goal

each_as : (h k : List ℕ) (o : Option Told) → h ≡ k → AllByRecursion IsSent (answer_to h o) → AllByRecursion IsSent (answer_to k o)
each_as h k o e each = subst (λ (x : List ℕ). AllByRecursion IsSent (answer_to x o)) e each

pub returns-in-Err-Gone-clause-answers : goal.returns-in-Err-Gone-clause-answers
returns-in-Err-Gone-clause-answers g c =
    let new : Tally = c.args.self.now.state.tally in (
      None,
      (c.args.self.now.jobs.now, ([], refl), inl (refl, λ e. cc)),
      breaks_unrun (job_of c.args.job) c.args.self.now.state.tally new _ _ _ Gone 0 (record { grabbed_is = omega arith; answered_is = omega arith; reported_is = omega arith })
          (grab_refused _ _ c.grab.result c.in-Err-Gone.field-0 c.in-Err-Gone.is c.grab.ensures) (omega arith) (λ e. cc) tt,
    )

pub returns-in-Err-HistoryFull-clause-answers : goal.returns-in-Err-HistoryFull-clause-answers
returns-in-Err-HistoryFull-clause-answers g c =
    let new : Tally = c.args.self.now.state.tally in (
      None,
      (c.args.self.now.jobs.now, ([], refl), inl (refl, λ e. cc)),
      breaks_unrun (job_of c.args.job) c.args.self.now.state.tally new _ _ _ HistoryFull 0 (record { grabbed_is = omega arith; answered_is = omega arith; reported_is = omega arith })
          (grab_refused _ _ c.grab.result c.in-Err-HistoryFull.field-0 c.in-Err-HistoryFull.is c.grab.ensures) (omega arith) (λ e. cc) tt,
    )

pub returns-in-Err-Memory-clause-answers : goal.returns-in-Err-Memory-clause-answers
returns-in-Err-Memory-clause-answers g c =
    let new : Tally = c.args.self.now.state.tally in (
      None,
      (c.args.self.now.jobs.now, ([], refl), inl (refl, λ e. cc)),
      breaks_unrun (job_of c.args.job) c.args.self.now.state.tally new _ _ _ Memory 0 (record { grabbed_is = omega arith; answered_is = omega arith; reported_is = omega arith })
          (grab_refused _ _ c.grab.result c.in-Err-Memory.field-0 c.in-Err-Memory.is c.grab.ensures) (omega arith) (λ e. cc) tt,
    )

pub returns-in_default-clause-answers : goal.returns-in_default-clause-answers
returns-in_default-clause-answers g c =
    let new : Tally = record { grabbed = c.args.self.now.state.tally.grabbed + 1; answered = c.args.self.now.state.tally.answered; reported = c.args.self.now.state.tally.reported } in (
      None,
      (c.args.self.now.jobs.now, ([], refl), inl (refl, λ e. cc)),
      breaks_unrun (job_of c.args.job) c.args.self.now.state.tally new _ _ _ Memory 1 (record { grabbed_is = refl; answered_is = omega arith; reported_is = omega arith })
          (grab_done _ _ c.grab.result c.in-Ok.ticket c.in-Ok.is c.grab.ensures) (omega arith) (λ e. cc) tt,
    )

pub returns-in-Err-Unserved-clause-answers : goal.returns-in-Err-Unserved-clause-answers
returns-in-Err-Unserved-clause-answers g c =
    let new : Tally = record { grabbed = c.args.self.now.state.tally.grabbed + 1; answered = c.args.self.now.state.tally.answered; reported = c.args.self.now.state.tally.reported } in (
      None,
      (c.args.self.now.jobs.now, ([], refl), inr (job_of c.args.job, NotDone.Unserved, subst (g.J.Jobs.fails c.args.self.now.jobs.now c.run.new.self (job_of c.args.job)) c.in-Err-Unserved.field-0-is c.in-Err-Unserved.ensures.fails, refl)),
      breaks_unrun (job_of c.args.job) c.args.self.now.state.tally new _ _ _ Unserved 1 (record { grabbed_is = refl; answered_is = omega arith; reported_is = omega arith })
          (grab_done _ _ c.grab.result c.in-Ok.ticket c.in-Ok.is c.grab.ensures) (omega arith) (λ e. cc) tt,
    )

pub returns-in-Err-Memory-run-clause-answers : goal.returns-in-Err-Memory-run-clause-answers
returns-in-Err-Memory-run-clause-answers g c =
    let new : Tally = record { grabbed = c.args.self.now.state.tally.grabbed + 1; answered = c.args.self.now.state.tally.answered; reported = c.args.self.now.state.tally.reported } in (
      None,
      (c.args.self.now.jobs.now, ([], refl), inr (job_of c.args.job, NotDone.Memory, subst (g.J.Jobs.fails c.args.self.now.jobs.now c.run.new.self (job_of c.args.job)) c.in-Err-Memory-run.field-0-is c.in-Err-Memory-run.ensures.fails, refl)),
      breaks_unrun (job_of c.args.job) c.args.self.now.state.tally new _ _ _ Memory 1 (record { grabbed_is = refl; answered_is = omega arith; reported_is = omega arith })
          (grab_done _ _ c.grab.result c.in-Ok.ticket c.in-Ok.is c.grab.ensures) (omega arith) (λ e. cc) tt,
    )

pub returns-in_default-encode_reply-clause-answers : goal.returns-in_default-encode_reply-clause-answers
returns-in_default-encode_reply-clause-answers g c =
    let told = option_map told_of c.in-Ok-run.outcome in (
      Some told,
      (c.run.new.self, (c.args.self.now.jobs.now, c.run.new.self, ([], refl), c.in-Ok-run.ensures.tells, ([], refl)), inl (refl, λ e. cc)),
      breaks_unwritten (job_of c.args.job) told c.args.self.now.state.tally (record { grabbed = c.args.self.now.state.tally.grabbed + 1; answered = c.args.self.now.state.tally.answered; reported = c.args.self.now.state.tally.reported }) _ _ _ Memory (record { grabbed_is = refl; answered_is = omega arith; reported_is = omega arith })
          (grab_done _ _ c.grab.result c.in-Ok.ticket c.in-Ok.is c.grab.ensures) (λ e. cc) tt,
    )

pub returns-in_default-begin_report-clause-answers : goal.returns-in_default-begin_report-clause-answers
returns-in_default-begin_report-clause-answers g c =
    let told = option_map told_of c.in-Ok-run.outcome in (
      Some told,
      (c.run.new.self, (c.args.self.now.jobs.now, c.run.new.self, ([], refl), c.in-Ok-run.ensures.tells, ([], refl)), inl (refl, λ e. cc)),
      breaks_unwritten (job_of c.args.job) told c.args.self.now.state.tally (record { grabbed = c.args.self.now.state.tally.grabbed + 1; answered = c.args.self.now.state.tally.answered; reported = c.args.self.now.state.tally.reported }) _ _ _ Gone (record { grabbed_is = refl; answered_is = omega arith; reported_is = omega arith })
          (begin_refused _ _ _ c.begin_report.result c.in_default-begin_report.field-0 (grab_done _ _ c.grab.result c.in-Ok.ticket c.in-Ok.is c.grab.ensures) c.in_default-begin_report.is c.begin_report.ensures) (λ e. cc) tt,
    )

pub returns-in_default-give_all-clause-answers : goal.returns-in_default-give_all-clause-answers
returns-in_default-give_all-clause-answers g c =
    let told = option_map told_of c.in-Ok-run.outcome in (
      Some told,
      (c.run.new.self, (c.args.self.now.jobs.now, c.run.new.self, ([], refl), c.in-Ok-run.ensures.tells, ([], refl)), inl (refl, λ e. cc)),
      breaks_cut (job_of c.args.job) told c.args.self.now.state.tally (record { grabbed = c.args.self.now.state.tally.grabbed + 1; answered = c.args.self.now.state.tally.answered; reported = c.args.self.now.state.tally.reported }) _ _ c.as_slice.result.now c.in_default-give_all.field-0.count _ _ (record { grabbed_is = refl; answered_is = omega arith; reported_is = omega arith })
          (begin_done _ _ _ c.begin_report.result c.in-Ok-begin_report.field-0 (grab_done _ _ c.grab.result c.in-Ok.ticket c.in-Ok.is c.grab.ensures) c.in-Ok-begin_report.is c.begin_report.ensures) (each_as c.copy-handle.result (job_of c.args.job).handle told c.copy-handle.ensures c.in-Ok-encode_reply.ensures.each)
          (c.as_slice.ensures.value ∙ c.in-Ok-encode_reply.ensures.text ∙ ap (λ (h : List ℕ). text_of (answer_to h told)) c.copy-handle.ensures)
          c.in_default-give_all.ensures.err.1 c.in_default-give_all.ensures.err.0,
    )

pub returns-in-Ok-Stay-clause-answers : goal.returns-in-Ok-Stay-clause-answers
returns-in-Ok-Stay-clause-answers g c =
    let told = option_map told_of c.in-Ok-run.outcome in (
      Some told,
      (c.args.self.now.jobs.now, c.run.new.self, ([], refl), c.in-Ok-run.ensures.tells, ([], refl)),
      replied (job_of c.args.job) told c.args.self.now.state.tally (record { grabbed = c.args.self.now.state.tally.grabbed + 1; answered = c.args.self.now.state.tally.answered + 1; reported = c.args.self.now.state.tally.reported + 1 }) _ _ c.as_slice.result.now _ _ (record { grabbed_is = refl; answered_is = refl; reported_is = refl })
          (report_done _ _ _ c.reported.result c.in-Ok-Stay.field-0 (begin_done _ _ _ c.begin_report.result c.in-Ok-begin_report.field-0 (grab_done _ _ c.grab.result c.in-Ok.ticket c.in-Ok.is c.grab.ensures) c.in-Ok-begin_report.is c.begin_report.ensures) c.in-Ok-Stay.is c.reported.ensures) (each_as c.copy-handle.result (job_of c.args.job).handle told c.copy-handle.ensures c.in-Ok-encode_reply.ensures.each)
          (c.as_slice.ensures.value ∙ c.in-Ok-encode_reply.ensures.text ∙ ap (λ (h : List ℕ). text_of (answer_to h told)) c.copy-handle.ensures)
          c.in-Ok-give_all.ensures.ok.0,
    )

pub returns-in-Ok-Retire-clause-answers : goal.returns-in-Ok-Retire-clause-answers
returns-in-Ok-Retire-clause-answers g c =
    let told = option_map told_of c.in-Ok-run.outcome in (
      Some told,
      (c.run.new.self, (c.args.self.now.jobs.now, c.run.new.self, ([], refl), c.in-Ok-run.ensures.tells, ([], refl)), inl (refl, λ e. cc)),
      breaks_written (job_of c.args.job) told c.args.self.now.state.tally (record { grabbed = c.args.self.now.state.tally.grabbed + 1; answered = c.args.self.now.state.tally.answered + 1; reported = c.args.self.now.state.tally.reported + 1 }) _ _ c.as_slice.result.now _ _ Retired 1 (record { grabbed_is = refl; answered_is = refl; reported_is = refl })
          (report_done _ _ _ c.reported.result c.in-Ok-Retire.field-0 (begin_done _ _ _ c.begin_report.result c.in-Ok-begin_report.field-0 (grab_done _ _ c.grab.result c.in-Ok.ticket c.in-Ok.is c.grab.ensures) c.in-Ok-begin_report.is c.begin_report.ensures) c.in-Ok-Retire.is c.reported.ensures) (omega arith) (inl refl) (each_as c.copy-handle.result (job_of c.args.job).handle told c.copy-handle.ensures c.in-Ok-encode_reply.ensures.each)
          (c.as_slice.ensures.value ∙ c.in-Ok-encode_reply.ensures.text ∙ ap (λ (h : List ℕ). text_of (answer_to h told)) c.copy-handle.ensures)
          c.in-Ok-give_all.ensures.ok.0,
    )

pub returns-clause-answers : goal.returns-clause-answers
returns-clause-answers g c =
    let told = option_map told_of c.in-Ok-run.outcome in (
      Some told,
      (c.run.new.self, (c.args.self.now.jobs.now, c.run.new.self, ([], refl), c.in-Ok-run.ensures.tells, ([], refl)), inl (refl, λ e. cc)),
      breaks_written (job_of c.args.job) told c.args.self.now.state.tally (record { grabbed = c.args.self.now.state.tally.grabbed + 1; answered = c.args.self.now.state.tally.answered + 1; reported = c.args.self.now.state.tally.reported }) _ _ c.as_slice.result.now _ _ Gone 0 (record { grabbed_is = refl; answered_is = refl; reported_is = omega arith })
          (report_refused _ _ _ c.reported.result c.in-Err.field-0 (begin_done _ _ _ c.begin_report.result c.in-Ok-begin_report.field-0 (grab_done _ _ c.grab.result c.in-Ok.ticket c.in-Ok.is c.grab.ensures) c.in-Ok-begin_report.is c.begin_report.ensures) c.in-Err.is c.reported.ensures) (omega arith) (inr refl) (each_as c.copy-handle.result (job_of c.args.job).handle told c.copy-handle.ensures c.in-Ok-encode_reply.ensures.each)
          (c.as_slice.ensures.value ∙ c.in-Ok-encode_reply.ensures.text ∙ ap (λ (h : List ℕ). text_of (answer_to h told)) c.copy-handle.ensures)
          c.in-Ok-give_all.ensures.ok.0,
    )
