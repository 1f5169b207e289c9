use Rattle.std.proofs.Common.{sym, ap, subst, ◌∙◌}
use Rattle.std.specs.Option.{option_map}
use Rattle.std.specs.List.{AllByRecursion}
use Rattle.gear_packets.specs.Request.{IsSent}
use Rattle.gear_packets.specs.Text.{text_of}
use Rattle.job_runner.specs.Told.{told_of, answer_to, kind_of_answer}
use Rattle.job_runner.proofs.Replies.{answers_told, answers_failed, kind_told, kind_failed}
use Rattle.job_runner.proofs.reply.encode_reply.Goals as goal

pub returns-in-Ok-clause-text : goal.returns-in-Ok-clause-text
returns-in-Ok-clause-text c =
    let h = c.args.handle.now in
    c.in-Ok.ensures.text ∙ ap text_of (sym (answers_told h (told_of c.in-Some.outcome) c.in-Ok.ensures.each)) ∙ ap (λ o. text_of (answer_to h (option_map told_of o))) (sym c.in-Some.is)

pub returns-in-Ok-clause-each : goal.returns-in-Ok-clause-each
returns-in-Ok-clause-each c =
    let h = c.args.handle.now in
    subst (AllByRecursion IsSent) (sym (answers_told h (told_of c.in-Some.outcome) c.in-Ok.ensures.each) ∙ ap (λ o. answer_to h (option_map told_of o)) (sym c.in-Some.is)) c.in-Ok.ensures.each

pub returns-in-Ok-clause-kind : goal.returns-in-Ok-clause-kind
returns-in-Ok-clause-kind c =
    let h = c.args.handle.now in
    c.end_kind.ensures ∙ sym (kind_told h (told_of c.in-Some.outcome) c.in-Ok.ensures.each) ∙ ap (λ o. kind_of_answer h (option_map told_of o)) (sym c.in-Some.is)

pub returns-then-not-can_be_sent-clause-text : goal.returns-then-not-can_be_sent-clause-text
returns-then-not-can_be_sent-clause-text c =
    let h = c.args.handle.now in
    let large = sym c.if-not-can_be_sent.ensures in
    c.requires.fails ∙ ap text_of (sym (answers_failed h (told_of c.in-Some.outcome) large) ∙ ap (λ o. answer_to h (option_map told_of o)) (sym c.in-Some.is))

pub returns-then-not-can_be_sent-clause-each : goal.returns-then-not-can_be_sent-clause-each
returns-then-not-can_be_sent-clause-each c =
    let h = c.args.handle.now in
    let large = sym c.if-not-can_be_sent.ensures in
    subst (AllByRecursion IsSent) (sym (answers_failed h (told_of c.in-Some.outcome) large) ∙ ap (λ o. answer_to h (option_map told_of o)) (sym c.in-Some.is)) c.requires.each_fails

pub returns-then-not-can_be_sent-clause-kind : goal.returns-then-not-can_be_sent-clause-kind
returns-then-not-can_be_sent-clause-kind c =
    let h = c.args.handle.now in
    let large = sym c.if-not-can_be_sent.ensures in
    c.requires.kind_fails ∙ sym (kind_failed h (told_of c.in-Some.outcome) large) ∙ ap (λ o. kind_of_answer h (option_map told_of o)) (sym c.in-Some.is)
