use Rattle.std.proofs.Common.{◌≡◌, ◌∙◌, Ok, Result, ap}
use Rattle.pool_report.specs.Answered.{report_text}
use Rattle.pool_report.specs.Reading.{meaning}
use Rattle.pool_report.specs.Law.{retold}
use Rattle.pool_report.specs.declared.error.ReadError.{ReadError}
use Rattle.plan_model.specs.declared.answer.Answer.{Answer}
use Rattle.pool_report.proofs.Whole.{report_read}
use Rattle.pool_report.proofs.law.report_reads_back.Goals as goal

-- what is answered is one answer
told_once : (a b : Answer) (r : Result Answer ReadError) → r ≡ Ok a → r ≡ Ok b → a ≡ b
told_once a b r left right = cc

pub returns-clause-same : goal.returns-clause-same
returns-clause-same c = report_read c.args.settings.now c.facts.ensures c.args.input.now c.args.answer.now c.facts-2.ensures c.requires.of_these c.requires.shown

pub returns-clause-one : goal.returns-clause-one
returns-clause-one c other shown same =
    let p = c.args.settings.now in
    let i = c.args.input.now in
    let read = report_read p c.facts.ensures i in
    told_once (retold i other) (retold i c.args.answer.now) (meaning p (report_text p i other)) (read other c.facts-2.ensures c.requires.of_these shown)
    (ap (meaning p) same ∙ read c.args.answer.now c.facts-2.ensures c.requires.of_these c.requires.shown)
