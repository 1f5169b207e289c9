use Rattle.std.proofs.Common.{◌∙◌, map, subst}
use Rattle.std.proofs.lemmas.Result.{err_from_is_err_and}
use Rattle.plan_commands.specs.Check.{Judges}
use Rattle.plan_commands.specs.Problem.{load_of, problem}
use Rattle.plan_commands.proofs.Examining.{judged, unposed, untaken}
use Rattle.plan_commands.proofs.Posing.{meets_nothing, nothing_from}
use Rattle.plan_commands.proofs.check.examine.Goals as goal

pub returns-in_err-problem : goal.returns-in_err-problem
returns-in_err-problem g c =
    let side = g.R.Device.input c.args.source.now in
    let read = c.in_err-problem.ensures.posed in
    let posed = problem read.0 (map (λ w. w.now) c.args.lost.now) (load_of c.args.status_text.now) in
    let p = err_from_is_err_and c.from_residual.result c.from_residual.ensures.1 in (
      nothing_from side,
      meets_nothing side,
      rw (p.1, p.2) (read.0, read.1, unposed posed side c.in_err-problem.field-0.0 read.2),
    )

pub returns-in_err-report : goal.returns-in_err-report
returns-in_err-report g c =
    let read = c.in_ok-problem.ensures.posed in
    let posed = problem read.0 (map (λ w. w.now) c.args.lost.now) (load_of c.args.status_text.now) in
    let told = c.in_err-report.ensures.whole in
    let p = err_from_is_err_and c.from_residual-in_err-report.result c.from_residual-in_err-report.ensures.1 in (
      told.0,
      told.1,
      rw (p.1, p.2) (read.0, read.1, untaken posed c.in_ok-problem.problem told.0 c.in_err-report.field-0.0 read.2 told.2),
    )

pub returns : goal.returns
returns g c =
    let read = c.in_ok-problem.ensures.posed in
    let posed = problem read.0 (map (λ w. w.now) c.args.lost.now) (load_of c.args.status_text.now) in
    let told = c.in_ok-report.ensures.whole in (
      told.0,
      told.1,
      (
        read.0,
        read.1,
        judged posed c.in_ok-problem.problem told.0 c.judge.result read.2 told.2.1
            (subst (λ t. Judges c.in_ok-problem.problem t c.judge.result) (c.deref.ensures.value ∙ told.2.0) c.judge.ensures),
      ),
    )
