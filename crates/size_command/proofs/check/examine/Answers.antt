use Rattle.std.proofs.Common.{◌∙◌, map, option_map, subst}
use Rattle.std.specs.Int.NonZero.{non_zero_u32_get}
use Rattle.std.proofs.lemmas.Result.{err_from_is_err_and}
use Rattle.plan_commands.specs.Problem.{load_of, problem}
use Rattle.size_command.proofs.Examining.{judged, unposed, untaken}
use Rattle.plan_commands.proofs.Posing.{meets_nothing, nothing_from}
use Rattle.size_command.specs.CheckSizes.{JudgesSize}
use Rattle.size_command.proofs.check.examine.Goals as goal

pub returns-in_err-problem : goal.returns-in_err-problem
returns-in_err-problem g c =
    let side = g.R.Device.input c.args.source.now in
    let text = c.args.asked.settings.now in
    let level = option_map non_zero_u32_get c.args.asked.level in
    let read = c.in_err-problem.ensures.posed in
    let posed = problem read.0 (map (λ w. w.now) c.args.asked.lost.now) (load_of c.args.asked.status.now) in
    let p = err_from_is_err_and c.from_residual.result c.from_residual.ensures.1 in (
      nothing_from side,
      meets_nothing side,
      rw (p.1, p.2) (read.0, read.1, unposed text level posed side c.in_err-problem.field-0.0 read.2),
    )

pub returns-in_err-text : goal.returns-in_err-text
returns-in_err-text g c =
    let text = c.args.asked.settings.now in
    let level = option_map non_zero_u32_get c.args.asked.level in
    let read = c.in_ok-problem.ensures.posed in
    let posed = problem read.0 (map (λ w. w.now) c.args.asked.lost.now) (load_of c.args.asked.status.now) in
    let told = c.in_err-text.ensures.whole in
    let p = err_from_is_err_and c.from_residual-in_err-text.result c.from_residual-in_err-text.ensures.1 in (
      told.0,
      told.1,
      rw (p.1, p.2) (read.0, read.1, untaken text level posed c.in_ok-problem.problem told.0 c.in_err-text.field-0.0 read.2 told.2),
    )

pub returns : goal.returns
returns g c =
    let text = c.args.asked.settings.now in
    let level = option_map non_zero_u32_get c.args.asked.level in
    let read = c.in_ok-problem.ensures.posed in
    let posed = problem read.0 (map (λ w. w.now) c.args.asked.lost.now) (load_of c.args.asked.status.now) in
    let told = c.in_ok-text.ensures.whole in (
      told.0,
      told.1,
      (
        read.0,
        read.1,
        judged text level posed c.in_ok-problem.problem told.0 c.judge.result read.2 told.2.1
            (subst (λ t. JudgesSize text level c.in_ok-problem.problem t c.judge.result) (c.deref.ensures.value ∙ told.2.0) c.judge.ensures),
      ),
    )
