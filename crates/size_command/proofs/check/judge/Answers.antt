use Rattle.std.proofs.Common.{subst}
use Rattle.size_command.specs.CheckSizes.{FindsSize}
use Rattle.size_command.proofs.check.judge.Goals as goal

pub returns : goal.returns
returns c =
    let made = c.in_ok-farm.ensures in (
      made.0,
      made.1,
      (
        c.in_ok-size.size,
        c.in_ok-size.ensures.ok,
        subst (λ farm. FindsSize c.args.problem.now.settings farm c.args.given_text.now c.in_ok-size.size c.in_ok-found.found) made.2 c.in_ok-found.ensures,
      ),
    )
