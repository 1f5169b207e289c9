use Rattle.std.proofs.Common.{refl}
use Rattle.command_words.specs.Words.{check_app, plan_app}
use Rattle.command_words.proofs.Chain.{app_added, app_if_added}
use Rattle.command_words.proofs.operands.add_plans.Goals as goal

pub returns : goal.returns
returns c =
    let one = app_added c.args.program c.in_ok-planning.planning c.plan.result c.in_ok-planning.ensures c.plan.ensures.local refl plan_app c.plan.ensures.app in record {
      app = app_if_added c.in_ok-planning.planning c.check.result c.add-2.result c.add-2.ensures c.check.ensures.local one check_app c.check.ensures.app;
    }
