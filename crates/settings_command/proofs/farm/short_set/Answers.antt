use Rattle.std.proofs.Common.{subst, sym}
use Rattle.plan_model.specs.Planning.{Instance, IsInstance}
use Rattle.plan_model.specs.Shown.{Shown}
use Rattle.settings_command.specs.Farm.{IsShown}
use Rattle.settings_command.proofs.Farms.{shown_set}
use Rattle.settings_command.proofs.farm.short_set.Goals as goal

pub returns : goal.returns
returns c =
    let p = c.args.settings.now in
    let answer = c.in_ok-solved.solved.answer in
    let known = subst IsInstance c.requires c.facts-2.ensures in
    let shown = subst (λ (i : Instance). Shown i answer) c.requires c.in_ok-solved.ensures.shown in
    subst (IsShown p) (sym c.set_of.ensures) (shown_set p c.facts.ensures known answer shown)
