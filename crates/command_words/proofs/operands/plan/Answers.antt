use Rattle.std.proofs.Common.{◌≡◌, refl}
use Rattle.std.proofs.lemmas.Result.{IfOk-weaker}
use Rattle.clap.specs.Built.{AddsArg}
use Rattle.clap.specs.Simple.{app_of}
use Rattle.command_words.specs.Words as spec
use Rattle.command_words.proofs.Chain.{app_of_two, differ}
use Rattle.command_words.proofs.Required.{first_of_two}
use Rattle.command_words.proofs.operands.plan.Goals as goal

pub returns-clause-settings : goal.returns-clause-settings
returns-clause-settings c =
    let bare = c.command.ensures in
    let s = c.settings in
    let l = c.lost in
    first_of_two c.command.result (bare.arguments, bare.groups, bare.local, bare.negates) c.in_ok-arg.field-0 s.result l.result spec.settings
    c.arg-2.result c.in_ok-arg.ensures c.arg-2.ensures s.ensures.fits l.ensures.fits
    (differ s.result l.result spec.settings spec.lost s.ensures.id l.ensures.id refl refl) s.ensures.value s.ensures.id

pub returns-clause-app : goal.returns-clause-app
returns-clause-app c =
    IfOk-weaker c.arg-2.result (AddsArg c.in_ok-arg.field-0 c.lost.result) (λ cmd. app_of cmd ≡ spec.plan_app)
    (λ cmd added. app_of_two c.command.result c.in_ok-arg.field-0 cmd c.settings.result c.lost.result
    c.in_ok-arg.ensures added c.settings.ensures.fits c.lost.ensures.fits
    c.command.ensures.app c.settings.ensures.rule c.lost.ensures.rule) c.arg-2.ensures
