use Rattle.std.proofs.Common.{◌≡◌}
use Rattle.std.proofs.lemmas.Result.{IfOk-weaker}
use Rattle.clap.specs.Built.{AddsArg}
use Rattle.clap.specs.Simple.{app_of}
use Rattle.command_words.specs.Words as spec
use Rattle.command_words.proofs.Chain.{app_of_one}
use Rattle.command_words.proofs.Required.{only}
use Rattle.command_words.proofs.operands.drain.Goals as goal

pub returns-clause-services : goal.returns-clause-services
returns-clause-services c =
    let bare = c.command.ensures in
    let s = c.services in
    only c.command.result (bare.arguments, bare.groups, bare.local, bare.negates) s.result spec.services c.arg.result c.arg.ensures
    s.ensures.fits s.ensures.value s.ensures.id

pub returns-clause-app : goal.returns-clause-app
returns-clause-app c =
    IfOk-weaker c.arg.result (AddsArg c.command.result c.services.result) (λ cmd. app_of cmd ≡ spec.drain_app)
    (λ cmd added. app_of_one c.command.result cmd c.services.result
    added c.services.ensures.fits
    c.command.ensures.app c.services.ensures.rule) c.arg.ensures
