use Rattle.std.proofs.Common.{◌≡◌}
use Rattle.std.proofs.lemmas.Result.{IfOk-weaker}
use Rattle.clap.specs.Built.{AddsArg}
use Rattle.clap.specs.Simple.{app_of}
use Rattle.command_words.specs.Words as spec
use Rattle.command_words.proofs.Chain.{app_of_one}
use Rattle.command_words.proofs.Required.{only}
use Rattle.command_words.proofs.operands.replay.Goals as goal

pub returns-clause-settings : goal.returns-clause-settings
returns-clause-settings c =
    let bare = c.command.ensures in
    let s = c.settings in
    only c.command.result (bare.arguments, bare.groups, bare.local, bare.negates) s.result spec.settings c.arg.result c.arg.ensures
    s.ensures.fits s.ensures.value s.ensures.id

pub returns-clause-app : goal.returns-clause-app
returns-clause-app c =
    IfOk-weaker c.arg.result (AddsArg c.command.result c.settings.result) (λ cmd. app_of cmd ≡ spec.replay_app)
    (λ cmd added. app_of_one c.command.result cmd c.settings.result
    added c.settings.ensures.fits
    c.command.ensures.app c.settings.ensures.rule) c.arg.ensures
