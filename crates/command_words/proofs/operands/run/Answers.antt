use Rattle.std.proofs.Common.{◌≡◌, refl}
use Rattle.std.proofs.lemmas.Result.{IfOk-weaker}
use Rattle.clap.specs.Built.{AddsArg}
use Rattle.clap.specs.Simple.{app_of}
use Rattle.command_words.specs.Words as spec
use Rattle.command_words.proofs.Chain.{app_of_two, differ}
use Rattle.command_words.proofs.Required.{first_of_two, second_of_two}
use Rattle.command_words.proofs.operands.run.Goals as goal

pub returns-clause-settings : goal.returns-clause-settings
returns-clause-settings c =
    let bare = c.command.ensures in
    let s = c.settings in
    let r = c.rounds in
    first_of_two c.command.result (bare.arguments, bare.groups, bare.local, bare.negates) c.in_ok-arg.field-0 s.result r.result spec.settings
    c.arg-2.result c.in_ok-arg.ensures c.arg-2.ensures s.ensures.fits r.ensures.fits
    (differ s.result r.result spec.settings spec.rounds s.ensures.id r.ensures.id refl refl) s.ensures.value s.ensures.id

pub returns-clause-rounds : goal.returns-clause-rounds
returns-clause-rounds c =
    let bare = c.command.ensures in
    let s = c.settings in
    let r = c.rounds in
    second_of_two c.command.result (bare.arguments, bare.groups, bare.local, bare.negates) c.in_ok-arg.field-0 s.result r.result spec.rounds
    spec.least_rounds spec.most_rounds c.arg-2.result c.in_ok-arg.ensures c.arg-2.ensures s.ensures.fits r.ensures.fits
    (differ s.result r.result spec.settings spec.rounds s.ensures.id r.ensures.id refl refl) r.ensures.value r.ensures.rule

pub returns-clause-app : goal.returns-clause-app
returns-clause-app c =
    IfOk-weaker c.arg-2.result (AddsArg c.in_ok-arg.field-0 c.rounds.result) (λ cmd. app_of cmd ≡ spec.run_app)
    (λ cmd added. app_of_two c.command.result c.in_ok-arg.field-0 cmd c.settings.result c.rounds.result
    c.in_ok-arg.ensures added c.settings.ensures.fits c.rounds.ensures.fits
    c.command.ensures.app c.settings.ensures.rule c.rounds.ensures.rule) c.arg-2.ensures
