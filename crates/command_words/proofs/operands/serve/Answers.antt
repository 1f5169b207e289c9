use Rattle.std.proofs.Common.{◌≡◌, refl}
use Rattle.std.proofs.lemmas.Result.{IfOk-weaker}
use Rattle.clap.specs.Built.{AddsArg}
use Rattle.clap.specs.Simple.{app_of}
use Rattle.command_words.specs.Words as spec
use Rattle.command_words.proofs.Chain.{app_of_three, differ}
use Rattle.command_words.proofs.Required.{first_of_three, second_of_three}
use Rattle.command_words.proofs.operands.serve.Goals as goal

pub returns-clause-settings : goal.returns-clause-settings
returns-clause-settings c =
    let bare = c.command.ensures in
    let s = c.settings in
    let v = c.services in
    let u = c.until_input in
    first_of_three c.command.result (bare.arguments, bare.groups, bare.local, bare.negates) c.in_ok-arg.field-0 c.in_ok-arg-2.field-0
    s.result v.result u.result spec.settings c.in_ok-arg.ensures c.in_ok-arg-2.ensures s.ensures.fits v.ensures.fits u.ensures.fits
    (differ s.result v.result spec.settings spec.services s.ensures.id v.ensures.id refl refl)
    (differ s.result u.result spec.settings spec.until_input s.ensures.id u.ensures.id refl refl)
    (differ v.result u.result spec.services spec.until_input v.ensures.id u.ensures.id refl refl)
    c.arg-3.result c.arg-3.ensures s.ensures.value s.ensures.id

pub returns-clause-services : goal.returns-clause-services
returns-clause-services c =
    let bare = c.command.ensures in
    let s = c.settings in
    let v = c.services in
    let u = c.until_input in
    second_of_three c.command.result (bare.arguments, bare.groups, bare.local, bare.negates) c.in_ok-arg.field-0 c.in_ok-arg-2.field-0
    s.result v.result u.result spec.services c.in_ok-arg.ensures c.in_ok-arg-2.ensures s.ensures.fits v.ensures.fits u.ensures.fits
    (differ s.result v.result spec.settings spec.services s.ensures.id v.ensures.id refl refl)
    (differ s.result u.result spec.settings spec.until_input s.ensures.id u.ensures.id refl refl)
    (differ v.result u.result spec.services spec.until_input v.ensures.id u.ensures.id refl refl)
    c.arg-3.result c.arg-3.ensures v.ensures.value v.ensures.id

pub returns-clause-app : goal.returns-clause-app
returns-clause-app c =
    IfOk-weaker c.arg-3.result (AddsArg c.in_ok-arg-2.field-0 c.until_input.result) (λ cmd. app_of cmd ≡ spec.serve_app)
    (λ cmd added. app_of_three c.command.result c.in_ok-arg.field-0 c.in_ok-arg-2.field-0 cmd c.settings.result c.services.result c.until_input.result
    c.in_ok-arg.ensures c.in_ok-arg-2.ensures added c.settings.ensures.fits c.services.ensures.fits c.until_input.ensures.fits
    c.command.ensures.app c.settings.ensures.rule c.services.ensures.rule c.until_input.ensures.rule) c.arg-3.ensures
