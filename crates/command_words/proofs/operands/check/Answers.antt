use Rattle.std.proofs.Common.{◌≡◌, refl}
use Rattle.std.proofs.lemmas.Result.{IfOk-weaker}
use Rattle.clap.specs.Built.{AddsArg}
use Rattle.clap.specs.Simple.{app_of}
use Rattle.command_words.specs.Words as spec
use Rattle.command_words.proofs.Chain.{app_of_three, differ}
use Rattle.command_words.proofs.Required.{first_of_three, second_of_three}
use Rattle.command_words.proofs.operands.check.Goals as goal

pub returns-clause-settings : goal.returns-clause-settings
returns-clause-settings c =
    let bare = c.command.ensures in
    let s = c.settings in
    let t = c.status in
    let l = c.lost in
    first_of_three c.command.result (bare.arguments, bare.groups, bare.local, bare.negates) c.in_ok-arg.field-0 c.in_ok-arg-2.field-0
    s.result t.result l.result spec.settings c.in_ok-arg.ensures c.in_ok-arg-2.ensures s.ensures.fits t.ensures.fits l.ensures.fits
    (differ s.result t.result spec.settings spec.status s.ensures.id t.ensures.id refl refl)
    (differ s.result l.result spec.settings spec.lost s.ensures.id l.ensures.id refl refl)
    (differ t.result l.result spec.status spec.lost t.ensures.id l.ensures.id refl refl)
    c.arg-3.result c.arg-3.ensures s.ensures.value s.ensures.id

pub returns-clause-status : goal.returns-clause-status
returns-clause-status c =
    let bare = c.command.ensures in
    let s = c.settings in
    let t = c.status in
    let l = c.lost in
    second_of_three c.command.result (bare.arguments, bare.groups, bare.local, bare.negates) c.in_ok-arg.field-0 c.in_ok-arg-2.field-0
    s.result t.result l.result spec.status c.in_ok-arg.ensures c.in_ok-arg-2.ensures s.ensures.fits t.ensures.fits l.ensures.fits
    (differ s.result t.result spec.settings spec.status s.ensures.id t.ensures.id refl refl)
    (differ s.result l.result spec.settings spec.lost s.ensures.id l.ensures.id refl refl)
    (differ t.result l.result spec.status spec.lost t.ensures.id l.ensures.id refl refl)
    c.arg-3.result c.arg-3.ensures t.ensures.value t.ensures.id

pub returns-clause-app : goal.returns-clause-app
returns-clause-app c =
    IfOk-weaker c.arg-3.result (AddsArg c.in_ok-arg-2.field-0 c.lost.result) (λ cmd. app_of cmd ≡ spec.check_app)
    (λ cmd added. app_of_three c.command.result c.in_ok-arg.field-0 c.in_ok-arg-2.field-0 cmd c.settings.result c.status.result c.lost.result
    c.in_ok-arg.ensures c.in_ok-arg-2.ensures added c.settings.ensures.fits c.status.ensures.fits c.lost.ensures.fits
    c.command.ensures.app c.settings.ensures.rule c.status.ensures.rule c.lost.ensures.rule) c.arg-3.ensures
