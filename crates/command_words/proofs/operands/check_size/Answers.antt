use Rattle.std.proofs.Common.{◌≡◌, [], ◌∷◌, refl}
use Rattle.std.proofs.lemmas.Result.{IfOk-weaker}
use Rattle.clap.specs.Built.{AddsArg}
use Rattle.clap.specs.Simple.{app_of}
use Rattle.clap.specs.Built.{HasDistinctIds}
use Rattle.command_words.specs.Words as spec
use Rattle.command_words.proofs.Chain.{app_of_four, differ, four_distinct}
use Rattle.command_words.proofs.Required.{first_of_four, second_of_four, third_of_four}
use Rattle.command_words.proofs.operands.check_size.Goals as goal

pub returns-clause-settings : goal.returns-clause-settings
returns-clause-settings c =
    let bare = c.command.ensures in
    let s = c.settings in
    let t = c.status in
    let b = c.backlog in
    let l = c.lost in
    let distinct : HasDistinctIds (s.result ∷ t.result ∷ b.result ∷ l.result ∷ []) =
    four_distinct s.result t.result b.result l.result
    (differ s.result t.result spec.settings spec.status s.ensures.id t.ensures.id refl refl)
    (differ s.result b.result spec.settings spec.backlog s.ensures.id b.ensures.id refl refl)
    (differ s.result l.result spec.settings spec.lost s.ensures.id l.ensures.id refl refl)
    (differ t.result b.result spec.status spec.backlog t.ensures.id b.ensures.id refl refl)
    (differ t.result l.result spec.status spec.lost t.ensures.id l.ensures.id refl refl)
    (differ b.result l.result spec.backlog spec.lost b.ensures.id l.ensures.id refl refl) in
    first_of_four c.command.result (bare.arguments, bare.groups, bare.local, bare.negates)
    c.in_ok-arg.field-0 c.in_ok-arg-2.field-0 c.in_ok-arg-3.field-0 s.result t.result b.result l.result
    c.in_ok-arg.ensures c.in_ok-arg-2.ensures c.in_ok-arg-3.ensures s.ensures.fits t.ensures.fits b.ensures.fits l.ensures.fits distinct
    spec.settings c.arg-4.result c.arg-4.ensures s.ensures.value s.ensures.id

pub returns-clause-status : goal.returns-clause-status
returns-clause-status c =
    let bare = c.command.ensures in
    let s = c.settings in
    let t = c.status in
    let b = c.backlog in
    let l = c.lost in
    let distinct : HasDistinctIds (s.result ∷ t.result ∷ b.result ∷ l.result ∷ []) =
    four_distinct s.result t.result b.result l.result
    (differ s.result t.result spec.settings spec.status s.ensures.id t.ensures.id refl refl)
    (differ s.result b.result spec.settings spec.backlog s.ensures.id b.ensures.id refl refl)
    (differ s.result l.result spec.settings spec.lost s.ensures.id l.ensures.id refl refl)
    (differ t.result b.result spec.status spec.backlog t.ensures.id b.ensures.id refl refl)
    (differ t.result l.result spec.status spec.lost t.ensures.id l.ensures.id refl refl)
    (differ b.result l.result spec.backlog spec.lost b.ensures.id l.ensures.id refl refl) in
    second_of_four c.command.result (bare.arguments, bare.groups, bare.local, bare.negates)
    c.in_ok-arg.field-0 c.in_ok-arg-2.field-0 c.in_ok-arg-3.field-0 s.result t.result b.result l.result
    c.in_ok-arg.ensures c.in_ok-arg-2.ensures c.in_ok-arg-3.ensures s.ensures.fits t.ensures.fits b.ensures.fits l.ensures.fits distinct
    spec.status c.arg-4.result c.arg-4.ensures t.ensures.value t.ensures.id

pub returns-clause-backlog : goal.returns-clause-backlog
returns-clause-backlog c =
    let bare = c.command.ensures in
    let s = c.settings in
    let t = c.status in
    let b = c.backlog in
    let l = c.lost in
    let distinct : HasDistinctIds (s.result ∷ t.result ∷ b.result ∷ l.result ∷ []) =
    four_distinct s.result t.result b.result l.result
    (differ s.result t.result spec.settings spec.status s.ensures.id t.ensures.id refl refl)
    (differ s.result b.result spec.settings spec.backlog s.ensures.id b.ensures.id refl refl)
    (differ s.result l.result spec.settings spec.lost s.ensures.id l.ensures.id refl refl)
    (differ t.result b.result spec.status spec.backlog t.ensures.id b.ensures.id refl refl)
    (differ t.result l.result spec.status spec.lost t.ensures.id l.ensures.id refl refl)
    (differ b.result l.result spec.backlog spec.lost b.ensures.id l.ensures.id refl refl) in
    third_of_four c.command.result (bare.arguments, bare.groups, bare.local, bare.negates)
    c.in_ok-arg.field-0 c.in_ok-arg-2.field-0 c.in_ok-arg-3.field-0 s.result t.result b.result l.result
    c.in_ok-arg.ensures c.in_ok-arg-2.ensures c.in_ok-arg-3.ensures s.ensures.fits t.ensures.fits b.ensures.fits l.ensures.fits distinct
    spec.backlog c.arg-4.result c.arg-4.ensures b.ensures.value b.ensures.id

pub returns-clause-app : goal.returns-clause-app
returns-clause-app c =
    IfOk-weaker c.arg-4.result (AddsArg c.in_ok-arg-3.field-0 c.lost.result) (λ cmd. app_of cmd ≡ spec.check_size_app)
    (λ cmd added. app_of_four c.command.result c.in_ok-arg.field-0 c.in_ok-arg-2.field-0 c.in_ok-arg-3.field-0 cmd c.settings.result c.status.result c.backlog.result c.lost.result
    c.in_ok-arg.ensures c.in_ok-arg-2.ensures c.in_ok-arg-3.ensures added c.settings.ensures.fits c.status.ensures.fits c.backlog.ensures.fits c.lost.ensures.fits
    c.command.ensures.app c.settings.ensures.rule c.status.ensures.rule c.backlog.ensures.rule c.lost.ensures.rule) c.arg-4.ensures
