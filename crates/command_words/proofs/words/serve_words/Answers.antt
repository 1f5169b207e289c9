use Rattle.std.proofs.Common.{◌≡◌, [], map, refl, ap, sym, subst, ◌∙◌, true}
use Rattle.std.proofs.lemmas.Result.{err_from_is_err_and}
use Rattle.clap.specs.Simple.{HasMatchesOf}
use Rattle.clap.specs.Words.{HasKind, fault_of, is_simple_and_free}
use Rattle.clap.specs.Walk.{first_of}
use Rattle.command_words.specs.Words as spec
use Rattle.command_words.proofs.words.serve_words.Goals as goal

pub returns-in_err-matches-clause-kinds : goal.returns-in_err-matches-clause-kinds
returns-in_err-matches-clause-kinds g c =
    let p = err_from_is_err_and c.from_residual-in_err-matches.result c.from_residual-in_err-matches.ensures.1 in
    rw (p.1, p.2)
    (subst (λ a. is_simple_and_free a ≡ true → HasKind (fault_of a (map g.W.AsStr.text c.args.words.now)) c.in_err-matches.field-0.0)
    c.in_ok-command.ensures.app c.in_err-matches.ensures.kinds refl)

pub text_of-settings-requires : goal.text_of-settings-requires
text_of-settings-requires g c = c.in_ok-command.ensures.settings c.in_ok-matches.matches c.in_ok-matches.ensures.parsed

pub text_of-services-requires : goal.text_of-services-requires
text_of-services-requires g c = c.in_ok-command.ensures.services c.in_ok-matches.matches c.in_ok-matches.ensures.parsed

pub returns-clause-kinds : goal.returns-clause-kinds
returns-clause-kinds g c =
    subst (λ a. is_simple_and_free a ≡ true → fault_of a (map g.W.AsStr.text c.args.words.now) ≡ [])
    c.in_ok-command.ensures.app c.in_ok-matches.ensures.kinds refl

pub returns-clause-settings : goal.returns-clause-settings
returns-clause-settings g c =
    let has = subst (λ a. HasMatchesOf a (map g.W.AsStr.text c.args.words.now) c.in_ok-matches.matches) c.in_ok-command.ensures.app c.in_ok-matches.ensures.matches in
    let rows = has refl in
    ap (first_of spec.settings) (sym rows.0) ∙ c.text_of-settings.ensures

pub returns-clause-services : goal.returns-clause-services
returns-clause-services g c =
    let has = subst (λ a. HasMatchesOf a (map g.W.AsStr.text c.args.words.now) c.in_ok-matches.matches) c.in_ok-command.ensures.app c.in_ok-matches.ensures.matches in
    let rows = has refl in
    ap (first_of spec.services) (sym rows.0) ∙ c.text_of-services.ensures

pub returns-clause-until_input : goal.returns-clause-until_input
returns-clause-until_input g c =
    let has = subst (λ a. HasMatchesOf a (map g.W.AsStr.text c.args.words.now) c.in_ok-matches.matches) c.in_ok-command.ensures.app c.in_ok-matches.ensures.matches in
    let rows = has refl in
    ap (spec.is_set spec.until_input) (sym rows.0) ∙ sym c.is_set-until_input.ensures
