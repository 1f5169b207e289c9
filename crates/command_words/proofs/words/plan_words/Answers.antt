use Rattle.std.proofs.Common.{◌≡◌, [], map, refl, ap, sym, subst, ◌∙◌, true}
use Rattle.std.proofs.lemmas.Result.{err_from_is_err_and}
use Rattle.clap.specs.Simple.{HasMatchesOf}
use Rattle.clap.specs.Words.{HasKind, fault_of, is_simple_and_free}
use Rattle.clap.specs.Walk.{first_of}
use Rattle.command_words.specs.Words as spec
use Rattle.command_words.proofs.words.plan_words.Goals as goal

pub returns-in_err-matches-clause-kinds : goal.returns-in_err-matches-clause-kinds
returns-in_err-matches-clause-kinds g c =
    let p = err_from_is_err_and c.from_residual-in_err-matches.result c.from_residual-in_err-matches.ensures.1 in
    rw (p.1, p.2)
    (subst (λ a. is_simple_and_free a ≡ true → HasKind (fault_of a (map g.W.AsStr.text c.args.words.now)) c.in_err-matches.field-0.0)
    c.in_ok-command.ensures.app c.in_err-matches.ensures.kinds refl)

pub text_of-requires : goal.text_of-requires
text_of-requires g c = c.in_ok-command.ensures.settings c.in_ok-matches.matches c.in_ok-matches.ensures.parsed

pub returns-clause-kinds : goal.returns-clause-kinds
returns-clause-kinds g c =
    subst (λ a. is_simple_and_free a ≡ true → fault_of a (map g.W.AsStr.text c.args.words.now) ≡ [])
    c.in_ok-command.ensures.app c.in_ok-matches.ensures.kinds refl

pub returns-clause-settings : goal.returns-clause-settings
returns-clause-settings g c =
    let has = subst (λ a. HasMatchesOf a (map g.W.AsStr.text c.args.words.now) c.in_ok-matches.matches) c.in_ok-command.ensures.app c.in_ok-matches.ensures.matches in
    let rows = has refl in
    ap (first_of spec.settings) (sym rows.0) ∙ c.text_of.ensures

pub returns-clause-lost : goal.returns-clause-lost
returns-clause-lost g c =
    let has = subst (λ a. HasMatchesOf a (map g.W.AsStr.text c.args.words.now) c.in_ok-matches.matches) c.in_ok-command.ensures.app c.in_ok-matches.ensures.matches in
    let rows = has refl in
    c.in_ok-lost.ensures ∙ ap spec.lost_in rows.0
