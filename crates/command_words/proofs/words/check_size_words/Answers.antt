use Rattle.std.proofs.Common.{◌≡◌, [], Some, map, option_map, refl, ap, sym, subst, ◌∙◌, true}
use Rattle.std.specs.Int.NonZero.{non_zero_u32_get}
use Rattle.std.proofs.lemmas.Result.{err_from_is_err_and}
use Rattle.clap.specs.Simple.{HasMatchesOf, matches_of}
use Rattle.clap.specs.Words.{HasKind, fault_of, is_simple_and_free}
use Rattle.clap.specs.Walk.{first_of}
use Rattle.command_words.specs.Words as spec
use Rattle.command_words.proofs.Chain.{in_first}
use Rattle.command_words.proofs.Levels.{level_right, level_told, level_wrong}
use Rattle.command_words.proofs.words.check_size_words.Goals as goal

pub returns-in_err-matches-clause-kinds : goal.returns-in_err-matches-clause-kinds
returns-in_err-matches-clause-kinds g c =
    let p = err_from_is_err_and c.from_residual-in_err-matches.result c.from_residual-in_err-matches.ensures.1 in
    rw (p.1, p.2)
    (in_first (fault_of spec.check_size_app (map g.W.AsStr.text c.args.words.now)) _ c.in_err-matches.field-0.0
    (subst (λ a. is_simple_and_free a ≡ true → HasKind (fault_of a (map g.W.AsStr.text c.args.words.now)) c.in_err-matches.field-0.0)
    c.in_ok-command.ensures.app c.in_err-matches.ensures.kinds refl))

pub returns-in-Some-clause-level : goal.returns-in-Some-clause-level
returns-in-Some-clause-level g c =
    let words = map g.W.AsStr.text c.args.words.now in
    let has = subst (λ a. HasMatchesOf a words c.in_ok-matches.matches) c.in_ok-command.ensures.app c.in_ok-matches.ensures.matches in
    let rows = has refl in
    let word : first_of spec.backlog (matches_of spec.check_size_app words) ≡ Some c.text_of-backlog.result.now =
    ap (first_of spec.backlog) (sym rows.0) ∙ c.text_of-backlog.ensures in
    let level = level_told spec.check_size_app words c.text_of-backlog.result.now word ∙ sym c.level_of.ensures in
    level ∙ ap (option_map (option_map non_zero_u32_get)) c.in-Some.is

pub returns-in-Some-clause-kinds : goal.returns-in-Some-clause-kinds
returns-in-Some-clause-kinds g c =
    let words = map g.W.AsStr.text c.args.words.now in
    let has = subst (λ a. HasMatchesOf a words c.in_ok-matches.matches) c.in_ok-command.ensures.app c.in_ok-matches.ensures.matches in
    let rows = has refl in
    let word : first_of spec.backlog (matches_of spec.check_size_app words) ≡ Some c.text_of-backlog.result.now =
    ap (first_of spec.backlog) (sym rows.0) ∙ c.text_of-backlog.ensures in
    let level = level_told spec.check_size_app words c.text_of-backlog.result.now word ∙ sym c.level_of.ensures in
    let free = subst (λ a. is_simple_and_free a ≡ true → fault_of a words ≡ []) c.in_ok-command.ensures.app c.in_ok-matches.ensures.kinds refl in
    level_right spec.check_size_app words (option_map non_zero_u32_get c.in-Some.level) free (level ∙ ap (option_map (option_map non_zero_u32_get)) c.in-Some.is)

pub returns-clause-kinds : goal.returns-clause-kinds
returns-clause-kinds g c =
    let words = map g.W.AsStr.text c.args.words.now in
    let has = subst (λ a. HasMatchesOf a words c.in_ok-matches.matches) c.in_ok-command.ensures.app c.in_ok-matches.ensures.matches in
    let rows = has refl in
    let word : first_of spec.backlog (matches_of spec.check_size_app words) ≡ Some c.text_of-backlog.result.now =
    ap (first_of spec.backlog) (sym rows.0) ∙ c.text_of-backlog.ensures in
    let level = level_told spec.check_size_app words c.text_of-backlog.result.now word ∙ sym c.level_of.ensures in
    let free = subst (λ a. is_simple_and_free a ≡ true → fault_of a words ≡ []) c.in_ok-command.ensures.app c.in_ok-matches.ensures.kinds refl in
    level_wrong spec.check_size_app words c.in_ok-no_level-in-None.field-0 free (level ∙ ap (option_map (option_map non_zero_u32_get)) c.in-None.is)
    c.in_ok-no_level-in-None.ensures

pub text_of-settings-requires : goal.text_of-settings-requires
text_of-settings-requires g c = c.in_ok-command.ensures.settings c.in_ok-matches.matches c.in_ok-matches.ensures.parsed

pub text_of-status-requires : goal.text_of-status-requires
text_of-status-requires g c = c.in_ok-command.ensures.status c.in_ok-matches.matches c.in_ok-matches.ensures.parsed

pub text_of-backlog-requires : goal.text_of-backlog-requires
text_of-backlog-requires g c = c.in_ok-command.ensures.backlog c.in_ok-matches.matches c.in_ok-matches.ensures.parsed

pub returns-in-Some-clause-settings : goal.returns-in-Some-clause-settings
returns-in-Some-clause-settings g c =
    let words = map g.W.AsStr.text c.args.words.now in
    let has = subst (λ a. HasMatchesOf a words c.in_ok-matches.matches) c.in_ok-command.ensures.app c.in_ok-matches.ensures.matches in
    let rows = has refl in
    ap (first_of spec.settings) (sym rows.0) ∙ c.text_of-settings.ensures

pub returns-in-Some-clause-status : goal.returns-in-Some-clause-status
returns-in-Some-clause-status g c =
    let words = map g.W.AsStr.text c.args.words.now in
    let has = subst (λ a. HasMatchesOf a words c.in_ok-matches.matches) c.in_ok-command.ensures.app c.in_ok-matches.ensures.matches in
    let rows = has refl in
    ap (first_of spec.status) (sym rows.0) ∙ c.text_of-status.ensures

pub returns-in-Some-clause-lost : goal.returns-in-Some-clause-lost
returns-in-Some-clause-lost g c =
    let words = map g.W.AsStr.text c.args.words.now in
    let has = subst (λ a. HasMatchesOf a words c.in_ok-matches.matches) c.in_ok-command.ensures.app c.in_ok-matches.ensures.matches in
    let rows = has refl in
    c.in_ok-lost.ensures ∙ ap spec.lost_in rows.0
