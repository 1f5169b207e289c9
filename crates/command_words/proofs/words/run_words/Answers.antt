use Rattle.std.proofs.Common.{◌≡◌, [], map, refl, ap, sym, subst, ◌∙◌, true, arith}
use Rattle.std.proofs.lemmas.Result.{err_from_is_err_and}
use Rattle.clap.specs.Simple.{HasMatchesOf}
use Rattle.clap.specs.Words.{HasKind, fault_of, found_of, is_simple_and_free}
use Rattle.clap.specs.Walk.{first_of}
use Rattle.command_words.specs.Words as spec
use Rattle.std.specs.Prelude.{Some, unwrap_or}
use Rattle.std.specs.Str.Parse.{ParsesUnsigned, ExplainsUnsignedError, HasUnsignedDigitsIfOk}
use Rattle.command_words.proofs.Number.{number_given}
use Rattle.command_words.proofs.words.run_words.Goals as goal

pub returns-in_err-matches-clause-kinds : goal.returns-in_err-matches-clause-kinds
returns-in_err-matches-clause-kinds g c =
    let p = err_from_is_err_and c.from_residual-in_err-matches.result c.from_residual-in_err-matches.ensures.1 in
    rw (p.1, p.2)
    (subst (λ a. is_simple_and_free a ≡ true → HasKind (fault_of a (map g.W.AsStr.text c.args.words.now)) c.in_err-matches.field-0.0)
    c.in_ok-command.ensures.app c.in_err-matches.ensures.kinds refl)

pub text_of-requires : goal.text_of-requires
text_of-requires g c = c.in_ok-command.ensures.settings c.in_ok-matches.matches c.in_ok-matches.ensures.parsed

pub unreachable-requires : goal.unreachable-requires
unreachable-requires g c =
    let read = c.in_ok-command.ensures.rounds c.in_ok-matches.matches c.in_ok-matches.ensures.parsed in
    let given = number_given (λ bs x. ParsesUnsigned 32 10 bs x × ExplainsUnsignedError 10 bs x × HasUnsignedDigitsIfOk bs x) 32 spec.least_rounds spec.most_rounds
    (found_of c.in_ok-matches.matches) spec.rounds read.0 c.get_one.result c.get_one.ensures.value (λ w x parsed. parsed.0) (omega arith) read.1 read.2 in
    c.in_default.not-Some given.0 given.1

pub returns-clause-kinds : goal.returns-clause-kinds
returns-clause-kinds g c =
    subst (λ a. is_simple_and_free a ≡ true → fault_of a (map g.W.AsStr.text c.args.words.now) ≡ [])
    c.in_ok-command.ensures.app c.in_ok-matches.ensures.kinds refl

pub returns-clause-settings : goal.returns-clause-settings
returns-clause-settings g c =
    let has = subst (λ a. HasMatchesOf a (map g.W.AsStr.text c.args.words.now) c.in_ok-matches.matches) c.in_ok-command.ensures.app c.in_ok-matches.ensures.matches in
    let rows = has refl in
    ap (first_of spec.settings) (sym rows.0) ∙ c.text_of.ensures

pub returns-clause-rounds : goal.returns-clause-rounds
returns-clause-rounds g c =
    let read = c.in_ok-command.ensures.rounds c.in_ok-matches.matches c.in_ok-matches.ensures.parsed in
    let given = number_given (λ bs x. ParsesUnsigned 32 10 bs x × ExplainsUnsignedError 10 bs x × HasUnsignedDigitsIfOk bs x) 32 spec.least_rounds spec.most_rounds
    (found_of c.in_ok-matches.matches) spec.rounds read.0 c.get_one.result c.get_one.ensures.value (λ w x parsed. parsed.0) (omega arith) read.1 read.2 in
    let has = subst (λ a. HasMatchesOf a (map g.W.AsStr.text c.args.words.now) c.in_ok-matches.matches) c.in_ok-command.ensures.app c.in_ok-matches.ensures.matches in
    let rows = has refl in
    ap spec.rounds_in (sym rows.0) ∙ given.4 ∙ sym given.1 ∙ c.in-Some.is

pub returns-clause-range : goal.returns-clause-range
returns-clause-range g c =
    let read = c.in_ok-command.ensures.rounds c.in_ok-matches.matches c.in_ok-matches.ensures.parsed in
    let given = number_given (λ bs x. ParsesUnsigned 32 10 bs x × ExplainsUnsignedError 10 bs x × HasUnsignedDigitsIfOk bs x) 32 spec.least_rounds spec.most_rounds
    (found_of c.in_ok-matches.matches) spec.rounds read.0 c.get_one.result c.get_one.ensures.value (λ w x parsed. parsed.0) (omega arith) read.1 read.2 in
    let same : Some c.in-Some.rounds ≡ Some given.0 = sym c.in-Some.is ∙ given.1 in
    let is : c.in-Some.rounds ≡ given.0 = ap (λ o. unwrap_or o 0) same in
    rw is (given.2, given.3)
