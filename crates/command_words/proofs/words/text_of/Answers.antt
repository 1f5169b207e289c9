use Rattle.std.proofs.Common.{◌≡◌, ◌∙◌, sym, subst, is_some, true}
use Rattle.std.proofs.lemmas.Bool.{false≢true}
use Rattle.clap.specs.Words.{found_of}
use Rattle.clap.proofs.CallerLemmas.{some_of_text}
use Rattle.command_words.proofs.Rows.{first_of_rows}
use Rattle.command_words.proofs.words.text_of.Goals as goal

pub unreachable-requires : goal.unreachable-requires
unreachable-requires c =
    let some = some_of_text _ c.get_str.result _ c.get_str.ensures c.requires in
    absurd (false≢true (subst (λ o. is_some o ≡ true) c.in_default.is some))

pub returns : goal.returns
returns c = first_of_rows (found_of c.args.matches.now) c.args.id.now ∙ sym c.in-Some.ensures
