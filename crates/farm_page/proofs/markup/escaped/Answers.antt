use Rattle.std.proofs.Common.{◌≡◌, ℕ, List, true, subst, sym}
use Rattle.std.specs.List.{list_all}
use Rattle.farm_page.specs.Escaping.{is_followed, opens_nothing}
use Rattle.farm_page.specs.Markup.{entities}
use Rattle.farm_page.proofs.Marks.{all_written, entities-page_text, opens_nothing-page_text}
use Rattle.farm_page.proofs.markup.escaped.Goals as goal

pub returns-clause-text : goal.returns-clause-text
returns-clause-text c = all_written c.loop-byte.words.items c.args.text.now c.loop-byte.byte-index c.loop-byte.invariant c.loop-byte-test.false

pub returns-clause-opens_nothing : goal.returns-clause-opens_nothing
returns-clause-opens_nothing c =
    let P : List ℕ → Type 0 = λ t. list_all opens_nothing t ≡ true in
    let text = c.args.text.now in
    subst P (sym (all_written c.loop-byte.words.items text c.loop-byte.byte-index c.loop-byte.invariant c.loop-byte-test.false)) (opens_nothing-page_text text)

pub returns-clause-own : goal.returns-clause-own
returns-clause-own c =
    let P : List ℕ → Type 0 = λ t. is_followed 38 entities t ≡ true in
    let text = c.args.text.now in
    subst P (sym (all_written c.loop-byte.words.items text c.loop-byte.byte-index c.loop-byte.invariant c.loop-byte-test.false)) (entities-page_text text)
