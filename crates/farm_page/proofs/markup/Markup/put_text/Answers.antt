use Rattle.std.proofs.Common.{◌∙◌, ◌++◌, ap}
use Rattle.std.specs.Prelude.{if◌then◌else◌}
use Rattle.std.specs.Result.{is_ok}
use Rattle.farm_page.specs.Escaping.{page_text}
use Rattle.farm_page.proofs.Marks.{is_markup-page_text, still_markup_if}
use Rattle.farm_page.proofs.markup.Markup.put_text.Goals as goal

pub invariant_of-self : goal.invariant_of-self
invariant_of-self c =
    let old = c.self.inside.bytes.items in
    let text = c.args.text.now in
    let added = c.extend_from_slice.ensures.items
    ∙ ap (λ t. if is_ok c.extend_from_slice.result then old ++ t else old) (c.as_slice.ensures.value ∙ c.in_ok-words.ensures.text) in
    still_markup_if (is_ok c.extend_from_slice.result) old (page_text text) _ c.self.invariant (is_markup-page_text text) added
