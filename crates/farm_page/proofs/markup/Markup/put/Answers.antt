use Rattle.std.proofs.Common.{◌∙◌, ◌++◌, ap}
use Rattle.std.specs.Prelude.{if◌then◌else◌}
use Rattle.std.specs.Result.{is_ok}
use Rattle.farm_page.proofs.Marks.{still_markup_if}
use Rattle.farm_page.proofs.markup.Markup.put.Goals as goal

pub invariant_of-self : goal.invariant_of-self
invariant_of-self c =
    let old = c.self.inside.bytes.items in
    let added = c.extend_from_slice.ensures.items
    ∙ ap (λ t. if is_ok c.extend_from_slice.result then old ++ t else old) c.as_slice.ensures.value in
    still_markup_if (is_ok c.extend_from_slice.result) old c.part.inside.bytes.items _ c.self.invariant c.part.invariant added
