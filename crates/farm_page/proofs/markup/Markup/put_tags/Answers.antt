use Rattle.farm_page.proofs.Marks.{still_markup}
use Rattle.farm_page.proofs.markup.Markup.put_tags.Goals as goal

pub invariant_of-self : goal.invariant_of-self
invariant_of-self c = still_markup c.put_text.result _ _ _ c.self.invariant c.requires c.put_text.ensures.ok c.put_text.ensures.err
