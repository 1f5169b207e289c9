use Rattle.farm_page.proofs.Marks.{is_markup-decimal, still_markup}
use Rattle.farm_page.proofs.markup.Markup.put_number.Goals as goal

pub invariant_of-self : goal.invariant_of-self
invariant_of-self c =
    still_markup c.put_number.result _ _ _ c.self.invariant (is_markup-decimal c.args.number c.ranges.number.fits) c.put_number.ensures.ok c.put_number.ensures.err
