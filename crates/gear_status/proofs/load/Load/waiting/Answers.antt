use Rattle.std.proofs.Common.{◌≡◌, Some, None, ◌∙◌, refl, sym}
use Rattle.gear_status.specs.Status.{counts_of}
use Rattle.gear_status.proofs.Lines.{counts_view}
use Rattle.gear_status.proofs.load.Load.waiting.Goals as goal

pub returns-in-Some : goal.returns-in-Some
returns-in-Some c =
    let found : counts_of c.args.self.now c.args.name.now ≡ Some c.in-Some.counts.now =
    rw (← c.self.view_is) (counts_view c.self.inside.lines.entries c.args.name.now ∙ sym c.in-Some.ensures.value) in
    record { jobs = rw found c.saturating_sub.ensures }

pub returns-in-None : goal.returns-in-None
returns-in-None c =
    let found : counts_of c.args.self.now c.args.name.now ≡ None =
    rw (← c.self.view_is) (counts_view c.self.inside.lines.entries c.args.name.now ∙ sym c.in-None.ensures.value) in
    record { jobs = rw found refl }
