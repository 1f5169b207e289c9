use Rattle.std.proofs.Common.{ℕ, subst}
use Rattle.augment.specs.Round.{Hires}
use Rattle.level_search.proofs.Bisecting.{AreMet-kept, Fits-same, IsProbed-served}
use Rattle.level_search.proofs.Limits.{AreLimited-needs}
use Rattle.level_search.proofs.bisect.probe.Goals as goal

pub serve-requires-clause-limited : goal.serve-requires-clause-limited
serve-requires-clause-limited c =
    AreLimited-needs c.args.input.now c.fill_needs.new.needs c.args.level c.args.tables.now c.fill_needs.ensures c.requires.sound c.requires.fits

pub returns-clause-probed : goal.returns-clause-probed
returns-clause-probed c =
    IsProbed-served c.args.input.now c.fill_needs.new.needs c.args.level c.serve.new.tables c.in_ok-served.served c.fill_needs.ensures
    (Fits-same c.args.input.now c.args.tables.now c.serve.new.tables c.serve.ensures.same c.requires.fits) c.in_ok-served.ensures.served

pub returns-clause-kept : goal.returns-clause-kept
returns-clause-kept c higher l met =
    AreMet-kept c.args.input.now c.fill_needs.new.needs c.args.level higher c.args.tables.now c.serve.new.tables c.fill_needs.ensures c.serve.ensures.kept l met

pub returns-clause-hired : goal.returns-clause-hired
returns-clause-hired c =
    subst (λ (n : ℕ). Hires n c.args.tables.now c.serve.new.tables) c.fill_needs.ensures.size c.serve.ensures.paid.2
