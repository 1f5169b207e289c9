use Rattle.std.proofs.Common.{length, subst, ap, arith}
use Rattle.std.proofs.lemmas.List.{length-map}
use Rattle.augment.specs.declared.serving.Served.{Served}
use Rattle.level_search.specs.Levels.{AreMet}
use Rattle.level_search.specs.Found.{IsProbed}
use Rattle.level_search.proofs.Paying.{needed_by}
use Rattle.level_search.proofs.bisect.find_short.Goals as goal

pub returns-in-All-clause-short : goal.returns-in-All-clause-short
returns-in-All-clause-short c =
    let i = c.args.input.now in
    let t = c.probe.new.tables in
    let met : AreMet i t.owner.now c.args.level = subst (λ (z : Served). IsProbed i c.args.level t z) c.in-All.is c.in_ok-set.ensures.probed in
    absurd (omega (
      arith,
      c.requires.exceeds,
      needed_by i t.owner.now c.args.level met,
      c.in_ok-set.ensures.same.staff,
      c.requires.sound.staff,
      ap length c.requires.fits.machines,
      length-map i.live (λ worker. worker.1),
    ))
