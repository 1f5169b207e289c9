use Rattle.std.proofs.Common.{length, arith}
use Rattle.level_search.proofs.Filling.{AreBusy-closed, IsFilled-refl}
use Rattle.level_search.proofs.fill.fill_machine.Goals as goal

pub returns-then-takes_nobody-clause-filled : goal.returns-then-takes_nobody-clause-filled
returns-then-takes_nobody-clause-filled c =
    let t = c.args.tables.now in
    IsFilled-refl c.args.functions t.pairs t.most.now t.owner.now t.count.now c.requires.sound.assigned c.requires.sound.counted c.requires.sound.within

pub returns-then-takes_nobody-clause-busy : goal.returns-then-takes_nobody-clause-busy
returns-then-takes_nobody-clause-busy c =
    let t = c.args.tables.now in
    AreBusy-closed c.args.functions t.pairs t.most.now t.owner.now c.args.f c.args.m c.requires.sound.graph c.requires.sound.assigned c.requires.known (c.takes_nobody.ensures c.if-takes_nobody.true)
