use Rattle.std.proofs.Common.{◌<◌, length, arith}
use Rattle.level_search.proofs.Spreading.{pairs-more, pairs-all}
use Rattle.level_search.proofs.spread.spread.Goals as goal

pub move_worker-requires-clause-looks : goal.move_worker-requires-clause-looks
move_worker-requires-clause-looks c =
    let t = c.args.tables.now in
    let l = c.loop-w.invariant in
    let inside : c.loop-w.w < length t.machine.now = omega (arith, c.loop-w-test.true, c.requires.settled.sound.staff) in
    omega (arith, l.looks, c.requires.looks, pairs-more c.args.input.now t c.loop-w.tables c.loop-w.w c.facts.ensures c.requires.settled.fits l.same inside)

pub returns-clause-looks : goal.returns-clause-looks
returns-clause-looks c =
    omega (arith, c.loop-w.invariant.looks, pairs-all c.args.input.now c.args.tables.now c.loop-w.w c.facts.ensures c.requires.settled.fits)
