use Rattle.std.proofs.Common.{◌<◌, length, arith, rules}
use Rattle.augment.proofs.Trees.{tail-le}
use Rattle.augment.proofs.idle.way_to_idle.Goals as goal

pub bounds-tree-place : goal.bounds-tree-place
bounds-tree-place c = omega (arith, tail-le c.args.tree.now c.requires.tree, c.requires.tree.room.reached, c.loop-place-test.true)

pub offset_bounds-tree-place : goal.offset_bounds-tree-place
offset_bounds-tree-place c =
    let few : c.loop-place.place < length c.args.tree.now.reached.now = omega (arith, tail-le c.args.tree.now c.requires.tree, c.requires.tree.room.reached, c.loop-place-test.true) in
    search rules
