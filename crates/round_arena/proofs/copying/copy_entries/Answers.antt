use Rattle.std.proofs.Common.{refl, get_or, length}
use Rattle.std.proofs.lemmas.List.{get_or_read_under}
use Rattle.round_arena.proofs.Lists.{entries-more}
use Rattle.round_arena.proofs.copying.copy_entries.Goals as goal

pub loop-w-preserved : goal.loop-w-preserved
loop-w-preserved c =
    let w = c.loop-w.w in
    let owner = c.args.owner.now in
    entries-more c.args.functions w (get_or owner w 0) c.args.slots.now owner c.loop-w.entries.items c.push.new.self.items _ _ c.in_ok-push.ensures.items (get_or_read_under c.args.slots.now w (length c.args.slots.now) c.index-slots-w.result 0 c.index-slots-w.is c.loop-w-test.true refl) refl c.function_at.ensures c.loop-w.invariant
