use Rattle.std.proofs.Common.{sym, subst}
use Rattle.slot_turns.specs.Turns.{AreInTurn}
use Rattle.slot_turns.proofs.turns.SlotTurns.new.Goals as goal

pub returns-clause-in_turn : goal.returns-clause-in_turn
returns-clause-in_turn c = subst (AreInTurn c.args.settings.now) (sym c.from_vec.ensures.items) c.in_ok-order.ensures.in_turn
