use Rattle.std.proofs.Common.{◌≡◌, map}
use Rattle.std.specs.List.{range_with_len}
use Rattle.slot_turns.proofs.Order.{numbered}
use Rattle.slot_turns.proofs.turns.order_of.Given as goal

-- the slots so far
abbrev pub invariant-loop-number : goal.invariant-loop-number
invariant-loop-number l = l.numbered.items ≡ map (numbered l.settings) (range_with_len 0 l.number)
