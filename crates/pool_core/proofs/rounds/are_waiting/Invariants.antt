use Rattle.std.proofs.Common.{◌≡◌, take}
use Rattle.pool_settings.specs.Planning.{waiting_of}
use Rattle.pool_core.proofs.rounds.are_waiting.Given as goal

abbrev pub invariant-loop-number : goal.invariant-loop-number
invariant-loop-number l = take l.number l.waiting ≡ take l.number (waiting_of l.settings l.load)
