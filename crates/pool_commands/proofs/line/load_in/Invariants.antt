use Rattle.std.proofs.Common.{◌≡◌, ◌+◌, [], length, option_map}
use Rattle.std.specs.Option.{option_map_or}
use Rattle.pool_commands.specs.Grammar.{load_from}
use Rattle.pool_commands.specs.Words.{words_after}
use Rattle.pool_commands.proofs.line.load_in.Given as goal

-- the words that are left make of the load so far what all words make of none
abbrev pub invariant-loop-rest : goal.invariant-loop-rest
invariant-loop-rest l =
    load_from l.load (words_after (option_map (λ t. t.now) l.rest)) ≡ load_from [] (words_after (option_map (λ t. t.now) l.text))

abbrev pub decreases-loop-rest : goal.decreases-loop-rest
decreases-loop-rest l = option_map_or (λ t. length t.now + 1) l.rest 0
