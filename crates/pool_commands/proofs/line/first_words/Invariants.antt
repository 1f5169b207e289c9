use Rattle.std.proofs.Common.{◌≡◌, ◌++◌, ◌-◌, map, option_map, take}
use Rattle.pool_commands.specs.Words.{words_after}
use Rattle.pool_commands.proofs.line.first_words.Given as goal

-- the words so far, and of those that are left as many as are still wanted
abbrev pub invariant-loop-count : goal.invariant-loop-count
invariant-loop-count l =
    map (λ w. w.now) l.words.items ++ take (5 - l._count) (words_after (option_map (λ t. t.now) l.rest))
    ≡ take 5 (words_after (option_map (λ t. t.now) l.text))
