use Rattle.std.proofs.Common.{rules, tests, ◌<◌, ℕ, Bor, List, Option, length, option_map, ap}
use Rattle.pool_commands.proofs.Lines.{entry_read}
use Rattle.pool_commands.proofs.line.cut_entry.Goals as goal

abbrev seen : Option (Bor (List ℕ)) → Option (List ℕ)
seen text = option_map (λ t. t.now) text

pub returns-clause-entry : goal.returns-clause-entry
returns-clause-entry c = λ load.
    let named : 0 < length c.cut_word.result.0.now = search (rules, tests) in
    entry_read load c.args.text.now _ _ _ _ _ _ _ (seen c.cut_word-3.result.1) c.in_ok-total.total c.in_ok-running.running
    c.cut_word.ensures.words (ap seen c.in_ok-rest.was) c.cut_word-2.ensures.words
    (ap seen c.in_ok-rest-2.was) c.cut_word-3.ensures.words named c.in_ok-total.ensures c.in_ok-running.ensures
