use Rattle.std.proofs.Common.{IfSome, subst, sym, ap, ◌∙◌}
use Rattle.pool_commands.specs.Grammar as grammar
use Rattle.pool_settings.specs.Slots.{slots}
use Rattle.pool_replay.proofs.Slots.{slots_of_chapter}
use Rattle.pool_replay.proofs.running.answer_line.Goals as goal

pub execute-requires : goal.execute-requires
execute-requires c =
    let within = subst (λ o. IfSome o (grammar.IsCommandWithin (slots c.args.settings.now))) c.in-Some.is c.in_ok-command.ensures.within in
    subst (λ n. grammar.IsCommandWithin n c.in-Some.command)
    (sym (slots_of_chapter _ _ _ _ c.facts.ensures.replays ∙ ap slots c.requires)) within
