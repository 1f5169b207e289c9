use Rattle.std.proofs.Common.{◌++◌, ◌∙◌, ap, append_assoc, arith, length, string_bytes, subst}
use Rattle.plan_sizing.specs.Shown.{Shown}
use Rattle.pool_report.specs.Report.{short_lines}
use Rattle.size_report.specs.Text.{short_of, too_many_line}
use Rattle.size_report.proofs.Written.{listed_slots, on_ok}
use Rattle.size_report.proofs.text.push_answer.Goals as goal

pub push_tasks-requires-clause-slots : goal.push_tasks-requires-clause-slots
push_tasks-requires-clause-slots c k d inside =
    let shown = subst (Shown c.args.farm.now) c.in-Enough.is c.requires.shown in
    omega (arith, listed_slots c.args.farm.now c.in-Enough.added c.in-Enough.plan c.facts.ensures shown.permitted k d inside, c.requires.slots, ap length c.machines-machines.ensures.all)

pub returns-in_ok-push_too_many-in-TooMany : goal.returns-in_ok-push_too_many-in-TooMany
returns-in_ok-push_too_many-in-TooMany c =
    let lines = short_lines (short_of c.args.settings.now c.args.farm.now c.in-TooMany.short) in
    on_ok c.push_set.result c.push_set.ensures (λ told.
    rw c.in-TooMany.is (told ∙ ap (λ t. t ++ lines) c.in_ok-push_too_many-in-TooMany.ensures
    ∙ append_assoc (string_bytes c.args.out.now) (too_many_line c.in-TooMany.added) lines))
