use Rattle.std.proofs.Common.{sym, subst}
use Rattle.size_report.specs.Law.{IsReadBack}
use Rattle.size_report.proofs.law.size_reads_back.Goals as goal

pub returns-in-TooMany : goal.returns-in-TooMany
returns-in-TooMany c =
    let back = subst (IsReadBack c.args.settings.now c.args.farm.now) (sym c.in-TooMany.is) c.too_many_reads_back.ensures in
    record { same = back.same; shown = back.shown; text = back.text }
