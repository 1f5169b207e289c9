use Rattle.std.proofs.Common.{◌∙◌, ap, sym}
use Rattle.end_signals.specs.Status.{signal_status}
use Rattle.end_signals.proofs.reading.read_signals.Goals as goal

pub returns : goal.returns
returns g c =
    let said = sym c.in_ok-status.ensures in
    let same = ap signal_status (sym c.as_slice.ensures.value) in
    (c.in_ok-text.text.items, c.in_ok-text.ensures.whole, same ∙ said)
