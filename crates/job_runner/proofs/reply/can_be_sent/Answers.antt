use Rattle.std.proofs.Common.{◌≡◌, ◌<◌, ℕ, List, length, map, false, ap, sym, ◌∙◌, arith}
use Rattle.job_runner.specs.Told.{told_of, remark_of, remark_packet, can_send}
use Rattle.job_runner.proofs.Replies.{note_breaks}
use Rattle.job_runner.proofs.reply.can_be_sent.Goals as goal

pub returns-then-not-note_fits : goal.returns-then-not-note_fits
returns-then-not-note_fits c =
    let n = c.note-item.result in
    let within : c.loop-note.note-index < length c.deref-note-items.result.now = omega (arith, c.loop-note-test.true) in
    let small : can_send (remark_packet c.args.handle.now (remark_of n)) ≡ false = ap (λ (h : List ℕ). can_send (remark_packet h (remark_of n))) (sym c.bytes-name.ensures.value) ∙ sym c.if-not-note_fits.ensures in
    sym (note_breaks c.args.handle.now (told_of c.args.outcome.now) c.deref-note-items.result.now c.loop-note.note-index n within c.note-item.is (ap (map remark_of) (sym c.deref-note-items.ensures.value)) small)
