use Rattle.std.proofs.Common.{◌<◌, length, map, sym, ap, arith}
use Rattle.std.proofs.lemmas.Result.{err_from_is_err_and}
use Rattle.gear_packets.specs.Requests.{packet_of}
use Rattle.job_runner.specs.Told.{told_of, remark_of}
use Rattle.job_runner.proofs.Replies.{note_encoded, note_too_large}
use Rattle.job_runner.proofs.reply.encode_outcome.Goals as goal

pub loop-note-preserved : goal.loop-note-preserved
loop-note-preserved c =
    let within : c.loop-note.note-index < length c.deref-note-items.result.now = omega (arith, c.loop-note-test.true) in
    let next = note_encoded c.args.handle.now c.deref-note-items.result.now c.loop-note.note-index c.note-item.result c.loop-note.text.items c.encode_into.new.text.items (packet_of c.note_request.result)
    within c.note-item.is c.note_request.ensures c.loop-note.invariant.text c.loop-note.invariant.each c.in_ok-encode_into.ensures.encoded c.in_ok-encode_into.ensures.sent in
    record { text = next.0; each = next.1 }

pub returns-in_err-encode_into-clause-refused : goal.returns-in_err-encode_into-clause-refused
returns-in_err-encode_into-clause-refused c =
    let within : c.loop-note.note-index < length c.deref-note-items.result.now = omega (arith, c.loop-note-test.true) in
    let p = err_from_is_err_and c.from_residual.result c.from_residual.ensures.1 in
    rw (p.1, p.2) (λ other. note_too_large c.args.handle.now (told_of c.args.outcome.now) c.deref-note-items.result.now c.loop-note.note-index c.note-item.result (packet_of c.note_request.result) c.in_err-encode_into.field-0.0
    within c.note-item.is c.note_request.ensures (ap (map remark_of) (sym c.deref-note-items.ensures.value)) c.in_err-encode_into.ensures.refused other)
