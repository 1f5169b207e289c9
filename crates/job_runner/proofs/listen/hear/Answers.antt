use Rattle.std.proofs.Common.{◌≡◌, ℕ, ◌++◌, List, Result, Ok, take, ap, subst, ◌∙◌, length, ◌≤◌, ◌+◌, arith}
use Rattle.byte_io.specs.declared.device.Took.{Took}
use Rattle.byte_io.specs.declared.device.DeviceFault.{DeviceFault}
use Rattle.byte_io.specs.Device.{taken}
use Rattle.byte_io.specs.Sides.{and_then}
use Rattle.job_runner.proofs.Told.{goes_after}
use Rattle.job_runner.proofs.Listening.{hears_piece, says_first_still, grows, piece_read, lull_read, some_read}
use Rattle.job_runner.proofs.listen.hear.Goals as goal

pub returns-in-Ok-clause-hears : goal.returns-in-Ok-clause-hears
returns-in-Ok-clause-hears g c = λ before read given at h.
    let into = c.take.new.buffer in
    let piece = take c.in-Ok-Bytes.count into in
    let got : taken into c.take.result ≡ piece = ap (λ (r : Result Took DeviceFault). taken into r) c.in-Ok-Bytes.is ∙ ap (λ (t : Took). taken into (Ok t)) c.in-Ok-Bytes.field-0-is in (
      read ++ piece,
      goes_after before read (taken into c.take.result) _ _ at c.take.ensures.bytes ∙ ap (λ (x : List ℕ). and_then before (read ++ x)) got,
      (let few = subst (λ (x : List ℕ). length (read ++ x) ≤ length read + length into) got (grows c.take.result into read _ c.take.ensures.within) in omega (arith, few, c.take.auto.buffer)),
      hears_piece c.cut_anywhere.ensures read piece given c.args.reader.now c.feed.new.self h c.in-Ok.ensures.0,
    )

pub returns-in-Err-Fault-clause-hears : goal.returns-in-Err-Fault-clause-hears
returns-in-Err-Fault-clause-hears g c = λ before read given at h.
    let into = c.take.new.buffer in
    let piece = take c.in-Ok-Bytes.count into in
    let fed = rw c.in-Err-Fault.field-0-is at c.in-Err-Fault.ensures in
    let got : taken into c.take.result ≡ piece = ap (λ (r : Result Took DeviceFault). taken into r) c.in-Ok-Bytes.is ∙ ap (λ (t : Took). taken into (Ok t)) c.in-Ok-Bytes.field-0-is in (
      read ++ piece,
      goes_after before read (taken into c.take.result) _ _ at c.take.ensures.bytes ∙ ap (λ (x : List ℕ). and_then before (read ++ x)) got,
      (let few = subst (λ (x : List ℕ). length (read ++ x) ≤ length read + length into) got (grows c.take.result into read _ c.take.ensures.within) in omega (arith, few, c.take.auto.buffer)),
      hears_piece c.cut_anywhere.ensures read piece given c.args.reader.now c.feed.new.self h fed.0,
    )

pub returns-in-Err-Memory-clause-hears : goal.returns-in-Err-Memory-clause-hears
returns-in-Err-Memory-clause-hears g c = λ before read given at h.
    let into = c.take.new.buffer in
    let piece = taken into c.take.result in (
      read ++ piece,
      goes_after before read piece _ _ at c.take.ensures.bytes,
      (let few = grows c.take.result into read _ c.take.ensures.within in omega (arith, few, c.take.auto.buffer)),
      says_first_still c.cut_anywhere.ensures read piece given c.args.reader.now h,
    )

pub returns-in-Ok-clause-reads : goal.returns-in-Ok-clause-reads
returns-in-Ok-clause-reads g c = piece_read c.take.result c.in-Ok-Bytes.count c.take.new.buffer _ _ _ (c.in-Ok-Bytes.is ∙ ap (λ (t : Took). let z : Result Took DeviceFault = Ok t in z) c.in-Ok-Bytes.field-0-is) c.take.auto.buffer c.take.ensures.within c.take.ensures.bytes c.take.ensures.pauses

pub returns-in-Err-Fault-clause-reads : goal.returns-in-Err-Fault-clause-reads
returns-in-Err-Fault-clause-reads g c = piece_read c.take.result c.in-Ok-Bytes.count c.take.new.buffer _ _ _ (c.in-Ok-Bytes.is ∙ ap (λ (t : Took). let z : Result Took DeviceFault = Ok t in z) c.in-Ok-Bytes.field-0-is) c.take.auto.buffer c.take.ensures.within c.take.ensures.bytes c.take.ensures.pauses

pub returns-in-Err-Memory-clause-reads : goal.returns-in-Err-Memory-clause-reads
returns-in-Err-Memory-clause-reads g c = some_read c.take.result c.take.new.buffer _ _ _ c.take.auto.buffer c.take.ensures.within c.take.ensures.bytes c.take.ensures.pauses

pub returns-in-Ok-Lull-clause-reads : goal.returns-in-Ok-Lull-clause-reads
returns-in-Ok-Lull-clause-reads g c = lull_read c.take.result c.take.new.buffer _ _ _ (c.in-Ok-Lull.is ∙ ap (λ (t : Took). let z : Result Took DeviceFault = Ok t in z) c.in-Ok-Lull.field-0-is) c.take.auto.buffer c.take.ensures.within c.take.ensures.bytes c.take.ensures.pauses

pub returns-in-Ok-Ended-clause-reads : goal.returns-in-Ok-Ended-clause-reads
returns-in-Ok-Ended-clause-reads g c = some_read c.take.result c.take.new.buffer _ _ _ c.take.auto.buffer c.take.ensures.within c.take.ensures.bytes c.take.ensures.pauses
