use Rattle.std.proofs.Common.{◌∙◌, ◌++◌, ◌∷◌, [], arith, ap, sym, refl, length-drop}
use Rattle.std.proofs.lemmas.List.{length-append}
use Rattle.byte_io.proofs.Devices.{more_gone, rest_taken}
use Rattle.http_jobs.specs.Clock.{shown_then}
use Rattle.http_jobs.proofs.Exchanges.{Shown, in_time_more, shown_twice}
use Rattle.http_jobs.proofs.sending.send_what_fits.Goals as goal

pub loop-count-preserved : goal.loop-count-preserved
loop-count-preserved g c =
    let tail = rest_taken c.loop-count.count c.args.bytes.now in
    let bytes = rw c.in-Ok-Some.field-0-is at c.in-Ok-Some.ensures.bytes in
    let within = rw (c.in-Ok-Some.field-0-is, tail) at c.in-Ok-Some.ensures.within in
    let so_far = c.loop-count.invariant.shown in
    let look = c.is_late.ensures in
    record {
      gone_out = rw (bytes, c.loop-count.invariant.gone_out, tail) (more_gone _ _ _ _);
      unfailed = omega (arith, c.in-Ok-Some.ensures.fails, c.loop-count.invariant.unfailed);
      unread = c.in-Ok-Some.ensures.input ∙ c.loop-count.invariant.unread;
      within = omega (arith, within.1, length-drop c.loop-count.count c.args.bytes.now);
      shown = (so_far.0 ++ look.0 ∷ [], look.1 ∙ ap (λ (o : Shown). shown_then o (look.0 ∷ [])) so_far.1 ∙ shown_twice _ so_far.0 (look.0 ∷ []), in_time_more c.args.deadline so_far.0 look.0 so_far.2 (sym look.2 ∙ c.if-is_late.false));
    }

pub returns-then-is_late-clause-why : goal.returns-then-is_late-clause-why
returns-then-is_late-clause-why g c =
    let so_far = c.loop-count.invariant.shown in
    let look = c.is_late.ensures in
    (so_far.0 ++ look.0 ∷ [], look.1 ∙ ap (λ (o : Shown). shown_then o (look.0 ∷ [])) so_far.1 ∙ shown_twice _ so_far.0 (look.0 ∷ []), tt, (so_far.0, look.0, refl, so_far.2, sym look.2 ∙ c.if-is_late.true))

pub returns-then-is_late-2-clause-why : goal.returns-then-is_late-2-clause-why
returns-then-is_late-2-clause-why g c =
    let so_far = c.loop-count.invariant.shown in
    let look = c.is_late.ensures in
    let again = c.is_late-in-Err.ensures in
    let times = so_far.0 ++ look.0 ∷ [] in
    let shown = look.1 ∙ ap (λ (o : Shown). shown_then o (look.0 ∷ [])) so_far.1 ∙ shown_twice _ so_far.0 (look.0 ∷ []) in
    let in_time = in_time_more c.args.deadline so_far.0 look.0 so_far.2 (sym look.2 ∙ c.if-is_late.false) in
    (times ++ again.0 ∷ [], again.1 ∙ ap (λ (o : Shown). shown_then o (again.0 ∷ [])) shown ∙ shown_twice _ times (again.0 ∷ []), tt, (times, again.0, refl, in_time, sym again.2 ∙ c.if-is_late-2.true))

pub returns-in-Err-clause-why : goal.returns-in-Err-clause-why
returns-in-Err-clause-why g c =
    let so_far = c.loop-count.invariant.shown in
    let look = c.is_late.ensures in
    let again = c.is_late-in-Err.ensures in
    let times = so_far.0 ++ look.0 ∷ [] in
    let shown = look.1 ∙ ap (λ (o : Shown). shown_then o (look.0 ∷ [])) so_far.1 ∙ shown_twice _ so_far.0 (look.0 ∷ []) in
    let in_time = in_time_more c.args.deadline so_far.0 look.0 so_far.2 (sym look.2 ∙ c.if-is_late.false) in (
      times ++ again.0 ∷ [],
      again.1 ∙ ap (λ (o : Shown). shown_then o (again.0 ∷ [])) shown ∙ shown_twice _ times (again.0 ∷ []),
      tt,
      (omega (arith, c.in-Err.ensures.fails, c.loop-count.invariant.unfailed), in_time_more c.args.deadline times again.0 in_time (sym again.2 ∙ c.if-is_late-2.false), omega (arith, length-append times (again.0 ∷ []), length-append so_far.0 (look.0 ∷ []))),
    )
