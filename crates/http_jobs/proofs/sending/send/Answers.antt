use Rattle.std.proofs.Common.{◌∙◌, ◌++◌, ◌∷◌, [], ◌≤◌, length, drop, arith, ap, subst, sym, refl, length-drop}
use Rattle.std.proofs.lemmas.List.{length-append}
use Rattle.byte_io.specs.Sides.{Output}
use Rattle.byte_io.proofs.Devices.{more_gone, rest_taken}
use Rattle.http_jobs.specs.Clock.{shown_then}
use Rattle.http_jobs.proofs.Exchanges.{Shown, in_time_more, shown_twice}
use Rattle.http_jobs.proofs.sending.send.Goals as goal

pub loop-count-preserved : goal.loop-count-preserved
loop-count-preserved g c =
    let tail = rest_taken c.loop-count.count c.args.bytes.now in
    let fits : c.in-Ok.n ≤ length (drop c.loop-count.count c.args.bytes.now) = subst (λ t. c.in-Ok.n ≤ length t) tail c.in-Ok.ensures.within.1 in
    let so_far = c.loop-count.invariant.shown in
    let now = c.now_ms-now.result in
    let unfailed = ap (λ (o : Output). o.failures) c.limit_write.ensures.output in
    record {
      gone_out = rw (c.in-Ok.ensures.bytes, c.limit_write.ensures.output, c.loop-count.invariant.gone_out, tail) (more_gone _ _ _ _);
      unfailed = omega (arith, c.in-Ok.ensures.fails, unfailed, c.loop-count.invariant.unfailed);
      unread = c.in-Ok.ensures.input ∙ c.limit_write.ensures.input ∙ c.loop-count.invariant.unread;
      within = omega (arith, length-drop c.loop-count.count c.args.bytes.now);
      shown = (so_far.0 ++ now ∷ [], c.now_ms-now.ensures ∙ ap (λ (o : Shown). shown_then o (now ∷ [])) so_far.1 ∙ shown_twice _ so_far.0 (now ∷ []), in_time_more c.args.deadline so_far.0 now so_far.2 (sym c.is_past.ensures.past ∙ c.if-is_past.false));
    }

pub returns-then-is_past-clause-why : goal.returns-then-is_past-clause-why
returns-then-is_past-clause-why g c =
    let so_far = c.loop-count.invariant.shown in
    let now = c.now_ms-now.result in
    (so_far.0 ++ now ∷ [], c.now_ms-now.ensures ∙ ap (λ (o : Shown). shown_then o (now ∷ [])) so_far.1 ∙ shown_twice _ so_far.0 (now ∷ []), tt, (so_far.0, now, refl, so_far.2, sym c.is_past.ensures.past ∙ c.if-is_past.true))

pub returns-then-is_late-clause-why : goal.returns-then-is_late-clause-why
returns-then-is_late-clause-why g c =
    let so_far = c.loop-count.invariant.shown in
    let now = c.now_ms-now.result in
    let again = c.is_late.ensures in
    let times = so_far.0 ++ now ∷ [] in
    let shown = c.now_ms-now.ensures ∙ ap (λ (o : Shown). shown_then o (now ∷ [])) so_far.1 ∙ shown_twice _ so_far.0 (now ∷ []) in
    let in_time = in_time_more c.args.deadline so_far.0 now so_far.2 (sym c.is_past.ensures.past ∙ c.if-is_past.false) in
    (times ++ again.0 ∷ [], again.1 ∙ ap (λ (o : Shown). shown_then o (again.0 ∷ [])) shown ∙ shown_twice _ times (again.0 ∷ []), tt, (times, again.0, refl, in_time, sym again.2 ∙ c.if-is_late.true))

pub returns-in-Err-clause-why : goal.returns-in-Err-clause-why
returns-in-Err-clause-why g c =
    let so_far = c.loop-count.invariant.shown in
    let now = c.now_ms-now.result in
    let again = c.is_late.ensures in
    let times = so_far.0 ++ now ∷ [] in
    let shown = c.now_ms-now.ensures ∙ ap (λ (o : Shown). shown_then o (now ∷ [])) so_far.1 ∙ shown_twice _ so_far.0 (now ∷ []) in
    let unfailed = ap (λ (o : Output). o.failures) c.limit_write.ensures.output in
    let in_time = in_time_more c.args.deadline so_far.0 now so_far.2 (sym c.is_past.ensures.past ∙ c.if-is_past.false) in (
      times ++ again.0 ∷ [],
      again.1 ∙ ap (λ (o : Shown). shown_then o (again.0 ∷ [])) shown ∙ shown_twice _ times (again.0 ∷ []),
      tt,
      (omega (arith, c.in-Err.ensures.fails, unfailed, c.loop-count.invariant.unfailed), in_time_more c.args.deadline times again.0 in_time (sym again.2 ∙ c.if-is_late.false), omega (arith, length-append times (again.0 ∷ []), length-append so_far.0 (now ∷ []))),
    )

pub returns-clause-why : goal.returns-clause-why
returns-clause-why g c =
    let so_far = c.loop-count.invariant.shown in
    (so_far.0, so_far.1, so_far.2, tt)
