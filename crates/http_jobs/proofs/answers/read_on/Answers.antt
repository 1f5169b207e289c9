use Rattle.std.proofs.Common.{◌∙◌, ◌++◌, refl, subst, sym}
use Rattle.http_jobs.specs.declared.answers.Received.{Received}
use Rattle.http_jobs.specs.Exchange.{IsReceived}
use Rattle.http_jobs.proofs.Exchanges.{told, has_status, sees_read, after_read, step_fails, fill_fails}
use Rattle.http_jobs.proofs.Meanwhile.{sees_more}
use Rattle.http_jobs.proofs.answers.read_on.Goals as goal

pub whole-requires-clause-head : goal.whole-requires-clause-head
whole-requires-clause-head g c =
    let k = c.requires.reading in
    let fills = rw c.in-Ok-Ended.field-0-is at c.in-Ok-Ended.ensures.fills in
    has_status (fills.6 k.1.0 k.1.1 k.1.2 k.1.3).is

pub whole-requires-in-Ok-Whole-clause-head : goal.whole-requires-in-Ok-Whole-clause-head
whole-requires-in-Ok-Whole-clause-head g c =
    let k = c.requires.reading in
    let fills = rw c.in-Ok-More.field-0-is at c.in-Ok-More.ensures.fills in
    let steps = rw c.in-Ok-Whole.field-0-is at c.in-Ok-Whole.ensures.steps in
    has_status (steps k.1.0 (k.1.1 ++ fills.0) (fills.6 k.1.0 k.1.1 k.1.2 k.1.3)).is

pub returns-in-Ok-Ended-clause-read : goal.returns-in-Ok-Ended-clause-read
returns-in-Ok-Ended-clause-read g c limits first seen shown h =
    let fills = rw c.in-Ok-Ended.field-0-is at c.in-Ok-Ended.ensures.fills in
    let bounds = c.args.bounds in
    let whole = fills.6 limits seen.read h.partway h.wants in
    record {
      seen = after_read seen fills.0 fills.1;
      has_seen = sees_more bounds.deadline first seen (g.L.Device.input c.args.link.now) (g.L.Device.input c.fill.new.link) shown fills.0 fills.1 h.has_seen fills.2 fills.3 c.in-Ok-Ended.ensures.failures;
      received = c.whole.ensures.received limits bounds.max_body (seen.read ++ fills.0) whole;
      came = c.whole.ensures.came ∙ fills.5 seen.read h.came;
    }

pub returns-in-Err-clause-read : goal.returns-in-Err-clause-read
returns-in-Err-clause-read g c limits first seen shown h =
    let fills = c.in-Err.ensures.fills in
    let deadline = c.args.bounds.deadline in
    let old = g.L.Device.input c.args.link.now in
    let new = g.L.Device.input c.fill.new.link in
    let then = after_read seen fills.0 fills.1 in
    record {
      seen = then;
      sees = sees_read first.input old new first.shown shown seen fills.0 fills.1 h.has_seen.sees fills.2 fills.3;
      why = told limits deadline then first.input new c.in-Err.why c.fill.new.self.came c.of.result
          (fill_fails limits deadline then first.input old new c.in-Err.why h.has_seen.unfailed (fills.6 limits seen.read h.partway h.wants))
          c.of.ensures.why c.of.ensures.came (fills.5 seen.read h.came);
    }

pub returns-in-Ok-NeedsMore-clause-read : goal.returns-in-Ok-NeedsMore-clause-read
returns-in-Ok-NeedsMore-clause-read g c limits first seen shown h =
    let fills = rw c.in-Ok-More.field-0-is at c.in-Ok-More.ensures.fills in
    let steps = rw c.in-Ok-NeedsMore.field-0-is at c.in-Ok-NeedsMore.ensures.steps in
    let both = steps limits (seen.read ++ fills.0) (fills.6 limits seen.read h.partway h.wants) in (
      fills.0,
      fills.1,
      fills.4 refl,
      record {
        has_seen = sees_more c.args.bounds.deadline first seen (g.L.Device.input c.args.link.now) (g.L.Device.input c.fill.new.link) shown fills.0 fills.1 h.has_seen fills.2 fills.3 c.in-Ok-More.ensures.failures;
        partway = both.0;
        wants = both.1;
        came = c.advance.ensures.came ∙ fills.5 seen.read h.came;
      },
    )

pub returns-in-Ok-NeedsMore-clause-reading : goal.returns-in-Ok-NeedsMore-clause-reading
returns-in-Ok-NeedsMore-clause-reading g c =
    let k = c.requires.reading in
    let fills = rw c.in-Ok-More.field-0-is at c.in-Ok-More.ensures.fills in
    let steps = rw c.in-Ok-NeedsMore.field-0-is at c.in-Ok-NeedsMore.ensures.steps in
    let both = steps k.1.0 (k.1.1 ++ fills.0) (fills.6 k.1.0 k.1.1 k.1.2 k.1.3) in
    (c.advance.ensures.within, (k.1.0, k.1.1 ++ fills.0, both.0, both.1))

pub returns-in-Ok-Whole-clause-read : goal.returns-in-Ok-Whole-clause-read
returns-in-Ok-Whole-clause-read g c limits first seen shown h =
    let bounds = c.args.bounds in
    let fills = rw c.in-Ok-More.field-0-is at c.in-Ok-More.ensures.fills in
    let steps = rw c.in-Ok-Whole.field-0-is at c.in-Ok-Whole.ensures.steps in
    let whole = steps limits (seen.read ++ fills.0) (fills.6 limits seen.read h.partway h.wants) in
    record {
      seen = after_read seen fills.0 fills.1;
      has_seen = sees_more bounds.deadline first seen (g.L.Device.input c.args.link.now) (g.L.Device.input c.fill.new.link) shown fills.0 fills.1 h.has_seen fills.2 fills.3 c.in-Ok-More.ensures.failures;
      received = c.whole-in-Ok-Whole.ensures.received limits bounds.max_body (seen.read ++ fills.0) whole;
      came = c.whole-in-Ok-Whole.ensures.came ∙ c.advance.ensures.came ∙ fills.5 seen.read h.came;
    }

pub returns-in-Ok-TooLarge-clause-read : goal.returns-in-Ok-TooLarge-clause-read
returns-in-Ok-TooLarge-clause-read g c limits first seen shown h =
    let bounds = c.args.bounds in
    let fills = rw c.in-Ok-More.field-0-is at c.in-Ok-More.ensures.fills in
    let steps = rw c.in-Ok-TooLarge.field-0-is at c.in-Ok-TooLarge.ensures.steps in
    let larger = steps limits (seen.read ++ fills.0) (fills.6 limits seen.read h.partway h.wants) in
    record {
      seen = after_read seen fills.0 fills.1;
      has_seen = sees_more bounds.deadline first seen (g.L.Device.input c.args.link.now) (g.L.Device.input c.fill.new.link) shown fills.0 fills.1 h.has_seen fills.2 fills.3 c.in-Ok-More.ensures.failures;
      received = subst (λ (r : Received). IsReceived limits bounds.max_body (seen.read ++ fills.0) r) (sym c.too_large.ensures.received) larger;
      came = c.too_large.ensures.came ∙ c.advance.ensures.came ∙ fills.5 seen.read h.came;
    }

pub returns-in-Err-advance-clause-read : goal.returns-in-Err-advance-clause-read
returns-in-Err-advance-clause-read g c limits first seen shown h =
    let fills = rw c.in-Ok-More.field-0-is at c.in-Ok-More.ensures.fills in
    let deadline = c.args.bounds.deadline in
    let new = g.L.Device.input c.fill.new.link in
    let then = after_read seen fills.0 fills.1 in
    record {
      seen = then;
      sees = sees_read first.input (g.L.Device.input c.args.link.now) new first.shown shown seen fills.0 fills.1 h.has_seen.sees fills.2 fills.3;
      why = told limits deadline then first.input new c.in-Err-advance.why c.advance.new.self.came c.of-in-Err-advance.result
          (step_fails limits deadline then first.input new c.in-Err-advance.why (c.in-Err-advance.ensures.steps limits (seen.read ++ fills.0) (fills.6 limits seen.read h.partway h.wants)))
          c.of-in-Err-advance.ensures.why c.of-in-Err-advance.ensures.came (c.advance.ensures.came ∙ fills.5 seen.read h.came);
    }
