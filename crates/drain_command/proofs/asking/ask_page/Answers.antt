use Rattle.std.proofs.Common.{◌≡◌, ◌∙◌, ◌++◌, ◌+◌, Bool, ap, arith, lt-ltb, subst, sym}
use Rattle.std.specs.Prelude.{MatchResult, nat_lt}
use Rattle.http_jobs.specs.Serving.{then_called}
use Rattle.drain_command.specs.Drain.{AfterTries, IsNotToldIn, IsToldIn}
use Rattle.drain_command.proofs.Asked.{Calls, Came, called_twice, still, the_last}
use Rattle.drain_command.proofs.asking.ask_page.Goals as goal

pub returns-then-is_last : goal.returns-then-is_last
returns-then-is_last g c =
    let before = c.loop-count.invariant in
    let last = c.ask_once-came.ensures in
    let was_there = nat_lt 0 c.loop-count.count in (
      before.0 ++ last.0,
      last.1 ∙ ap (λ (o : Calls). then_called o last.0) before.1 ∙ called_twice (g.D.Dial.calls c.args.dial.now) before.0 last.0,
      subst (λ (r : Came). MatchResult r (λ totals. IsToldIn (before.0 ++ last.0) totals.items) (IsNotToldIn (before.0 ++ last.0))) (sym c.came_to.ensures)
          (the_last was_there before.0 last.0 c.ask_once-came.result before.2 last.2),
    )

pub returns-then-has_come : goal.returns-then-has_come
returns-then-has_come g c =
    let before = c.loop-count.invariant in
    let last = c.ask_once-came.ensures in (
      before.0 ++ last.0,
      last.1 ∙ ap (λ (o : Calls). then_called o last.0) before.1 ∙ called_twice (g.D.Dial.calls c.args.dial.now) before.0 last.0,
      still (nat_lt 0 c.loop-count.count) before.0 last.0 c.ask_once-came.result before.2 (sym c.is_last.ensures ∙ c.if-is_last.false) last.2,
    )

pub loop-count-preserved : goal.loop-count-preserved
loop-count-preserved g c =
    let before = c.loop-count.invariant in
    let last = c.ask_once-came.ensures in
    let more = still (nat_lt 0 c.loop-count.count) before.0 last.0 c.ask_once-came.result before.2 (sym c.is_last.ensures ∙ c.if-is_last.false) last.2 in (
      before.0 ++ last.0,
      last.1 ∙ ap (λ (o : Calls). then_called o last.0) before.1 ∙ called_twice (g.D.Dial.calls c.args.dial.now) before.0 last.0,
      subst (λ (b : Bool). AfterTries b (before.0 ++ last.0)) (sym (lt-ltb 0 (c.loop-count.count + 1) (omega arith))) more,
    )
