use Rattle.std.proofs.Common.{true, ap, sym, subst, inl, inr, refl, ◌∙◌}
use Rattle.pool_supervisor.specs.Tries.{FillsOne, Rule}
use Rattle.pool_supervisor.proofs.Tries.{fills_none, fills_once}
use Rattle.pool_supervisor.proofs.attempts.Supervisor.start_one.Goals as goal

pub returns-then-not-is_empty-clause-fills : goal.returns-then-not-is_empty-clause-fills
returns-then-not-is_empty-clause-fills g c = fills_none g.N.RunId.allows c.args.slot (g.Y.Dial.calls c.args.self.now.dial)

pub returns-then-not-may_start-clause-fills : goal.returns-then-not-may_start-clause-fills
returns-then-not-may_start-clause-fills g c = fills_none g.N.RunId.allows c.args.slot (g.Y.Dial.calls c.args.self.now.dial)

pub returns-in-Some-clause-fills : goal.returns-in-Some-clause-fills
returns-in-Some-clause-fills g c =
    let before = g.Y.Dial.calls c.args.self.now.dial in
    let allowed = ap (λ (r : Rule). r c.args.slot true) (sym c.args.self.now.rule) ∙ c.if-not-may_start.ensures in
    let one = fills_once g.N.RunId.allows c.args.slot before (g.Y.Dial.calls c.dial.new.self) _ (inl refl) allowed c.in-Some.ensures.calls in
    subst (λ d. FillsOne g.N.RunId.allows c.args.slot before (g.Y.Dial.calls d)) (sym c.start_over.ensures.dial) one

pub returns-in-None-clause-fills : goal.returns-in-None-clause-fills
returns-in-None-clause-fills g c =
    let allowed = ap (λ (r : Rule). r c.args.slot true) (sym c.args.self.now.rule) ∙ c.if-not-may_start.ensures in
    fills_once g.N.RunId.allows c.args.slot (g.Y.Dial.calls c.args.self.now.dial) (g.Y.Dial.calls c.dial.new.self) _ (inr refl) allowed c.in-None.ensures.calls
