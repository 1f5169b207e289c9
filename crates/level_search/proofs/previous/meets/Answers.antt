use Rattle.std.proofs.Common.{◌≡◌, ◌<◌, ◌≤◌, length, get_or, ap, ◌∙◌, arith}
use Rattle.std.proofs.lemmas.Bool.{false≢true}
use Rattle.plan_model.specs.Planning.{need}
use Rattle.round_arena.specs.Plan.{count_on}
use Rattle.level_search.proofs.previous.meets.Goals as goal

pub returns-then-seed-f : goal.returns-then-seed-f
returns-then-seed-f c =
    let i = c.args.input.now in
    let t = c.args.seed.now in
    let inside : c.loop-f.f < length i.least = omega (arith, c.loop-f-test.true, c.functions-f-end.ensures.all) in
    let needs : c.need.result ≡ need i c.args.level c.loop-f.f = c.need.ensures.all ∙ ap (need i c.args.level) c.new.ensures in
    let counts : get_or t.count.now c.loop-f.f 0 ≡ count_on t.owner.now c.loop-f.f = c.requires.counts c.loop-f.f (omega (arith, inside)) in
    let few : get_or t.count.now c.loop-f.f 0 < c.need.result = c.if-seed-f.true in
    (λ e. absurd (false≢true e), λ met. let enough : need i c.args.level c.loop-f.f ≤ count_on t.owner.now c.loop-f.f = met c.loop-f.f inside in absurd (omega (arith, enough, needs, counts, few)))
