use Rattle.std.proofs.Common.{ℕ, ◌+◌, ap, arith}
use Rattle.plan_model.specs.Planning.{need}
use Rattle.level_search.proofs.Bisecting.{sum-more}
use Rattle.level_search.proofs.bisect.exceeds_workers.Goals as goal

pub loop-f-preserved : goal.loop-f-preserved
loop-f-preserved c =
    let n = c.loop-f.f in
    let g : ℕ → ℕ = need c.args.input.now c.args.level in
    record {
      total = omega (arith, c.loop-f.invariant.total, sum-more g n (n + 1) (omega arith), c.need-wanted.ensures.all, ap g c.new.ensures);
      bound = omega (arith, c.loop-f.invariant.bound, c.need-wanted.ensures.few);
    }
