use Rattle.std.proofs.Common.{◌∙◌}
use Rattle.pool_replay.proofs.Views.{viewed}
use Rattle.pool_replay.proofs.desk.look.Goals as goal

pub returns : goal.returns
returns c =
    viewed c.args.pool.now c.in_ok-input.input c.in_ok-solved.solved.answer c.as_ref.result c.of.result c.of.ensures c.in_ok-input.ensures.0.0
    c.in_ok-solved.ensures.shown (c.as_ref.ensures.value ∙ c.in_ok-input.ensures.0.1) c.in_ok-solved.ensures.steady c.in_ok-input.ensures.1
