use Rattle.std.proofs.Common.{Some, subst}
use Rattle.std.specs.Prelude.{IfOk}
use Rattle.std.specs.Int.NonZero.{non_zero_u32_get}
use Rattle.plan_sizing.specs.Sizing.{Farm}
use Rattle.live_size.specs.Answers.{IsSizeOf}
use Rattle.live_size.proofs.answer.LiveSize.of.Goals as goal

pub size_of-requires : goal.size_of-requires
size_of-requires c = record {
  unbounded = c.args.unbounded.now;
  input = c.args.input.now;
  level = Some (non_zero_u32_get c.args.backlog);
  of_these = c.requires.of_these;
  is_its = c.in_ok-farm.ensures.farm;
}

pub returns : goal.returns
returns c = record {
  size = subst (λ (farm : Farm). IfOk c.size_of.result (IsSizeOf c.args.settings.now farm)) c.in_ok-farm.ensures.farm c.size_of.ensures;
}
