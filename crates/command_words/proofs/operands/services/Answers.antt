use Rattle.std.proofs.Common.{ap, codes, refl, arith}
use Rattle.command_words.proofs.Chain.{fits}
use Rattle.command_words.proofs.operands.services.Goals as goal

pub returns-clause-fits : goal.returns-clause-fits
returns-clause-fits c =
    fits c.operand.result 83 (codes "SERVICES") c.operand.ensures.plain c.operand.ensures.local (ap (λ x. x.now) c.operand.ensures.id) refl
    ((λ e. absurd (omega arith)), (λ e. absurd (omega arith))) (omega arith)
