use Rattle.std.proofs.Common.{ap, codes, refl, arith}
use Rattle.command_words.proofs.Chain.{fits}
use Rattle.command_words.proofs.operands.lost.Goals as goal

pub returns-clause-fits : goal.returns-clause-fits
returns-clause-fits c =
    fits c.operands.result 76 (codes "LOST") c.operands.ensures.plain c.operands.ensures.local (ap (λ x. x.now) c.operands.ensures.id) refl
    ((λ e. absurd (omega arith)), (λ e. absurd (omega arith))) (omega arith)
