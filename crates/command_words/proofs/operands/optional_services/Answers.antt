use Rattle.std.proofs.Common.{ap, codes, refl, arith}
use Rattle.command_words.proofs.Chain.{fits}
use Rattle.command_words.proofs.operands.optional_services.Goals as goal

pub returns-clause-fits : goal.returns-clause-fits
returns-clause-fits c =
    fits c.optional.result 83 (codes "SERVICES") c.optional.ensures.plain c.optional.ensures.local (ap (λ x. x.now) c.optional.ensures.id) refl
    ((λ e. absurd (omega arith)), (λ e. absurd (omega arith))) (omega arith)
