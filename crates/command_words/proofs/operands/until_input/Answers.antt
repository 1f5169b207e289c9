use Rattle.std.proofs.Common.{ap, codes, refl, arith}
use Rattle.command_words.proofs.Chain.{fits}
use Rattle.command_words.proofs.operands.until_input.Goals as goal

pub returns-clause-fits : goal.returns-clause-fits
returns-clause-fits c =
    fits c.flag.result 117 (codes "until-input") c.flag.ensures.plain c.flag.ensures.local (ap (λ x. x.now) c.flag.ensures.id) refl
    ((λ e. absurd (omega arith)), (λ e. absurd (omega arith))) (omega arith)
