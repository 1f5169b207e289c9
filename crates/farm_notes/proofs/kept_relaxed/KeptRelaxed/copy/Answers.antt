use Rattle.std.proofs.Common.{◌∙◌, ℕ, List, subst, sym}
use Rattle.farm_notes.specs.Relaxed.{IsRelaxedReport}
use Rattle.farm_notes.proofs.kept_relaxed.KeptRelaxed.copy.Goals as goal

-- the same report is of the same answer
pub returns : goal.returns
returns c =
    subst (λ (report : List ℕ). IsRelaxedReport report) (sym (c.in_ok-from_slice-2.ensures.items ∙ c.deref-2.ensures.value)) c.self.invariant
