use Rattle.std.proofs.Common.{◌∙◌, refl, subst}
use Rattle.farm_notes.specs.Evidence as spec
use Rattle.farm_page.specs.declared.view.Evidence.{Evidence}
use Rattle.farm_notes.proofs.Copies.{names_alike, of_the_same}
use Rattle.farm_notes.proofs.kept_evidence.KeptEvidence.copy.Goals as goal

-- what is inside, held apart
copied : (c : goal.In_ok-clone) → spec.IsSameEvidence c.self.inside.evidence (record { attempt = c.self.inside.evidence.attempt; report = c.in_ok-from_slice.field-0; status = c.in_ok-from_slice-2.field-0; lost = c.in_ok-clone.field-0 })
copied c = record {
  attempt = refl;
  report = c.in_ok-from_slice.ensures.items ∙ c.deref.ensures.value;
  status = c.in_ok-from_slice-2.ensures.items ∙ c.deref-2.ensures.value;
  lost = names_alike c.self.inside.evidence.lost.items c.in_ok-clone.field-0.items c.in_ok-clone.ensures.cases.0;
}

pub returns-clause-same : goal.returns-clause-same
returns-clause-same c = subst (λ (old : Evidence). spec.IsSameEvidence old (record { attempt = c.self.inside.evidence.attempt; report = c.in_ok-from_slice.field-0; status = c.in_ok-from_slice-2.field-0; lost = c.in_ok-clone.field-0 })) c.self.view_is (copied c)

pub returns-clause-answers : goal.returns-clause-answers
returns-clause-answers c = of_the_same c.self.inside.evidence _ (copied c) c.self.invariant
