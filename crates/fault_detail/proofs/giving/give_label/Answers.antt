use Rattle.std.proofs.Common.{◌≡◌, List, ℕ, ◌∷◌, [], ◌++◌, ◌∙◌, ap, sym, refl, subst, append_assoc}
use Rattle.std.specs.Fmt.{decimal}
use Rattle.refusal.specs.Label.{Label, label_words}
use Rattle.fault_detail.specs.Complaint.{IsCut}
use Rattle.fault_detail.specs.Pieces.{label_text}
use Rattle.fault_detail.proofs.Cuts.{cut_early, cut_late, on_err}
use Rattle.fault_detail.proofs.giving.give_label.Goals as goal

-- the three pieces are the words of the label
words_of : (number name : List ℕ) (label : Label) → number ≡ decimal label.number → name ≡ label.name → number ++ (32 ∷ name) ≡ label_words label
words_of number name label a b = sym (append_assoc number (32 ∷ []) name) ∙ ap (λ t. (t ++ (32 ∷ [])) ++ name) a ∙ ap (λ t. (decimal label.number ++ (32 ∷ [])) ++ t) b

pub returns-in_err-give-2-clause-err : goal.returns-in_err-give-2-clause-err
returns-in_err-give-2-clause-err g c =
    let number = c.as_bytes.result.now in
    let name = c.in-Some.label.name in
    let old = g.E.Device.output c.args.errors.now in
    let middle = g.E.Device.output c.give.new.errors in
    let new = g.E.Device.output c.give-in-Some.new.errors in
    let text : number ++ (32 ∷ name) ≡ label_text c.args.label.now = words_of number name c.in-Some.label (cc) refl ∙ ap label_text (sym c.in-Some.is) in
    on_err _ (subst (λ t. IsCut old t new) text
    (cut_late old middle new number (32 ∷ name) c.in_ok-give.ensures.ok
    (cut_early middle new (32 ∷ []) name c.in_err-give-2.ensures.err)))

pub returns-in_err-give-3-clause-err : goal.returns-in_err-give-3-clause-err
returns-in_err-give-3-clause-err g c =
    let number = c.as_bytes.result.now in
    let name = c.as_bytes-in-Some.result.now in
    let old = g.E.Device.output c.args.errors.now in
    let middle = g.E.Device.output c.give.new.errors in
    let later = g.E.Device.output c.give-in-Some.new.errors in
    let new = g.E.Device.output c.give-in-Some-2.new.errors in
    let text : number ++ (32 ∷ name) ≡ label_text c.args.label.now = words_of number name c.in-Some.label (cc) (cc) ∙ ap label_text (sym c.in-Some.is) in
    on_err _ (subst (λ t. IsCut old t new) text
    (cut_late old middle new number (32 ∷ name) c.in_ok-give.ensures.ok
    (cut_late middle later new (32 ∷ []) name c.in_ok-give-2.ensures.ok c.in_err-give-3.ensures.err)))
