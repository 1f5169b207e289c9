use Rattle.std.proofs.Common.{◌≡◌, ◌∷◌, [], ◌++◌, ap, ◌∙◌, sym, subst, codes, append_assoc, Result, Ok, Err}
use Rattle.std.specs.Prelude.{OnOk}
use Rattle.byte_io.specs.Sides.{HasText}
use Rattle.fault_detail.specs.Complaint.{IsCut, fault_text}
use Rattle.fault_detail.specs.Pieces.{count_text, label_text, pieces_text}
use Rattle.fault_detail.specs.declared.pieces.Pieces.{Pieces}
use Rattle.plan_commands.specs.Fault.{fault_line}
use Rattle.plan_commands.specs.declared.fault.Fault.{Fault}
use Rattle.fault_detail.proofs.Cuts.{both_said, cut_early, cut_late, on_err, on_err_then}
use Rattle.fault_detail.proofs.giving.give_line.Goals as goal

-- all that is written, piece by piece
line_of : (p : Pieces) (fault : Fault) → pieces_text p ≡ fault_line fault
    → codes "poolman: " ++ (p.words.now ++ (label_text p.label ++ (count_text p.count ++ (10 ∷ [])))) ≡ fault_text fault
line_of p fault e = ap (λ t. codes "poolman: " ++ t)
    (sym (append_assoc p.words.now (label_text p.label) (count_text p.count ++ (10 ∷ [])))
    ∙ sym (append_assoc (p.words.now ++ label_text p.label) (count_text p.count) (10 ∷ []))
    ∙ ap (λ t. t ++ (10 ∷ [])) e)

on_ok_then : {E P Q : Type 0} (r : Result Unit E) → (P → Q) → OnOk r P → OnOk r Q
on_ok_then (Ok x) then p = then p
on_ok_then (Err e) then p = tt

pub returns-in_err-give-clause-err : goal.returns-in_err-give-clause-err
returns-in_err-give-clause-err g c =
    let p = c.of-pieces.result in
    let old = g.E.Device.output c.args.errors.now in
    let new = g.E.Device.output c.give.new.errors in
    on_err _ (subst (λ t. IsCut old t new) (line_of p c.args.fault.now c.of-pieces.ensures)
    (cut_early old new (codes "poolman: ") (p.words.now ++ (label_text p.label ++ (count_text p.count ++ (10 ∷ [])))) c.in_err-give.ensures.err))

pub returns-in_err-give-2-clause-err : goal.returns-in_err-give-2-clause-err
returns-in_err-give-2-clause-err g c =
    let p = c.of-pieces.result in
    let rest = label_text p.label ++ (count_text p.count ++ (10 ∷ [])) in
    let old = g.E.Device.output c.args.errors.now in
    let one = g.E.Device.output c.give.new.errors in
    let new = g.E.Device.output c.give-2.new.errors in
    let words : c.as_bytes.result.now ≡ p.words.now = cc in
    on_err _ (subst (λ t. IsCut old t new) (line_of p c.args.fault.now c.of-pieces.ensures)
    (cut_late old one new (codes "poolman: ") (p.words.now ++ rest) c.in_ok-give.ensures.ok
    (cut_early one new p.words.now rest (subst (λ t. IsCut one t new) words c.in_err-give-2.ensures.err))))

pub returns-in_err-give_label-clause-err : goal.returns-in_err-give_label-clause-err
returns-in_err-give_label-clause-err g c =
    let p = c.of-pieces.result in
    let rest = count_text p.count ++ (10 ∷ []) in
    let old = g.E.Device.output c.args.errors.now in
    let one = g.E.Device.output c.give.new.errors in
    let two = g.E.Device.output c.give-2.new.errors in
    let new = g.E.Device.output c.give_label.new.errors in
    let words : c.as_bytes.result.now ≡ p.words.now = cc in
    on_err _ (subst (λ t. IsCut old t new) (line_of p c.args.fault.now c.of-pieces.ensures)
    (cut_late old one new (codes "poolman: ") (p.words.now ++ (label_text p.label ++ rest)) c.in_ok-give.ensures.ok
    (cut_late one two new p.words.now (label_text p.label ++ rest) (subst (λ t. HasText one t two) words c.in_ok-give-2.ensures.ok)
    (cut_early two new (label_text p.label) rest c.in_err-give_label.ensures.err))))

pub returns-in_err-give_count-clause-err : goal.returns-in_err-give_count-clause-err
returns-in_err-give_count-clause-err g c =
    let p = c.of-pieces.result in
    let rest = count_text p.count ++ (10 ∷ []) in
    let old = g.E.Device.output c.args.errors.now in
    let one = g.E.Device.output c.give.new.errors in
    let two = g.E.Device.output c.give-2.new.errors in
    let three = g.E.Device.output c.give_label.new.errors in
    let new = g.E.Device.output c.give_count.new.errors in
    let words : c.as_bytes.result.now ≡ p.words.now = cc in
    on_err _ (subst (λ t. IsCut old t new) (line_of p c.args.fault.now c.of-pieces.ensures)
    (cut_late old one new (codes "poolman: ") (p.words.now ++ (label_text p.label ++ rest)) c.in_ok-give.ensures.ok
    (cut_late one two new p.words.now (label_text p.label ++ rest) (subst (λ t. HasText one t two) words c.in_ok-give-2.ensures.ok)
    (cut_late two three new (label_text p.label) rest c.in_ok-give_label.ensures.ok
    (cut_early three new (count_text p.count) (10 ∷ []) c.in_err-give_count.ensures.err)))))

pub returns-clause-ok : goal.returns-clause-ok
returns-clause-ok g c =
    let p = c.of-pieces.result in
    let rest = count_text p.count ++ (10 ∷ []) in
    let old = g.E.Device.output c.args.errors.now in
    let one = g.E.Device.output c.give.new.errors in
    let two = g.E.Device.output c.give-2.new.errors in
    let three = g.E.Device.output c.give_label.new.errors in
    let four = g.E.Device.output c.give_count.new.errors in
    let new = g.E.Device.output c.give-3.new.errors in
    let words : c.as_bytes.result.now ≡ p.words.now = cc in
    on_ok_then _
    (λ (last : HasText four (10 ∷ []) new). subst (λ t. HasText old t new) (line_of p c.args.fault.now c.of-pieces.ensures)
    (both_said old one new (codes "poolman: ") (p.words.now ++ (label_text p.label ++ rest)) c.in_ok-give.ensures.ok
    (both_said one two new p.words.now (label_text p.label ++ rest) (subst (λ t. HasText one t two) words c.in_ok-give-2.ensures.ok)
    (both_said two three new (label_text p.label) rest c.in_ok-give_label.ensures.ok
    (both_said three four new (count_text p.count) (10 ∷ []) c.in_ok-give_count.ensures.ok last)))))
    c.give-3.ensures.ok

pub returns-clause-err : goal.returns-clause-err
returns-clause-err g c =
    let p = c.of-pieces.result in
    let rest = count_text p.count ++ (10 ∷ []) in
    let old = g.E.Device.output c.args.errors.now in
    let one = g.E.Device.output c.give.new.errors in
    let two = g.E.Device.output c.give-2.new.errors in
    let three = g.E.Device.output c.give_label.new.errors in
    let four = g.E.Device.output c.give_count.new.errors in
    let new = g.E.Device.output c.give-3.new.errors in
    let words : c.as_bytes.result.now ≡ p.words.now = cc in
    on_err_then _
    (λ (last : IsCut four (10 ∷ []) new). subst (λ t. IsCut old t new) (line_of p c.args.fault.now c.of-pieces.ensures)
    (cut_late old one new (codes "poolman: ") (p.words.now ++ (label_text p.label ++ rest)) c.in_ok-give.ensures.ok
    (cut_late one two new p.words.now (label_text p.label ++ rest) (subst (λ t. HasText one t two) words c.in_ok-give-2.ensures.ok)
    (cut_late two three new (label_text p.label) rest c.in_ok-give_label.ensures.ok
    (cut_late three four new (count_text p.count) (10 ∷ []) c.in_ok-give_count.ensures.ok last)))))
    c.give-3.ensures.err
