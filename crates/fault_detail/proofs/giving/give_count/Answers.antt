use Rattle.std.proofs.Common.{◌≡◌, ◌++◌, ◌∙◌, ap, sym, Some, subst, codes}
use Rattle.std.specs.Fmt.{decimal}
use Rattle.fault_detail.specs.Complaint.{IsCut}
use Rattle.fault_detail.specs.Pieces.{count_text}
use Rattle.fault_detail.specs.declared.pieces.Count.TheVariants as count
use Rattle.fault_detail.proofs.Cuts.{cut_early, cut_late, on_err, on_err_then}
use Rattle.fault_detail.proofs.giving.give_count.Goals as goal

pub returns-in_err-give-in-Some-Line-clause-err : goal.returns-in_err-give-in-Some-Line-clause-err
returns-in_err-give-in-Some-Line-clause-err g c =
    let old = g.E.Device.output c.args.errors.now in
    let new = g.E.Device.output c.give.new.errors in
    let field : c.in-Some-Line.field-0 ≡ count.Line c.in-Some-Line.line = rw c.in-Some-Line.is at c.in-Some-Line.field-0-is in
    let text : codes " line " ++ decimal c.in-Some-Line.line ≡ count_text c.args.count = ap count_text (sym (c.in-Some-Line.is ∙ ap Some field)) in
    on_err _ (subst (λ t. IsCut old t new) text
    (cut_early old new (codes " line ") (decimal c.in-Some-Line.line) c.in_err-give-in-Some-Line.ensures.err))

pub returns-in_err-give-in-Some-Status-clause-err : goal.returns-in_err-give-in-Some-Status-clause-err
returns-in_err-give-in-Some-Status-clause-err g c =
    let old = g.E.Device.output c.args.errors.now in
    let new = g.E.Device.output c.give-in-Some-Status.new.errors in
    let field : c.in-Some-Status.field-0 ≡ count.Status c.in-Some-Status.status = rw c.in-Some-Status.is at c.in-Some-Status.field-0-is in
    let text : codes " status " ++ decimal c.in-Some-Status.status ≡ count_text c.args.count = ap count_text (sym (c.in-Some-Status.is ∙ ap Some field)) in
    on_err _ (subst (λ t. IsCut old t new) text
    (cut_early old new (codes " status ") (decimal c.in-Some-Status.status) c.in_err-give-in-Some-Status.ensures.err))

pub returns-in_ok-give-in-Some-Line-clause-err : goal.returns-in_ok-give-in-Some-Line-clause-err
returns-in_ok-give-in-Some-Line-clause-err g c =
    let number = c.as_bytes.result.now in
    let old = g.E.Device.output c.args.errors.now in
    let middle = g.E.Device.output c.give.new.errors in
    let new = g.E.Device.output c.give-in-Some-Line.new.errors in
    let printed : number ≡ decimal c.in-Some-Line.line = cc in
    let field : c.in-Some-Line.field-0 ≡ count.Line c.in-Some-Line.line = rw c.in-Some-Line.is at c.in-Some-Line.field-0-is in
    let text : codes " line " ++ number ≡ count_text c.args.count = ap (λ t. codes " line " ++ t) printed ∙ ap count_text (sym (c.in-Some-Line.is ∙ ap Some field)) in
    on_err_then _
    (λ (cut : IsCut middle number new). subst (λ t. IsCut old t new) text
    (cut_late old middle new (codes " line ") number c.in_ok-give-in-Some-Line.ensures.ok cut))
    c.give-in-Some-Line.ensures.err

pub returns-in_ok-give-in-Some-Status-clause-err : goal.returns-in_ok-give-in-Some-Status-clause-err
returns-in_ok-give-in-Some-Status-clause-err g c =
    let number = c.as_bytes-in-Some-Status.result.now in
    let old = g.E.Device.output c.args.errors.now in
    let middle = g.E.Device.output c.give-in-Some-Status.new.errors in
    let new = g.E.Device.output c.give-in-Some-Status-2.new.errors in
    let printed : number ≡ decimal c.in-Some-Status.status = cc in
    let field : c.in-Some-Status.field-0 ≡ count.Status c.in-Some-Status.status = rw c.in-Some-Status.is at c.in-Some-Status.field-0-is in
    let text : codes " status " ++ number ≡ count_text c.args.count = ap (λ t. codes " status " ++ t) printed ∙ ap count_text (sym (c.in-Some-Status.is ∙ ap Some field)) in
    on_err_then _
    (λ (cut : IsCut middle number new). subst (λ t. IsCut old t new) text
    (cut_late old middle new (codes " status ") number c.in_ok-give-in-Some-Status.ensures.ok cut))
    c.give-in-Some-Status-2.ensures.err
