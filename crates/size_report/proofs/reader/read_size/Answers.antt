use Rattle.std.proofs.Common.{◌≡◌, ◌≢◌, ◌∙◌, Err, ap, arith, sym, subst}
use Rattle.size_report.specs.Reading.{meaning_from, place_line}
use Rattle.pool_report.specs.declared.stage.Misread.TheVariants as misread
use Rattle.size_report.proofs.Steps.{bad_line, taken_line, unknown_name}
use Rattle.size_report.proofs.reader.read_size.Goals as goal

pub returns-in-Err-Bad-clause-refused : goal.returns-in-Err-Bad-clause-refused
returns-in-Err-Bad-clause-refused c = λ _.
    let r = c.args.settings.now in
    let d = c.loop-line.draft in
    let line = c.in-Some.line.now in
    let told = subst (λ f. f ≢ misread.Memory → place_line r d line ≡ Err f) c.in-Err-Bad.field-0-is c.in-Err-Bad.ensures.err in
    sym c.loop-line.invariant.left ∙ ap (meaning_from r c.loop-line.number d) c.in-Some.ensures.0
    ∙ bad_line r c.loop-line.number d line c.in-Some.tail.now (told (λ p. cc))

pub returns-in-Err-Unknown-clause-refused : goal.returns-in-Err-Unknown-clause-refused
returns-in-Err-Unknown-clause-refused c = λ _.
    let r = c.args.settings.now in
    let d = c.loop-line.draft in
    let line = c.in-Some.line.now in
    let told = subst (λ f. f ≢ misread.Memory → place_line r d line ≡ Err f) c.in-Err-Unknown.field-0-is c.in-Err-Unknown.ensures.err in
    sym c.loop-line.invariant.left ∙ ap (meaning_from r c.loop-line.number d) c.in-Some.ensures.0
    ∙ unknown_name r c.loop-line.number d line c.in-Some.tail.now (told (λ p. cc))

pub loop-line-preserved : goal.loop-line-preserved
loop-line-preserved c =
    let r = c.args.settings.now in
    let d = c.loop-line.draft in
    let line = c.in-Some.line.now in
    let on = ap (meaning_from r c.loop-line.number d) c.in-Some.ensures.0
    ∙ taken_line r c.loop-line.number d line c.in-Some.tail.now c.place_line.new.self c.in-Ok.ensures.ok in
    record { left = sym on ∙ c.loop-line.invariant.left; within = omega (arith, c.loop-line.invariant.within, c.in-Some.ensures.1) }
