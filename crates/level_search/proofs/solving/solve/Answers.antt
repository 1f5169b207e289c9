use Rattle.std.proofs.Common.{◌≡◌, [], ◌+◌, ◌*◌, ◌≤◌, length, ap, ◌∙◌, arith, subst, sym}
use Rattle.level_search.specs.Paid.{PaysForPlan, passes}
use Rattle.round_arena.specs.Input.{pair_count}
use Rattle.round_arena.specs.Plan.{pair_total}
use Rattle.std.proofs.lemmas.Option.{IfSome_then}
use Rattle.level_search.proofs.Looks.{looks-end, looks-few, looks-start, pair_count-few, pairs-same}
use Rattle.level_search.proofs.Keeping.{steady-kept}
use Rattle.level_search.proofs.Paying.{IfNone_then, paid_by_end}
use Rattle.level_search.proofs.solving.solve.Goals as goal

pub solve_levels-requires-clause-looks : goal.solve_levels-requires-clause-looks
solve_levels-requires-clause-looks c =
    omega (arith, looks-few c.args.input.now c.facts.ensures, looks-start c.args.input.now c.in_ok-tables.tables c.in_ok-tables.ensures.starts)

pub answer-requires-clause-looks : goal.answer-requires-clause-looks
answer-requires-clause-looks c =
    omega (
      arith,
      c.in_ok-found.ensures.looks,
      c.put_back-origin.ensures.looks,
      pairs-same c.in_ok-tables.tables c.solve_levels.new.tables c.solve_levels.ensures.same,
      pairs-same c.solve_levels.new.tables c.put_back-origin.new.tables c.put_back-origin.ensures.same,
      looks-few c.args.input.now c.facts.ensures,
      pair_count-few c.args.input.now c.facts.ensures,
      c.in_ok-tables.ensures.starts.pairs,
      looks-start c.args.input.now c.in_ok-tables.tables c.in_ok-tables.ensures.starts,
    )

pub answer-requires-clause-pairs : goal.answer-requires-clause-pairs
answer-requires-clause-pairs c =
    omega (
      arith,
      pairs-same c.in_ok-tables.tables c.solve_levels.new.tables c.solve_levels.ensures.same,
      pairs-same c.solve_levels.new.tables c.put_back-origin.new.tables c.put_back-origin.ensures.same,
      c.in_ok-tables.ensures.starts.pairs,
    )

pub returns-clause-looks : goal.returns-clause-looks
returns-clause-looks c =
    let t = c.in_ok-tables.tables in
    let found = c.in_ok-found.found in
    let v = c.put_back-origin.new.tables in
    let same : passes found * pair_total v.pairs ≡ passes found * pair_total t.pairs =
    ap (λ n. passes found * n) (pairs-same c.solve_levels.new.tables v c.put_back-origin.ensures.same ∙ pairs-same t c.solve_levels.new.tables c.solve_levels.ensures.same) in
    let room : v.looks + passes found * pair_total v.pairs ≤ 34 * ((length c.args.input.now.live + 1) * pair_count c.args.input.now) =
    omega (arith, same, c.in_ok-found.ensures.looks, c.put_back-origin.ensures.looks, looks-start c.args.input.now t c.in_ok-tables.ensures.starts) in
    omega (arith, c.looks.ensures, looks-end found c.in_ok-answer.answer (pair_total v.pairs) v.looks c.answer.new.tables.looks (34 * ((length c.args.input.now.live + 1) * pair_count c.args.input.now)) c.in_ok-answer.ensures.looks room)

pub returns-clause-steady : goal.returns-clause-steady
returns-clause-steady c =
    IfSome_then c.args.previous c.in_ok-tables.ensures.kept
    (λ plan kept. steady-kept c.args.input.now c.in_ok-tables.tables c.solve_levels.new.tables c.put_back-origin.new.tables c.put_back-origin.result c.in_ok-seed.seed c.in_ok-found.found plan.now c.in_ok-answer.answer
    c.facts.ensures c.in_ok-tables.ensures.starts kept c.in_ok-seed.ensures.owner c.solve_levels.ensures.same c.solve_levels.ensures.sound c.in_ok-found.ensures.found c.put_back-origin.ensures.same c.put_back-origin.ensures.kept c.put_back-origin.ensures.origin.1 c.in_ok-answer.ensures.kept)

pub returns-clause-paid : goal.returns-clause-paid
returns-clause-paid c =
    IfSome_then c.args.previous c.in_ok-tables.ensures.kept
    (λ plan kept. subst (PaysForPlan c.args.input.now plan.now c.in_ok-answer.answer) (sym c.looks.ensures)
    (paid_by_end c.args.input.now c.in_ok-tables.tables c.solve_levels.new.tables c.put_back-origin.new.tables plan.now c.in_ok-found.found c.in_ok-answer.answer _
    c.in_ok-tables.ensures.starts c.solve_levels.ensures.same c.put_back-origin.ensures.same kept c.in_ok-found.ensures.hired c.in_ok-found.ensures.found c.put_back-origin.ensures.looks c.in_ok-answer.ensures.looks))

pub returns-clause-paid_anew : goal.returns-clause-paid_anew
returns-clause-paid_anew c =
    IfNone_then c.args.previous c.in_ok-tables.ensures.idle
    (λ idle. subst (PaysForPlan c.args.input.now [] c.in_ok-answer.answer) (sym c.looks.ensures)
    (paid_by_end c.args.input.now c.in_ok-tables.tables c.solve_levels.new.tables c.put_back-origin.new.tables [] c.in_ok-found.found c.in_ok-answer.answer _
    c.in_ok-tables.ensures.starts c.solve_levels.ensures.same c.put_back-origin.ensures.same idle c.in_ok-found.ensures.hired c.in_ok-found.ensures.found c.put_back-origin.ensures.looks c.in_ok-answer.ensures.looks))
