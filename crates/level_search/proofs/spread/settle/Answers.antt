use Rattle.std.proofs.Common.{◌≡◌, ℕ, length, get_or, ap, sym, subst, ◌∙◌, arith}
use Rattle.std.proofs.lemmas.Bool.{eq-eqb, false≢true}
use Rattle.round_arena.specs.Plan.{count_on}
use Rattle.level_search.specs.declared.previous.Origin.{Origin}
use Rattle.level_search.specs.declared.previous.Origin.TheVariants.{Previous, Search}
use Rattle.level_search.specs.Filled.{IsFilled}
use Rattle.level_search.proofs.Spreading.{IsSettled-filled, filled-still}
use Rattle.level_search.proofs.spread.settle.Goals as goal
use Rattle.level_search.proofs.spread.settle.Goals.{in-Previous, in-Search}

abbrev IsPrevious : Origin → Type 0
IsPrevious Previous = Unit {0}
IsPrevious Search = ⊥

search-moves : Search ≡ Previous → ⊥
search-moves q = subst (λ (o : Origin). IsPrevious o) (sym q) (tt {0})

pub spread-requires-clause-settled : goal.spread-requires-clause-settled
spread-requires-clause-settled c =
    let e = c.fill_idle.ensures in
    IsSettled-filled c.args.input.now c.functions-functions.result c.args.level c.args.tables.now c.fill_idle.new.tables c.functions-functions.ensures.all c.requires.fits c.requires.met e.sound e.same e.filled e.full

pub returns-else-not-is_kept-clause-settled : goal.returns-else-not-is_kept-clause-settled
returns-else-not-is_kept-clause-settled c =
    let e = c.fill_idle.ensures in
    IsSettled-filled c.args.input.now c.functions-functions.result c.args.level c.args.tables.now c.fill_idle.new.tables c.functions-functions.ensures.all c.requires.fits c.requires.met e.sound e.same e.filled e.full

pub returns-else-not-is_kept-clause-kept : goal.returns-else-not-is_kept-clause-kept
returns-else-not-is_kept-clause-kept c kept full =
    let n = length c.args.input.now.least in
    let t = c.args.tables.now in
    let u = c.fill_idle.new.tables in
    let filled : IsFilled n t.pairs t.most.now t.owner.now u.owner.now u.count.now = subst (λ (m : ℕ). IsFilled m t.pairs t.most.now t.owner.now u.owner.now u.count.now) c.functions-functions.ensures.all c.fill_idle.ensures.filled in
    filled-still n t u c.requires.sound filled full

pub returns-then-level-lt-TOP_LEVEL-clause-kept : goal.returns-then-level-lt-TOP_LEVEL-clause-kept
returns-then-level-lt-TOP_LEVEL-clause-kept c kept full =
    let n = length c.args.input.now.least in
    let m = c.functions-functions.result in
    let t = c.args.tables.now in
    let u = c.fill_idle.new.tables in
    let filled : IsFilled n t.pairs t.most.now t.owner.now u.owner.now u.count.now = subst (λ (k : ℕ). IsFilled k t.pairs t.most.now t.owner.now u.owner.now u.count.now) c.functions-functions.ensures.all c.fill_idle.ensures.filled in
    let still : u.owner.now ≡ t.owner.now = filled-still n t u c.requires.sound filled full in
    let idle : get_or u.count.now m 0 ≡ get_or t.count.now m 0 =
    filled.counted.counts m (omega (arith, c.functions-functions.ensures.all)) ∙ ap (λ o. count_on o m) still ∙ sym (c.requires.sound.counted.counts m (omega (arith, c.functions-functions.ensures.all))) in
    elim c.match-origin.branch [
      | in-Previous w ↦ absurd (false≢true (sym c.if-not-is_kept.true ∙ w.is_kept-is ∙ eq-eqb (get_or u.count.now m 0) (get_or t.count.now m 0) idle))
      | in-Search w ↦ absurd (search-moves (sym w.in-Search.is ∙ kept))
    ]
