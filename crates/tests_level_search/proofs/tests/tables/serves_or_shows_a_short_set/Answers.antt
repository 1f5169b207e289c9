use Rattle.std.proofs.Common.{◌≡◌, ℕ, zero, suc, ◌+◌, ◌*◌, ◌^◌, ◌<◌, ◌≤◌, List, [], ◌∷◌, length, get_or, sym, subst, ◌∙◌, arith, inl}
use Rattle.plan_model.specs.Planning.{Instance, IsInstance}
use Rattle.round_arena.specs.declared.tables.Tables.{Tables}
use Rattle.round_arena.specs.Plan.{pair_total}
use Rattle.round_arena.specs.Round.{IsConsistent}
use Rattle.round_arena.proofs.Lists.{order-size}
use Rattle.level_search.specs.Answered.{Starts}
use Rattle.level_search.proofs.Looks.{looks-few, looks-start}
use Rattle.tests_level_search.proofs.tests.tables.serves_or_shows_a_short_set.Goals as goal

-- needs within two greatest numbers of 2
two-one : (most : List ℕ) → most ≡ 2 ∷ 2 ∷ [] → (f : ℕ) → get_or (2 ∷ 1 ∷ []) f 0 ≤ get_or most f 0
two-one most e f = subst (λ (m : List ℕ). get_or (2 ∷ 1 ∷ []) f 0 ≤ get_or m f 0) (sym e) (each f)
  where
    each : (f : ℕ) → get_or (2 ∷ 1 ∷ []) f 0 ≤ get_or (2 ∷ 2 ∷ []) f 0
    each zero = omega arith
    each (suc zero) = omega arith
    each (suc (suc f)) = omega arith

one-one : (most : List ℕ) → most ≡ 2 ∷ 2 ∷ [] → (f : ℕ) → get_or (1 ∷ 1 ∷ []) f 0 ≤ get_or most f 0
one-one most e f = subst (λ (m : List ℕ). get_or (1 ∷ 1 ∷ []) f 0 ≤ get_or m f 0) (sym e) (each f)
  where
    each : (f : ℕ) → get_or (1 ∷ 1 ∷ []) f 0 ≤ get_or (2 ∷ 2 ∷ []) f 0
    each zero = omega arith
    each (suc zero) = omega arith
    each (suc (suc f)) = omega arith

-- the looks of one serving fit into the counter of new tables
room : (i : Instance) (t : Tables) → IsInstance i → Starts i t → t.looks + (length t.owner.now + 1) * pair_total t.pairs < 2 ^ 64
room i t valid starts = omega (arith, looks-few i valid, looks-start i t starts)

pub serve-requires-clause-looks : goal.serve-requires-clause-looks
serve-requires-clause-looks g c =
    let t = c.in_ok-tables.tables in
    let e = c.in_ok-tables.ensures in
    room c.in-Some-2.input t (subst IsInstance c.input.view_is c.input.invariant.instance) (record { sound = e.sound; fits = record { machines = e.machines; holds = e.holds; most = e.most }; slots = e.slots; pairs = e.pairs; looks = e.looks })

pub serve-requires-2-clause-looks : goal.serve-requires-2-clause-looks
serve-requires-2-clause-looks g c =
    let t = c.in_ok-again.again in
    let e = c.in_ok-again.ensures in
    room c.in-Some-2.input t (subst IsInstance c.input.view_is c.input.invariant.instance) (record { sound = e.sound; fits = record { machines = e.machines; holds = e.holds; most = e.most }; slots = e.slots; pairs = e.pairs; looks = e.looks })

pub serve-requires-clause-limited : goal.serve-requires-clause-limited
serve-requires-clause-limited g c f l =
    let known = rw c.in-Some-2.is at c.in_ok-input.ensures.most in
    inl (two-one c.in_ok-tables.tables.most.now (c.in_ok-tables.ensures.most ∙ known) f)

pub serve-requires-2-clause-limited : goal.serve-requires-2-clause-limited
serve-requires-2-clause-limited g c f l =
    let known = rw c.in-Some-2.is at c.in_ok-input.ensures.most in
    inl (one-one c.in_ok-again.again.most.now (c.in_ok-again.ensures.most ∙ known) f)

pub copy_plan-requires : goal.copy_plan-requires
copy_plan-requires g c =
    let t = c.serve-2.new.tables in
    let sound : IsConsistent 2 t = c.serve-2.ensures.sound in
    record { sound = subst (λ (n : ℕ). IsConsistent n t) (sym (order-size 2 t.order.now sound.order)) sound }
