-- from the tables that serve a level to the answer
use Rattle.std.proofs.Common.{◌≡◌, ℕ, ◌-◌, ◌<◌, List, Option, length, map, ap, sym, ◌∙◌, subst}
use Rattle.plan_model.specs.Planning.{Instance, IsInstance, IsShort}
use Rattle.plan_model.specs.Shown.{IsShownPlan}
use Rattle.round_arena.specs.declared.tables.Tables.{Tables}
use Rattle.round_arena.specs.Round.{SamePairs, plan_entries, plan_of}
use Rattle.level_search.specs.Answered.{evidence}
use Rattle.level_search.specs.Spread.{IsSettled}
use Rattle.level_search.proofs.Showing.{Tells, plan_of-is, shown-plan}

-- settled tables tell the plan that is copied from them
Tells-settled : (i : Instance) (level : ℕ) (t u : Tables) → t.slot.now ≡ map (λ worker. worker.0) i.live → IsSettled i level u → SamePairs t u → Tells i u
Tells-settled i level t u slots settled same = record {
  sound = settled.sound;
  fits = settled.fits;
  slots = ap (λ s. s.now) same.slot ∙ slots;
}

-- the settled tables, copied out
pub shown-settled : (i : Instance) (t u : Tables) (level : ℕ) (set : List ℕ) (entries : List (ℕ × Option ℕ)) (short : Option (List ℕ)) → IsInstance i → t.slot.now ≡ map (λ worker. worker.0) i.live
    → IsSettled i level u → SamePairs t u → (0 < level → IsShort i (level - 1) set) → entries ≡ plan_of u → short ≡ evidence level set → IsShownPlan i entries level short
shown-settled i t u level set entries short valid slots settled same lacks copied beside =
    let tells : Tells i u = Tells-settled i level t u slots settled same in
    let all : entries ≡ plan_entries (length i.least) u.slot.now u.owner.now = copied ∙ plan_of-is i u tells in
    subst (λ (z : List (ℕ × Option ℕ)). IsShownPlan i z level short) (sym all)
    (subst (λ (z : Option (List ℕ)). IsShownPlan i (plan_entries (length i.least) u.slot.now u.owner.now) level z) (sym beside)
    (shown-plan i u level set valid tells settled.full settled.met lacks))
