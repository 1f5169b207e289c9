-- From its need on a function costs no more than the level, and with fewer workers it does not.
use Rattle.std.proofs.Common.{◌≡◌, ℕ, ◌<◌, ◌≤◌, ◌^◌, eqb, leb, get_or, Option, None, Some, IfSome, sym, ◌∙◌, arith, inl, inr}
use Rattle.std.specs.Int.{div_ceil}
use Rattle.std.proofs.lemmas.Bool.{leb-true, le-leb, eqb-true, cases_Bool}
use Rattle.plan_model.specs.Planning.{cost}
use Rattle.plan_model.proofs.Needs.{fewest_some}
use Rattle.plan_sizing.specs.Sizing.{Farm, IsFarm, IsWithin, need, wanted}

-- the cost is within the level from the quotient on
within_level : (level w n : ℕ) → 0 < level → level < 2 ^ 32 → leb (cost w n) level ≡ leb (div_ceil w level) n
within_level level w n some small = elim (cases_Bool (eqb w 0)) [
  | inl none ↦ (let zero_jobs : w ≡ 0 = eqb-true w 0 none in rw zero_jobs (le-leb 0 level (omega arith) ∙ sym (le-leb (div_ceil 0 level) n (omega arith))))
  | inr jobs ↦ fewest_some w level jobs (omega (arith, small)) some n
]

pub wanted_fits : (level : Option ℕ) (w n : ℕ) → IfSome level (λ l. 0 < l) → IfSome level (λ l. l < 2 ^ 32) → wanted level w ≤ n → IsWithin level (cost w n)
wanted_fits None w n some small enough = tt
wanted_fits (Some level) w n some small enough = leb-true (cost w n) level (within_level level w n some small ∙ le-leb (div_ceil w level) n enough)

pub wanted_least : (level : Option ℕ) (w n : ℕ) → IfSome level (λ l. 0 < l) → IfSome level (λ l. l < 2 ^ 32) → IsWithin level (cost w n) → wanted level w ≤ n
wanted_least None w n some small within = omega arith
wanted_least (Some level) w n some small within = leb-true (div_ceil w level) n (sym (within_level level w n some small) ∙ le-leb (cost w n) level within)

pub need_fits : (farm : Farm) (f n : ℕ) → IsFarm farm → need farm f ≤ n → (get_or farm.problem.least f 0 ≤ n) × IsWithin farm.level (cost (get_or farm.problem.waiting f 0) n)
need_fits farm f n valid enough = (omega (arith, enough), wanted_fits farm.level (get_or farm.problem.waiting f 0) n valid.some valid.small (omega (arith, enough)))

pub need_least : (farm : Farm) (f n : ℕ) → IsFarm farm → get_or farm.problem.least f 0 ≤ n → IsWithin farm.level (cost (get_or farm.problem.waiting f 0) n) → need farm f ≤ n
need_least farm f n valid least within = omega (arith, least, wanted_least farm.level (get_or farm.problem.waiting f 0) n valid.some valid.small within)
