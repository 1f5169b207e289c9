-- The numbers of a size are small enough for its lines, and its functions are there.
use Rattle.std.proofs.Common.{◌≡◌, ℕ, ◌*◌, ◌^◌, ◌<◌, ◌≤◌, ◌&&◌, zero, suc, Bool, true, false, not, ltb, List, [], ◌∷◌, Option, Some, None, IfSome, length, get_or, All, refl, ap, sym, subst, ◌∙◌, lit<, arith}
use Rattle.std.specs.List.{AllByRecursion, range_with_len}
use Rattle.std.specs.Option.{option_or}
use Rattle.std.proofs.lemmas.List.Elements.{recursion_from_All}
use Rattle.std.proofs.lemmas.List.FromFn.{get_or-range_with_len, length-range_with_len}
use Rattle.plan_model.specs.Planning.{functions}
use Rattle.plan_model.proofs.Needs.{div_ceil-le}
use Rattle.plan_sizing.specs.Sizing.{Farm, IsFarm, first_obstacle, first_of, is_known_to, need, obstacle_at, wanted}
use Rattle.plan_sizing.specs.declared.size.Obstacle.{Obstacle}
use Rattle.plan_sizing.specs.declared.size.Obstacle.TheVariants.{AboveMost, NoMachine}
use Rattle.pool_report.proofs.Bounds.{waiting_few}
use Rattle.text_pieces.proofs.Cutting.{never, same}

larger : (w l : ℕ) → 0 < l → w ≤ w * l
larger w zero some = absurd (omega (arith, some))
larger w (suc l) some = omega arith

wanted_small : (level : Option ℕ) (w : ℕ) → IfSome level (λ l. 0 < l) → w < 2 ^ 32 → wanted level w < 2 ^ 32
wanted_small None w some small = lit< tt
wanted_small (Some l) w some small = omega (arith, div_ceil-le w l w some (larger w l some), small)

range_below : (n : ℕ) → All (λ f. f < n) (range_with_len 0 n)
range_below n k d inside = rw (get_or-range_with_len 0 n k d (omega (arith, inside, length-range_with_len 0 n))) (omega (arith, inside, length-range_with_len 0 n))

-- the function is there, and the numbers fit a line
abbrev pub IsTold : ℕ → Obstacle → Type 0
IsTold n (AboveMost f need most) = (f < n) × (need < 2 ^ 32) × (most < 2 ^ 32)
IsTold n (NoMachine f need) = (f < n) × (need < 2 ^ 32)

module _ (farm : Farm) (valid : IsFarm farm) (least : All (λ n. n < 2 ^ 32) farm.problem.least) where
  pub need_small : (f : ℕ) → need farm f < 2 ^ 32
  need_small f =
      omega (arith, waiting_few farm.problem.least f least, wanted_small farm.level (get_or farm.problem.waiting f 0) valid.some (waiting_few farm.problem.waiting f valid.instance.counted))

  module _ (most : All (λ n. n < 2 ^ 32) farm.problem.most) where
    told_at : (f : ℕ) (o : Obstacle) → f < length farm.problem.least → obstacle_at farm f ≡ Some o → IsTold (length farm.problem.least) o
    told_at f o below is = by (ltb (get_or farm.problem.most f 0) (need farm f)) refl (ltb 0 (need farm f) && not (is_known_to farm.problem f)) refl
      where
        by : (a : Bool) → ltb (get_or farm.problem.most f 0) (need farm f) ≡ a → (b : Bool) → (ltb 0 (need farm f) && not (is_known_to farm.problem f)) ≡ b
            → IsTold (length farm.problem.least) o
        by true p b q =
            let this : Some (AboveMost f (need farm f) (get_or farm.problem.most f 0)) ≡ Some o = rw p at is in
            subst (IsTold (length farm.problem.least)) (same (AboveMost f (need farm f) (get_or farm.problem.most f 0)) o this) (below, need_small f, waiting_few farm.problem.most f most)
        by false p true q =
            let this : Some (NoMachine f (need farm f)) ≡ Some o = rw (p, q) at is in
            subst (IsTold (length farm.problem.least)) (same (NoMachine f (need farm f)) o this) (below, need_small f)
        by false p false q =
            let this : None ≡ Some o = rw (p, q) at is in
            absurd (never o this)

    told_in : (fs : List ℕ) (o : Obstacle) → AllByRecursion (λ f. f < length farm.problem.least) fs → first_of farm fs ≡ Some o → IsTold (length farm.problem.least) o
    told_in [] o below is = absurd (never o is)
    told_in (f ∷ fs) o below is = by (told_in fs o below.1) (obstacle_at farm f) refl
      where
        by : (first_of farm fs ≡ Some o → IsTold (length farm.problem.least) o) → (r : Option Obstacle) → obstacle_at farm f ≡ r → IsTold (length farm.problem.least) o
        by later (Some one) this = told_at f o below.0 (this ∙ ap (λ (r : Option Obstacle). option_or r (first_of farm fs)) (sym this) ∙ is)
        by later None this = later (ap (λ (r : Option Obstacle). option_or r (first_of farm fs)) (sym this) ∙ is)

    pub obstacle_told : (o : Obstacle) → first_obstacle farm ≡ Some o → IsTold (length farm.problem.least) o
    obstacle_told o is = told_in (functions farm.problem) o (recursion_from_All (λ f. f < length farm.problem.least) (functions farm.problem) (range_below (length farm.problem.least))) is
