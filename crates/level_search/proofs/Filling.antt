-- laws of the filling of idle workers
use Rattle.std.proofs.Common.{◌≡◌, ℕ, ◌+◌, ◌-◌, ◌<◌, ◌≤◌, ◌⊎◌, List, length, get_or, set, refl, sym, ap, ◌∙◌, subst, arith, inl, inr}
use Rattle.std.proofs.lemmas.Bool.{cases_eq, cases_lt}
use Rattle.std.proofs.lemmas.List.{get_or-set_same, get_or-set_other, length-set}
use Rattle.round_arena.specs.declared.tables.Pairs.{Pairs}
use Rattle.augment.specs.Moves.{one_if_equal}
use Rattle.round_arena.specs.declared.tables.Tables.{Tables}
use Rattle.round_arena.specs.Plan.{IsPair, IsGraph, IsAssigned, IsCounted, AreWithin, count_on, machine_count}
use Rattle.round_arena.specs.Round.{IsConsistent, SamePairs}
use Rattle.level_search.specs.Filled.{IsFilled, AreBusy, AreBusyUpTo, IsBusyUpTo}
use Rattle.augment.proofs.Rounds.{IsConsistent-moved}
use Rattle.augment.proofs.Flips.{one_if_equal-same, one_if_equal-other, count_on-set, count_on-positive, IsAssigned-set, IsCounted-move}

pub IsFilled-refl : (functions : ℕ) (pairs : Pairs) (most owner count : List ℕ) → IsAssigned functions pairs owner → IsCounted functions owner count → AreWithin functions most owner
    → IsFilled functions pairs most owner owner count
IsFilled-refl functions pairs most owner count a c within = record {
  size = refl;
  assigned = a;
  counted = c;
  kept = λ w l. refl;
  grows = λ f l. omega arith;
  within = within;
  room = λ w l idle busy. absurd (omega (arith, idle, busy));
}

pub IsFilled-trans : (functions : ℕ) (pairs : Pairs) (most before now after count count' : List ℕ) → IsFilled functions pairs most before now count → IsFilled functions pairs most now after count' → IsFilled functions pairs most before after count'
IsFilled-trans functions pairs most before now after count count' a b = record {
  size = b.size ∙ a.size;
  assigned = b.assigned;
  counted = b.counted;
  kept = λ w l. b.kept w (omega (arith, a.kept w l)) ∙ a.kept w l;
  grows = λ f l. omega (arith, a.grows f l, b.grows f l);
  within = b.within;
  room = λ w l idle busy. elim (cases_lt (get_or now w 0) functions) [
    | inl then ↦
        let same : get_or after w 0 ≡ get_or now w 0 = b.kept w then in
        omega (arith, a.room w l idle then, ap (count_on before) same, ap (λ z. get_or most z 0) same)
    | inr still ↦ omega (arith, b.room w (omega (arith, l, a.size)) still busy, a.grows (get_or after w 0) busy)
  ];
}

-- an idle worker goes to f
pub IsFilled-set : (functions : ℕ) (pairs : Pairs) (most owner count : List ℕ) (w f : ℕ) → IsAssigned functions pairs owner → IsCounted functions owner count → AreWithin functions most owner
    → w < length owner → f < functions → get_or owner w 0 ≡ functions → IsPair pairs w f → count_on owner f < get_or most f 0
    → IsFilled functions pairs most owner (set owner w f) (set (set count functions (get_or count functions 0 - 1)) f (get_or (set count functions (get_or count functions 0 - 1)) f 0 + 1))
IsFilled-set functions pairs most owner count w f a c within l b idle pr low =
    let moved : (g : ℕ) → count_on (set owner w f) g + one_if_equal functions g ≡ count_on owner g + one_if_equal f g =
    λ g. ap (λ z. count_on (set owner w f) g + one_if_equal z g) (sym idle) ∙ count_on-set owner w f g l in
    let some : 0 < count_on owner functions = omega (arith, count_on-positive owner w l, ap (count_on owner) idle) in
    record {
      size = length-set owner w f;
      assigned = IsAssigned-set functions pairs owner w f a l b pr;
      counted = IsCounted-move functions owner (set owner w f) count functions f c (omega arith) b (λ q. omega (arith, q)) some moved;
      kept = λ v k. get_or-set_other owner w v f 0 (λ q. omega (arith, ap (λ z. get_or owner z 0) q));
      grows = λ g k. omega (arith, moved g, one_if_equal-other functions g (λ q. omega (arith, q)));
      within = λ g k. elim (cases_eq f g) [
        | inl q ↦ omega (arith, moved g, one_if_equal-same f g q, ap (count_on owner) q, ap (λ z. get_or most z 0) q, low)
        | inr ne ↦ omega (arith, moved g, one_if_equal-other f g ne, within g k)
      ];
      room = λ v k free busy. elim (cases_eq v w) [
        | inl q ↦
            let here : get_or (set owner w f) v 0 ≡ f = ap (λ z. get_or (set owner w f) z 0) q ∙ get_or-set_same owner w f 0 l in
            omega (arith, low, ap (count_on owner) here, ap (λ z. get_or most z 0) here)
        | inr ne ↦ absurd (omega (arith, free, busy, get_or-set_other owner w v f 0 ne))
      ];
    }

-- busy workers stay so, and functions at their greatest number
pub AreBusyUpTo-filled : (functions : ℕ) (pairs : Pairs) (most before after count : List ℕ) (f m end : ℕ) → IsFilled functions pairs most before after count → f < functions
    → AreBusyUpTo pairs most before functions f m end → AreBusyUpTo pairs most after functions f m end
AreBusyUpTo-filled functions pairs most before after count f m end h below b k l n =
    elim (b k l n) [
      | inl busy ↦ inl (omega (arith, h.kept (get_or pairs.workers.items.now k 0) busy, busy))
      | inr filled ↦ inr (omega (arith, h.grows f below, filled))
    ]

pub AreBusyUpTo-more : (functions : ℕ) (pairs : Pairs) (most owner : List ℕ) (f m end : ℕ) → AreBusyUpTo pairs most owner functions f m end
    → (get_or owner (get_or pairs.workers.items.now end 0) 0 < functions) ⊎ (get_or most f 0 ≤ count_on owner f) → AreBusyUpTo pairs most owner functions f m (end + 1)
AreBusyUpTo-more functions pairs most owner f m end b here k l n =
    elim (cases_eq k end) [
      | inl q ↦ subst (λ (z : ℕ). (get_or owner (get_or pairs.workers.items.now z 0) 0 < functions) ⊎ (get_or most f 0 ≤ count_on owner f)) (sym q) here
      | inr ne ↦ b k l (omega (arith, ne))
    ]

-- a function that can take nobody leaves nobody idle for nothing
pub AreBusy-closed : (functions : ℕ) (pairs : Pairs) (most owner : List ℕ) (f m : ℕ) → IsGraph functions (length owner) pairs → IsAssigned functions pairs owner → m < machine_count pairs
    → (count_on owner functions ≡ 0) ⊎ (get_or most f 0 ≤ count_on owner f) → AreBusy pairs most owner functions f m
AreBusy-closed functions pairs most owner f m g a known closed k l n =
    let w : ℕ = get_or pairs.workers.items.now k 0 in
    let there : w < length owner = g.workers.known k (omega (arith, n, g.workers.ends (m + 1) (omega (arith, known)))) in
    elim closed [
      | inl none ↦ inl (elim (cases_lt (get_or owner w 0) functions) [
        | inl busy ↦ busy
        | inr idle ↦
            let same : get_or owner w 0 ≡ functions = omega (arith, idle, a.below w there) in
            absurd (omega (arith, none, count_on-positive owner w there, ap (count_on owner) same))
      ])
      | inr filled ↦ inr filled
    ]

pub IsBusyUpTo-filled : (functions : ℕ) (pairs : Pairs) (most before after count : List ℕ) (f end : ℕ) → IsFilled functions pairs most before after count → f < functions → IsBusyUpTo pairs most before functions f end → IsBusyUpTo pairs most after functions f end
IsBusyUpTo-filled functions pairs most before after count f end h below b k l n =
    let m = get_or pairs.machines.items.now k 0 in
    AreBusyUpTo-filled functions pairs most before after count f m (get_or pairs.workers.first.now (m + 1) 0) h below (b k l n)

pub IsBusyUpTo-more : (functions : ℕ) (pairs : Pairs) (most owner : List ℕ) (f end : ℕ) → IsBusyUpTo pairs most owner functions f end → AreBusy pairs most owner functions f (get_or pairs.machines.items.now end 0)
    → IsBusyUpTo pairs most owner functions f (end + 1)
IsBusyUpTo-more functions pairs most owner f end b here k l n =
    elim (cases_eq k end) [
      | inl q ↦ subst (λ (z : ℕ). AreBusy pairs most owner functions f (get_or pairs.machines.items.now z 0)) (sym q) here
      | inr ne ↦ b k l (omega (arith, ne))
    ]

-- the worker of a pair is there
pub known-pair : (pairs : Pairs) (functions staff w f : ℕ) → IsGraph functions staff pairs → f < functions → IsPair pairs w f → w < staff
known-pair pairs functions staff w f g l pair =
    let m : ℕ = pair.0 in
    let of_function = pair.1 in
    let of_machine = pair.2 in
    let listed : m < machine_count pairs = omega (arith, of_function.3, g.machines.known of_function.0 (omega (arith, of_function.2, g.machines.ends (f + 1) (omega (arith, l))))) in
    omega (arith, of_machine.3, g.workers.known of_machine.0 (omega (arith, of_machine.2, g.workers.ends (m + 1) (omega (arith, listed)))))

pub IsConsistent-filled : {functions : ℕ} {u : Tables} (t : Tables) (pairs : Pairs) (most owner count : List ℕ) → IsConsistent functions t → t.pairs ≡ pairs → t.most.now ≡ most → IsFilled functions pairs most t.owner.now owner count
    → SamePairs t u → u.owner.now ≡ owner → u.count.now ≡ count → IsConsistent functions u
IsConsistent-filled {functions} {u} t pairs most owner count s e em h same eo ec =
    IsConsistent-moved {functions = functions} {u = u} t owner count s h.size (subst (λ (p : Pairs). IsAssigned functions p owner) (sym e) h.assigned) h.counted
    (subst (λ (m : List ℕ). AreWithin functions m owner) (sym em) h.within) same eo ec

-- the filling over equal pairs and greatest numbers
pub filled-at : {functions : ℕ} {before after count : List ℕ} (p q : Pairs) (most limits : List ℕ) → p ≡ q → most ≡ limits → IsFilled functions p most before after count → IsFilled functions q limits before after count
filled-at {functions} {before} {after} {count} p q most limits ep em h =
    subst (λ (z : Pairs). IsFilled functions z limits before after count) ep (subst (λ (z : List ℕ). IsFilled functions p z before after count) em h)

pub busy_more : (functions : ℕ) (pairs : Pairs) (most before after count : List ℕ) (f : ℕ) → IsFilled functions pairs most before after count → f < functions
    → ((g : ℕ) → g < f → IsBusyUpTo pairs most before functions g (get_or pairs.machines.first.now (g + 1) 0)) → IsBusyUpTo pairs most after functions f (get_or pairs.machines.first.now (f + 1) 0)
    → (g : ℕ) → g < f + 1 → IsBusyUpTo pairs most after functions g (get_or pairs.machines.first.now (g + 1) 0)
busy_more functions pairs most before after count f h below old here g l =
    elim (cases_eq g f) [
      | inl q ↦ subst (λ (z : ℕ). IsBusyUpTo pairs most after functions z (get_or pairs.machines.first.now (z + 1) 0)) (sym q) here
      | inr ne ↦ IsBusyUpTo-filled functions pairs most before after count g (get_or pairs.machines.first.now (g + 1) 0) h (omega (arith, below, l)) (old g (omega (arith, ne)))
    ]
