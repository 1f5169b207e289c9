-- moving the workers along a path
use Rattle.std.proofs.Common.{◌≡◌, ◌≢◌, ℕ, ◌+◌, ◌-◌, ◌<◌, ◌≤◌, ◌⊎◌, List, length, get_or, set, cond, eqb, refl, sym, ap, ◌∙◌, subst, arith, inl, inr}
use Rattle.std.proofs.lemmas.Bool.{cases_eq, eq-eqb, ne_eqb}
use Rattle.std.proofs.lemmas.List.{get_or-set_same, get_or-set_other, length-set}
use Rattle.std.proofs.lemmas.List.Sums.{sum_by-set, get_or-le-sum_by}
use Rattle.augment.specs.declared.search.Tree.{Tree}
use Rattle.round_arena.specs.declared.tables.Pairs.{Pairs}
use Rattle.augment.specs.Moves.{one_if_equal}
use Rattle.round_arena.specs.Plan.{IsPair, IsAssigned, IsCounted, count_on}
use Rattle.augment.specs.Tree.{IsTree, IsWayOut, IsSpare}
use Rattle.augment.proofs.Trees.{IsInjective-tree, not_reached}

pub one_if_equal-same : (a b : ℕ) → a ≡ b → one_if_equal a b ≡ 1
one_if_equal-same a b q = ap (λ c. cond c 1 0) (eq-eqb a b q)

pub one_if_equal-other : (a b : ℕ) → a ≢ b → one_if_equal a b ≡ 0
one_if_equal-other a b ne = ap (λ c. cond c 1 0) (ne_eqb a b ne)

-- the counts after one worker is moved
pub count_on-set : (owner : List ℕ) (w x f : ℕ) → w < length owner → count_on (set owner w x) f + one_if_equal (get_or owner w 0) f ≡ count_on owner f + one_if_equal x f
count_on-set owner w x f l = sum_by-set (λ g. cond (eqb g f) 1 0) owner w x 0 l

-- the function of a worker has one
pub count_on-positive : (owner : List ℕ) (w : ℕ) → w < length owner → 0 < count_on owner (get_or owner w 0)
count_on-positive owner w l =
    let some : one_if_equal (get_or owner w 0) (get_or owner w 0) ≤ count_on owner (get_or owner w 0) = get_or-le-sum_by (λ g. cond (eqb g (get_or owner w 0)) 1 0) owner w 0 l in
    omega (arith, one_if_equal-same (get_or owner w 0) (get_or owner w 0) refl)

-- worker w, who is not yet moved, goes to the function at place `at` of the tree
pub record IsFlipping (pairs : Pairs) (functions : ℕ) (t : Tree) (before owner : List ℕ) (source w at : ℕ) : Type 0 where
  pub size : length owner ≡ length before
  pub worker : w < length owner
  pub within : at < t.tail
  pub pair : IsPair pairs w (get_or t.reached.now at 0)
  pub assigned : IsAssigned functions pairs owner
  pub holds : (i : ℕ) → 0 < i → i ≤ at → get_or owner (get_or t.by.now i 0) 0 ≡ get_or t.reached.now i 0
  pub apart : (i : ℕ) → i ≤ at → get_or owner w 0 ≢ get_or t.reached.now i 0
  pub counts : (f : ℕ) → count_on owner f + one_if_equal source f ≡ count_on before f + one_if_equal (get_or owner w 0) f

-- a spare worker's function was not reached
pub not_reached-spare : (pairs : Pairs) (owner count need : List ℕ) (t : Tree) (w i : ℕ) → IsTree pairs owner count need t → IsSpare owner count need t w → i < t.tail → get_or owner w 0 ≢ get_or t.reached.now i 0
not_reached-spare pairs owner count need t w i h spare l q =
    elim spare [
      | inl idle ↦ omega (arith, h.known i l)
      | inr rich ↦ not_reached {pairs = pairs} {owner = owner} {count = count} {need = need} t (get_or owner w 0) i h rich.1 l (sym q)
    ]

pub IsFlipping-start : (pairs : Pairs) (owner count need : List ℕ) (t : Tree) (w at : ℕ) → IsTree pairs owner count need t → IsWayOut pairs owner count need t w at → IsAssigned (length need) pairs owner
    → IsFlipping pairs (length need) t owner owner (get_or owner w 0) w at
IsFlipping-start pairs owner count need t w at h way a = record {
  size = refl;
  worker = way.employed;
  within = way.place;
  pair = way.permitted;
  assigned = a;
  holds = λ i p l. h.holds i p (omega (arith, way.place));
  apart = λ i l. not_reached-spare pairs owner count need t w i h way.spare (omega (arith, way.place));
  counts = λ f. refl;
}

-- the plan with one worker moved to a function that he may do
pub IsAssigned-set : (functions : ℕ) (pairs : Pairs) (owner : List ℕ) (w x : ℕ) → IsAssigned functions pairs owner → w < length owner → x < functions → IsPair pairs w x → IsAssigned functions pairs (set owner w x)
IsAssigned-set functions pairs owner w x a l b pr = record {
  below = λ v k. elim (cases_eq v w) [
    | inl q ↦
        let here : get_or (set owner w x) v 0 ≡ x = ap (λ z. get_or (set owner w x) z 0) q ∙ get_or-set_same owner w x 0 l in
        omega arith
    | inr ne ↦
        let there : get_or (set owner w x) v 0 ≡ get_or owner v 0 = get_or-set_other owner w v x 0 ne in
        omega (arith, a.below v (omega (arith, length-set owner w x)))
  ];
  permitted = λ v k m. elim (cases_eq v w) [
    | inl q ↦
        let here : get_or (set owner w x) v 0 ≡ x = ap (λ z. get_or (set owner w x) z 0) q ∙ get_or-set_same owner w x 0 l in
        subst (λ (z : ℕ). IsPair pairs z (get_or (set owner w x) v 0)) (sym q) (subst (λ (z : ℕ). IsPair pairs w z) (sym here) pr)
    | inr ne ↦
        let there : get_or (set owner w x) v 0 ≡ get_or owner v 0 = get_or-set_other owner w v x 0 ne in
        subst (λ (z : ℕ). IsPair pairs v z) (sym there) (a.permitted v (omega (arith, length-set owner w x)) (omega arith))
  ];
}

pub IsFlipping-step : (pairs : Pairs) (owner0 count need : List ℕ) (t : Tree) (owner : List ℕ) (source w at : ℕ) → IsTree pairs owner0 count need t → IsFlipping pairs (length need) t owner0 owner source w at → 0 < at
    → IsFlipping pairs (length need) t owner0 (set owner w (get_or t.reached.now at 0)) source (get_or t.by.now at 0) (get_or t.from.now at 0)
IsFlipping-step pairs owner0 count need t owner source w at h s p =
    let x : ℕ = get_or t.reached.now at 0 in
    let next : ℕ = get_or t.by.now at 0 in
    let up : get_or t.from.now at 0 < at = h.earlier at p s.within in
    let employed : next < length owner = omega (arith, h.employed at p s.within, s.size) in
    let other : (i : ℕ) → 0 < i → i ≤ at → get_or t.by.now i 0 ≢ w = λ i q l e. s.apart i l (ap (λ z. get_or owner z 0) (sym e) ∙ s.holds i q l) in
    let stays : (i : ℕ) → 0 < i → i ≤ at → get_or (set owner w x) (get_or t.by.now i 0) 0 ≡ get_or t.reached.now i 0 =
    λ i q l. get_or-set_other owner w (get_or t.by.now i 0) x 0 (other i q l) ∙ s.holds i q l in
    let here : get_or (set owner w x) next 0 ≡ x = stays at p (omega arith) in
    record {
      size = length-set owner w x ∙ s.size;
      worker = omega (arith, length-set owner w x);
      within = omega (arith, s.within);
      pair = h.permitted at p s.within;
      assigned = IsAssigned-set (length need) pairs owner w x s.assigned s.worker (h.known at s.within) s.pair;
      holds = λ i q l. stays i q (omega arith);
      apart = λ i l q. (IsInjective-tree {pairs = pairs} {owner = owner0} {count = count} {need = need} t h).apart i at (omega arith) s.within (sym q ∙ here);
      counts = λ f. omega (arith, count_on-set owner w x f s.worker, s.counts f, ap (λ z. one_if_equal z f) here);
    }

-- after the last move
pub record IsFlipped (pairs : Pairs) (functions : ℕ) (before after : List ℕ) (source root : ℕ) : Type 0 where
  pub size : length after ≡ length before
  pub assigned : IsAssigned functions pairs after
  pub counts : (f : ℕ) → count_on after f + one_if_equal source f ≡ count_on before f + one_if_equal root f

pub IsFlipped-end : (pairs : Pairs) (owner0 count need : List ℕ) (t : Tree) (owner : List ℕ) (source w at root : ℕ) → IsTree pairs owner0 count need t → IsFlipping pairs (length need) t owner0 owner source w at → at ≡ 0 → get_or t.reached.now 0 0 ≡ root → root < length need
    → IsFlipped pairs (length need) owner0 (set owner w root) source root
IsFlipped-end pairs owner0 count need t owner source w at root h s z r l =
    let same : get_or t.reached.now at 0 ≡ root = ap (λ n. get_or t.reached.now n 0) z ∙ r in
    record {
      size = length-set owner w root ∙ s.size;
      assigned = IsAssigned-set (length need) pairs owner w root s.assigned s.worker l (subst (λ (x : ℕ). IsPair pairs w x) same s.pair);
      counts = λ f. omega (arith, count_on-set owner w root f s.worker, s.counts f);
    }

-- the two counts that change
pub IsCounted-move : (functions : ℕ) (before after count : List ℕ) (source root : ℕ) → IsCounted functions before count → source ≤ functions → root < functions → root ≢ source → 0 < count_on before source
    → ((f : ℕ) → count_on after f + one_if_equal source f ≡ count_on before f + one_if_equal root f)
    → IsCounted functions after (set (set count source (get_or count source 0 - 1)) root (get_or (set count source (get_or count source 0 - 1)) root 0 + 1))
IsCounted-move functions before after count source root c sl rl ne some e =
    let less : List ℕ = set count source (get_or count source 0 - 1) in
    let more : List ℕ = set less root (get_or less root 0 + 1) in
    let less_size : length less ≡ functions + 1 = length-set count source (get_or count source 0 - 1) ∙ c.size in
    record {
      size = length-set less root (get_or less root 0 + 1) ∙ less_size;
      counts = λ f l. elim (cases_eq f root) [
        | inl q ↦
            let here : get_or more f 0 ≡ get_or less root 0 + 1 = ap (λ z. get_or more z 0) q ∙ get_or-set_same less root (get_or less root 0 + 1) 0 (omega arith) in
            let old : get_or less root 0 ≡ get_or count root 0 = get_or-set_other count source root (get_or count source 0 - 1) 0 ne in
            let same : count_on after f ≡ count_on after root = ap (count_on after) q in
            omega (arith, e root, c.counts root (omega arith), one_if_equal-same root root refl, one_if_equal-other source root (λ z. ne (sym z)))
        | inr other ↦
            let there : get_or more f 0 ≡ get_or less f 0 = get_or-set_other less root f (get_or less root 0 + 1) 0 other in
            elim (cases_eq f source) [
              | inl q ↦
                  let here : get_or less f 0 ≡ get_or count source 0 - 1 = ap (λ z. get_or less z 0) q ∙ get_or-set_same count source (get_or count source 0 - 1) 0 (omega (arith, c.size)) in
                  let same : count_on after f ≡ count_on after source = ap (count_on after) q in
                  omega (arith, e source, c.counts source sl, one_if_equal-same source source refl, one_if_equal-other root source ne)
              | inr third ↦
                  let old : get_or less f 0 ≡ get_or count f 0 = get_or-set_other count source f (get_or count source 0 - 1) 0 third in
                  omega (arith, e f, c.counts f l, one_if_equal-other source f (λ z. third (sym z)), one_if_equal-other root f (λ z. other (sym z)))
            ]
      ];
    }

-- a function that lacks workers is not the one that a spare worker leaves
pub root-not_source : (functions : ℕ) (need before count : List ℕ) (source root : ℕ) → IsCounted functions before count → root < functions → get_or count root 0 < get_or need root 0
    → (source ≡ functions) ⊎ ((source < functions) × (get_or need source 0 < count_on before source)) → root ≢ source
root-not_source functions need before count source root c l lack spare q =
    elim spare [
      | inl idle ↦ omega arith
      | inr rich ↦ omega (arith, rich.1, c.counts source (omega (arith, rich.0)), ap (λ z. get_or count z 0) q, ap (λ z. get_or need z 0) q)
    ]

-- where a spare worker comes from
pub source-spare : (owner count need : List ℕ) (t : Tree) (w : ℕ) → IsCounted (length need) owner count → IsSpare owner count need t w
    → (get_or owner w 0 ≡ length need) ⊎ ((get_or owner w 0 < length need) × (get_or need (get_or owner w 0) 0 < count_on owner (get_or owner w 0)))
source-spare owner count need t w c spare =
    elim spare [
      | inl idle ↦ inl idle
      | inr rich ↦ inr (rich.0, omega (arith, rich.2, c.counts (get_or owner w 0) (omega (arith, rich.0))))
    ]

-- an idle worker goes to the root
pub IsFlipped-idle : (pairs : Pairs) (functions : ℕ) (owner : List ℕ) (w root : ℕ) → IsAssigned functions pairs owner → w < length owner → root < functions → IsPair pairs w root → get_or owner w 0 ≡ functions
    → IsFlipped pairs functions owner (set owner w root) functions root
IsFlipped-idle pairs functions owner w root a l b pr idle = record {
  size = length-set owner w root;
  assigned = IsAssigned-set functions pairs owner w root a l b pr;
  counts = λ f. ap (λ z. count_on (set owner w root) f + one_if_equal z f) (sym idle) ∙ count_on-set owner w root f l;
}
