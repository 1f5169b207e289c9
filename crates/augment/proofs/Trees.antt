-- laws of the tree of functions that a search has reached
use Rattle.std.proofs.Common.{◌≡◌, ◌≢◌, ℕ, suc, ◌+◌, ◌-◌, ◌<◌, ◌≤◌, ◌⊎◌, true, false, List, length, get_or, set, refl, sym, ap, ◌∙◌, subst, arith, inl, inr}
use Rattle.std.proofs.lemmas.Bool.{cases_eq, cases_lt, false≢true}
use Rattle.std.proofs.lemmas.List.{get_or-set_same, get_or-set_other, get_or_past, length-set}
use Rattle.augment.specs.declared.search.Tree.{Tree}
use Rattle.round_arena.specs.declared.tables.Pairs.{Pairs}
use Rattle.augment.proofs.Totals.{total}
use Rattle.round_arena.specs.Plan.{IsPair, IsGraph, degree, machine_count, pair_total, pairs_up_to}
use Rattle.round_arena.proofs.Counts.{pairs_up_to-le, pairs_up_to-step}
use Rattle.augment.specs.Tree.{HasRoom, IsTree, Reaches, Passes, StartsAt, Extends, IsPassed, IsPassedUpTo, IsClosed, IsClosedUpTo, AreClosed}
use Rattle.augment.proofs.Totals.{IsInjective, total-injective, total-ones, total-cong, total-steps, injective-short}

last_or_before : (i n : ℕ) → i < n + 1 → (i ≡ n) ⊎ (i < n)
last_or_before i n l = elim (cases_eq i n) [ inl q ↦ inl q | inr ne ↦ inr (omega (arith, ne)) ]

-- a list after one write
pub at_write : (xs ys : List ℕ) (n x i : ℕ) → ys ≡ set xs n x → n < length xs → i ≡ n → get_or ys i 0 ≡ x
at_write xs ys n x i e l q = ap (λ z. get_or z i 0) e ∙ ap (λ k. get_or (set xs n x) k 0) q ∙ get_or-set_same xs n x 0 l

pub off_write : (xs ys : List ℕ) (n x i : ℕ) → ys ≡ set xs n x → i ≢ n → get_or ys i 0 ≡ get_or xs i 0
off_write xs ys n x i e ne = ap (λ z. get_or z i 0) e ∙ get_or-set_other xs n i x 0 ne

pub length_write : (xs ys : List ℕ) (n x m : ℕ) → ys ≡ set xs n x → length xs ≡ m → length ys ≡ m
length_write xs ys n x m e l = ap length e ∙ length-set xs n x ∙ l

module _ {pairs : Pairs} {owner count need : List ℕ} where
  -- the functions reached are apart
  pub IsInjective-tree : (t : Tree) → IsTree pairs owner count need t → IsInjective t.tail (length need) (λ i. get_or t.reached.now i 0)
  IsInjective-tree t h = record {
    below = h.known;
    apart = λ i j l m q.
        let here : get_or t.place.now (get_or t.reached.now i 0) 0 ≡ i + 1 = h.placed i (omega arith) in
        let there : get_or t.place.now (get_or t.reached.now j 0) 0 ≡ j + 1 = h.placed j m in
        let same : get_or t.place.now (get_or t.reached.now i 0) 0 ≡ get_or t.place.now (get_or t.reached.now j 0) 0 = ap (λ z. get_or t.place.now z 0) q in
        omega arith;
  }

  -- no more functions are reached than there are
  pub tail-le : (t : Tree) → IsTree pairs owner count need t → t.tail ≤ length need
  tail-le t h =
      let few : total t.tail (λ _. 1) ≤ total (length need) (λ _. 1) = total-injective t.tail (length need) (λ i. get_or t.reached.now i 0) (λ _. 1) (IsInjective-tree t h) in
      omega (arith, total-ones t.tail, total-ones (length need))

  -- a function that was not reached is none of those
  pub not_reached : (t : Tree) (g i : ℕ) → IsTree pairs owner count need t → get_or t.place.now g 0 ≡ 0 → i < t.tail → get_or t.reached.now i 0 ≢ g
  not_reached t g i h fresh l q =
      let here : get_or t.place.now (get_or t.reached.now i 0) 0 ≡ i + 1 = h.placed i l in
      let same : get_or t.place.now (get_or t.reached.now i 0) 0 ≡ get_or t.place.now g 0 = ap (λ z. get_or t.place.now z 0) q in
      omega arith

  pub tail-lt : (t : Tree) (g : ℕ) → IsTree pairs owner count need t → g < length need → get_or t.place.now g 0 ≡ 0 → t.tail < length need
  tail-lt t g h l fresh = injective-short t.tail (length need) (λ i. get_or t.reached.now i 0) g (IsInjective-tree t h) l (λ i k. not_reached t g i h fresh k)

  -- what was marked stays so
  marks_reach : (t u : Tree) (g w head : ℕ) → IsTree pairs owner count need t → Reaches t u g w head → g < length need → get_or t.place.now g 0 ≡ 0 → (f : ℕ) → 0 < get_or t.place.now f 0 → 0 < get_or u.place.now f 0
  marks_reach t u g w head h r gl fresh f m = elim (cases_eq f g) [
    | inl q ↦ absurd (omega (arith, ap (λ z. get_or t.place.now z 0) q))
    | inr ne ↦ omega (arith, off_write t.place.now u.place.now g (t.tail + 1) f r.place ne)
  ]

  pub IsTree-reach : (t u : Tree) (g w head : ℕ) → IsTree pairs owner count need t → Reaches t u g w head
      → g < length need → get_or t.place.now g 0 ≡ 0 → head < t.tail → w < length owner → get_or owner w 0 ≡ g
      → IsPair pairs w (get_or t.reached.now head 0) → get_or count g 0 ≤ get_or need g 0
      → IsTree pairs owner count need u
  IsTree-reach t u g w head h r gl fresh hl wl on pr ti =
      let short : t.tail < length need = tail-lt t g h gl fresh in
      let tails : u.tail ≡ t.tail + 1 = r.tail in
      let reached_here : (i : ℕ) → i ≡ t.tail → get_or u.reached.now i 0 ≡ g = λ i q. at_write t.reached.now u.reached.now t.tail g i r.reached (omega (arith, h.room.reached)) q in
      let reached_there : (i : ℕ) → i < t.tail → get_or u.reached.now i 0 ≡ get_or t.reached.now i 0 = λ i l. off_write t.reached.now u.reached.now t.tail g i r.reached (λ q. omega (arith, q)) in
      let by_here : (i : ℕ) → i ≡ t.tail → get_or u.by.now i 0 ≡ w = λ i q. at_write t.by.now u.by.now t.tail w i r.by (omega (arith, h.room.by)) q in
      let by_there : (i : ℕ) → i < t.tail → get_or u.by.now i 0 ≡ get_or t.by.now i 0 = λ i l. off_write t.by.now u.by.now t.tail w i r.by (λ q. omega (arith, q)) in
      let from_here : (i : ℕ) → i ≡ t.tail → get_or u.from.now i 0 ≡ head = λ i q. at_write t.from.now u.from.now t.tail head i r.from (omega (arith, h.room.from)) q in
      let from_there : (i : ℕ) → i < t.tail → get_or u.from.now i 0 ≡ get_or t.from.now i 0 = λ i l. off_write t.from.now u.from.now t.tail head i r.from (λ q. omega (arith, q)) in
      let place_here : (f : ℕ) → f ≡ g → get_or u.place.now f 0 ≡ t.tail + 1 = λ f q. at_write t.place.now u.place.now g (t.tail + 1) f r.place (omega (arith, h.room.place)) q in
      let place_there : (f : ℕ) → f ≢ g → get_or u.place.now f 0 ≡ get_or t.place.now f 0 = λ f ne. off_write t.place.now u.place.now g (t.tail + 1) f r.place ne in
      record {
        room = record {
          reached = length_write t.reached.now u.reached.now t.tail g (length need) r.reached h.room.reached;
          by = length_write t.by.now u.by.now t.tail w (length need) r.by h.room.by;
          from = length_write t.from.now u.from.now t.tail head (length need) r.from h.room.from;
          place = length_write t.place.now u.place.now g (t.tail + 1) (length need) r.place h.room.place;
          passed = ap length r.passed ∙ h.room.passed;
        };
        known = λ i l. elim (last_or_before i t.tail (omega arith)) [
          | inl q ↦ omega (arith, reached_here i q)
          | inr k ↦ omega (arith, reached_there i k, h.known i k)
        ];
        placed = λ i l. elim (last_or_before i t.tail (omega arith)) [
          | inl q ↦ place_here (get_or u.reached.now i 0) (reached_here i q) ∙ ap (λ n. n + 1) (sym q)
          | inr k ↦ ap (λ z. get_or u.place.now z 0) (reached_there i k) ∙ place_there (get_or t.reached.now i 0) (not_reached t g i h fresh k) ∙ h.placed i k
        ];
        marked = λ f l m. elim (cases_eq f g) [
          | inl q ↦
              let here : get_or u.place.now f 0 ≡ t.tail + 1 = place_here f q in
              (omega arith, reached_here (get_or u.place.now f 0 - 1) (omega arith) ∙ sym q)
          | inr ne ↦
              let there : get_or u.place.now f 0 ≡ get_or t.place.now f 0 = place_there f ne in
              let old = h.marked f l (omega arith) in
              (omega arith, reached_there (get_or u.place.now f 0 - 1) (omega arith) ∙ ap (λ n. get_or t.reached.now (n - 1) 0) there ∙ old.1)
        ];
        employed = λ i p l. elim (last_or_before i t.tail (omega arith)) [
          | inl q ↦ omega (arith, by_here i q)
          | inr k ↦ omega (arith, by_there i k, h.employed i p k)
        ];
        holds = λ i p l. elim (last_or_before i t.tail (omega arith)) [
          | inl q ↦ ap (λ z. get_or owner z 0) (by_here i q) ∙ on ∙ sym (reached_here i q)
          | inr k ↦ ap (λ z. get_or owner z 0) (by_there i k) ∙ h.holds i p k ∙ sym (reached_there i k)
        ];
        earlier = λ i p l. elim (last_or_before i t.tail (omega arith)) [
          | inl q ↦ omega (arith, from_here i q)
          | inr k ↦ omega (arith, from_there i k, h.earlier i p k)
        ];
        permitted = λ i p l. elim (last_or_before i t.tail (omega arith)) [
          | inl q ↦
              let parent : get_or u.reached.now (get_or u.from.now i 0) 0 ≡ get_or t.reached.now head 0 = ap (λ z. get_or u.reached.now z 0) (from_here i q) ∙ reached_there head hl in
              subst (λ (z : ℕ). IsPair pairs z (get_or u.reached.now (get_or u.from.now i 0) 0)) (sym (by_here i q))
              (subst (λ (z : ℕ). IsPair pairs w z) (sym parent) pr)
          | inr k ↦
              let near : get_or t.from.now i 0 < t.tail = omega (arith, h.earlier i p k) in
              let parent : get_or u.reached.now (get_or u.from.now i 0) 0 ≡ get_or t.reached.now (get_or t.from.now i 0) 0 = ap (λ z. get_or u.reached.now z 0) (from_there i k) ∙ reached_there (get_or t.from.now i 0) near in
              subst (λ (z : ℕ). IsPair pairs z (get_or u.reached.now (get_or u.from.now i 0) 0)) (sym (by_there i k))
              (subst (λ (z : ℕ). IsPair pairs (get_or t.by.now i 0) z) (sym parent) (h.permitted i p k))
        ];
        tight = λ i l. elim (last_or_before i t.tail (omega arith)) [
          | inl q ↦ omega (arith, ti, ap (λ z. get_or count z 0) (reached_here i q), ap (λ z. get_or need z 0) (reached_here i q))
          | inr k ↦ omega (arith, h.tight i k, ap (λ z. get_or count z 0) (reached_there i k), ap (λ z. get_or need z 0) (reached_there i k))
        ];
        passed = λ m marked k low high.
            let old = h.passed m (ap (λ z. get_or z m false) (sym r.passed) ∙ marked) k low high in
            (old.0, marks_reach t u g w head h r gl fresh (get_or owner (get_or pairs.workers.items.now k 0) 0) old.1);
      }

  pub Extends-reach : (t u : Tree) (g w head : ℕ) → IsTree pairs owner count need t → Reaches t u g w head → g < length need → get_or t.place.now g 0 ≡ 0 → Extends t u
  Extends-reach t u g w head h r gl fresh = record {
    tail = omega (arith, r.tail);
    reached = λ i l. off_write t.reached.now u.reached.now t.tail g i r.reached (λ q. omega (arith, q));
    marks = marks_reach t u g w head h r gl fresh;
    passed = λ m marked. ap (λ z. get_or z m false) r.passed ∙ marked;
  }

-- the workers of one machine more are on functions that were reached
pub IsTree-pass : (pairs : Pairs) (owner count need : List ℕ) (t u : Tree) (m : ℕ) → IsTree pairs owner count need t → IsPassed pairs owner (length need) t m → Passes t u m → IsTree pairs owner count need u
IsTree-pass pairs owner count need t u m h new s =
    let low : (i : ℕ) → i < u.tail → i < t.tail = λ i l. omega (arith, s.tail, l) in
    let at : (i : ℕ) → get_or u.reached.now i 0 ≡ get_or t.reached.now i 0 = λ i. ap (λ z. get_or z i 0) s.reached in
    let by_at : (i : ℕ) → get_or u.by.now i 0 ≡ get_or t.by.now i 0 = λ i. ap (λ z. get_or z i 0) s.by in
    let from_at : (i : ℕ) → get_or u.from.now i 0 ≡ get_or t.from.now i 0 = λ i. ap (λ z. get_or z i 0) s.from in
    let place_at : (f : ℕ) → get_or u.place.now f 0 ≡ get_or t.place.now f 0 = λ f. ap (λ z. get_or z f 0) s.place in
    record {
      room = record {
        reached = ap length s.reached ∙ h.room.reached;
        by = ap length s.by ∙ h.room.by;
        from = ap length s.from ∙ h.room.from;
        place = ap length s.place ∙ h.room.place;
        passed = ap length s.passed ∙ length-set t.passed.now m true ∙ h.room.passed;
      };
      known = λ i l. omega (arith, at i, h.known i (low i l));
      placed = λ i l. ap (λ z. get_or u.place.now z 0) (at i) ∙ place_at (get_or t.reached.now i 0) ∙ h.placed i (low i l);
      marked = λ f l k.
          let old = h.marked f l (omega (arith, place_at f, k)) in
          (omega (arith, place_at f, s.tail, old.0), ap (λ z. get_or u.reached.now (z - 1) 0) (place_at f) ∙ at (get_or t.place.now f 0 - 1) ∙ old.1);
      employed = λ i p l. omega (arith, by_at i, h.employed i p (low i l));
      holds = λ i p l. ap (λ z. get_or owner z 0) (by_at i) ∙ h.holds i p (low i l) ∙ sym (at i);
      earlier = λ i p l. omega (arith, from_at i, h.earlier i p (low i l));
      permitted = λ i p l.
          let parent : get_or u.reached.now (get_or u.from.now i 0) 0 ≡ get_or t.reached.now (get_or t.from.now i 0) 0 = ap (λ z. get_or u.reached.now z 0) (from_at i) ∙ at (get_or t.from.now i 0) in
          subst (λ (z : ℕ). IsPair pairs z (get_or u.reached.now (get_or u.from.now i 0) 0)) (sym (by_at i)) (subst (λ (z : ℕ). IsPair pairs (get_or t.by.now i 0) z) (sym parent) (h.permitted i p (low i l)));
      tight = λ i l. omega (arith, h.tight i (low i l), ap (λ z. get_or count z 0) (at i), ap (λ z. get_or need z 0) (at i));
      passed = λ n marked.
          elim (cases_eq n m) [
            | inl q ↦ λ k from to.
                let old = new k (omega (arith, from, ap (λ z. get_or pairs.workers.first.now z 0) q)) (omega (arith, to, ap (λ z. get_or pairs.workers.first.now (z + 1) 0) q)) in
                (old.0, omega (arith, old.1, place_at (get_or owner (get_or pairs.workers.items.now k 0) 0)))
            | inr ne ↦ λ k from to.
                let before : get_or t.passed.now n false ≡ true = sym (ap (λ z. get_or z n false) s.passed ∙ get_or-set_other t.passed.now m n true false ne) ∙ marked in
                let old = h.passed n before k from to in
                (old.0, omega (arith, old.1, place_at (get_or owner (get_or pairs.workers.items.now k 0) 0)))
          ];
    }

pub Extends-pass : (t u : Tree) (m : ℕ) → Passes t u m → Extends t u
Extends-pass t u m s = record {
  tail = omega (arith, s.tail);
  reached = λ i l. ap (λ z. get_or z i 0) s.reached;
  marks = λ f p. omega (arith, p, ap (λ z. get_or z f 0) s.place);
  passed = λ n marked. elim (cases_eq n m) [
    | inl q ↦ ap (λ z. get_or z n false) s.passed ∙ elim (cases_lt n (length t.passed.now)) [
      | inl l ↦ ap (λ z. get_or (set t.passed.now m true) z false) q ∙ get_or-set_same t.passed.now m true false (omega (arith, q, l))
      | inr past ↦ absurd (false≢true (sym (get_or_past t.passed.now n false past) ∙ marked))
    ]
    | inr ne ↦ ap (λ z. get_or z n false) s.passed ∙ get_or-set_other t.passed.now m n true false ne ∙ marked
  ];
}

pub Extends-refl : (t : Tree) → Extends t t
Extends-refl t = record { tail = omega arith; reached = λ i l. refl; marks = λ f m. m; passed = λ m p. p }

pub Extends-trans : (t u v : Tree) → Extends t u → Extends u v → Extends t v
Extends-trans t u v a b = record {
  tail = omega (arith, a.tail, b.tail);
  reached = λ i l. b.reached i (omega (arith, a.tail)) ∙ a.reached i l;
  marks = λ f m. b.marks f (a.marks f m);
  passed = λ m p. b.passed m (a.passed m p);
}

-- the workers who were on functions that were reached still are
pub IsPassedUpTo-extends : (pairs : Pairs) (owner : List ℕ) (functions m end : ℕ) (t u : Tree) → Extends t u → IsPassedUpTo pairs owner functions t m end → IsPassedUpTo pairs owner functions u m end
IsPassedUpTo-extends pairs owner functions m end t u e h k l b = ((h k l b).0, e.marks (get_or owner (get_or pairs.workers.items.now k 0) 0) (h k l b).1)

-- one worker more
pub IsPassedUpTo-more : (pairs : Pairs) (owner : List ℕ) (functions m end : ℕ) (t : Tree) → IsPassedUpTo pairs owner functions t m end
    → (get_or owner (get_or pairs.workers.items.now end 0) 0 < functions) × (0 < get_or t.place.now (get_or owner (get_or pairs.workers.items.now end 0) 0) 0)
    → IsPassedUpTo pairs owner functions t m (end + 1)
IsPassedUpTo-more pairs owner functions m end t h here k l b =
    elim (last_or_before k end b) [
      | inl q ↦ subst (λ (z : ℕ). (get_or owner (get_or pairs.workers.items.now z 0) 0 < functions) × (0 < get_or t.place.now (get_or owner (get_or pairs.workers.items.now z 0) 0) 0)) (sym q) here
      | inr n ↦ h k l n
    ]

-- what was closed stays closed
pub IsClosedUpTo-extends : (pairs : Pairs) (f end : ℕ) (t u : Tree) → Extends t u → IsClosedUpTo pairs t f end → IsClosedUpTo pairs u f end
IsClosedUpTo-extends pairs f end t u e h k l b = e.passed (get_or pairs.machines.items.now k 0) (h k l b)

-- one machine more
pub IsClosedUpTo-more : (pairs : Pairs) (f end : ℕ) (t : Tree) → IsClosedUpTo pairs t f end → get_or t.passed.now (get_or pairs.machines.items.now end 0) false ≡ true → IsClosedUpTo pairs t f (end + 1)
IsClosedUpTo-more pairs f end t h here k l b =
    elim (last_or_before k end b) [
      | inl q ↦ subst (λ (z : ℕ). get_or t.passed.now (get_or pairs.machines.items.now z 0) false ≡ true) (sym q) here
      | inr n ↦ h k l n
    ]

-- what one more worker changes, where he stands on a function that was not reached
pub record Steps (pairs : Pairs) (owner count need : List ℕ) (t u : Tree) (w : ℕ) : Type 0 where
  pub tree : IsTree pairs owner count need u
  pub extends : Extends t u
  pub seen : (get_or owner w 0 < length need) × (0 < get_or u.place.now (get_or owner w 0) 0)

pub Steps-reach : (pairs : Pairs) (owner count need : List ℕ) (s t u : Tree) (w head : ℕ) → IsTree pairs owner count need t → Extends s t → Reaches t u (get_or owner w 0) w head
    → get_or owner w 0 < length need → get_or t.place.now (get_or owner w 0) 0 ≡ 0 → head < s.tail → w < length owner
    → IsPair pairs w (get_or t.reached.now head 0) → get_or count (get_or owner w 0) 0 ≤ get_or need (get_or owner w 0) 0
    → Steps pairs owner count need t u w
Steps-reach pairs owner count need s t u w head h e r gl fresh hl wl pr ti = record {
  tree = IsTree-reach t u (get_or owner w 0) w head h r gl fresh (omega (arith, e.tail)) wl refl pr ti;
  extends = Extends-reach t u (get_or owner w 0) w head h r gl fresh;
  seen = (gl, omega (arith, at_write t.place.now u.place.now (get_or owner w 0) (t.tail + 1) (get_or owner w 0) r.place (omega (arith, h.room.place)) refl));
}

pub Steps-seen : (pairs : Pairs) (owner count need : List ℕ) (t : Tree) (w : ℕ) → IsTree pairs owner count need t → get_or owner w 0 < length need → get_or t.place.now (get_or owner w 0) 0 ≢ 0 → Steps pairs owner count need t t w
Steps-seen pairs owner count need t w h gl ne = record { tree = h; extends = Extends-refl t; seen = (gl, omega (arith, ne)) }

pub IsTree-start : (pairs : Pairs) (owner count need : List ℕ) (t u : Tree) (root : ℕ) → HasRoom (length need) (machine_count pairs) t → root < length need → get_or count root 0 ≤ get_or need root 0 → StartsAt t u root → IsTree pairs owner count need u
IsTree-start pairs owner count need t u root room l ti s =
    let tail : u.tail ≡ 1 = s.tail in
    let first : get_or u.reached.now 0 0 ≡ root = at_write t.reached.now u.reached.now 0 root 0 s.reached (omega (arith, room.reached)) refl in
    let only : (i : ℕ) → i < u.tail → get_or u.reached.now i 0 ≡ root = λ i k. let z : i ≡ 0 = omega arith in ap (λ n. get_or u.reached.now n 0) z ∙ first in
    record {
      room = record {
        reached = length_write t.reached.now u.reached.now 0 root (length need) s.reached room.reached;
        by = ap length s.by ∙ room.by;
        from = ap length s.from ∙ room.from;
        place = s.size ∙ room.place;
        passed = s.many ∙ room.passed;
      };
      known = λ i k. omega (arith, only i k);
      placed = λ i k. ap (λ z. get_or u.place.now z 0) (only i k) ∙ s.mark ∙ omega arith;
      marked = λ f k m. elim (cases_eq f root) [
        | inl q ↦
            let here : get_or u.place.now f 0 ≡ 1 = ap (λ z. get_or u.place.now z 0) q ∙ s.mark in
            (omega arith, ap (λ n. get_or u.reached.now (n - 1) 0) here ∙ first ∙ sym q)
        | inr ne ↦ absurd (omega (arith, s.others f ne))
      ];
      employed = λ i p k. absurd (omega arith);
      holds = λ i p k. absurd (omega arith);
      earlier = λ i p k. absurd (omega arith);
      permitted = λ i p k. absurd (omega arith);
      tight = λ i k. omega (arith, ti, ap (λ z. get_or count z 0) (only i k), ap (λ z. get_or need z 0) (only i k));
      passed = λ m marked. absurd (false≢true (sym (s.none m) ∙ marked));
    }

-- the pairs of the functions reached are not more than there are
pub degrees-le : (pairs : Pairs) (owner count need : List ℕ) (t : Tree) (staff head : ℕ) → IsGraph (length need) staff pairs → IsTree pairs owner count need t → head < t.tail
    → total head (λ i. degree pairs (get_or t.reached.now i 0)) + degree pairs (get_or t.reached.now head 0) ≤ pair_total pairs
degrees-le pairs owner count need t staff head g h l =
    let apart = IsInjective-tree {pairs = pairs} {owner = owner} {count = count} {need = need} t h in
    let some : IsInjective (suc head) (length need) (λ i. get_or t.reached.now i 0) = record { below = λ i k. apart.below i (omega arith); apart = λ i j k m. apart.apart i j k (omega arith) } in
    let few : total (suc head) (λ i. degree pairs (get_or t.reached.now i 0)) ≤ total (length need) (degree pairs) =
    total-injective (suc head) (length need) (λ i. get_or t.reached.now i 0) (degree pairs) some in
    let all : total (length need) (degree pairs) ≤ pairs_up_to pairs (get_or pairs.machines.first.now (length need) 0) =
    total-steps (length need) (λ f. pairs_up_to pairs (get_or pairs.machines.first.now f 0)) (λ f k. pairs_up_to-step pairs (length need) staff f g k) in
    omega (arith, pairs_up_to-le pairs (get_or pairs.machines.first.now (length need) 0))

-- the degrees of the functions that stay in their places
pub degrees-extends : (pairs : Pairs) (s t : Tree) (head : ℕ) → Extends s t → head ≤ s.tail → total head (λ i. degree pairs (get_or s.reached.now i 0)) ≡ total head (λ i. degree pairs (get_or t.reached.now i 0))
degrees-extends pairs s t head e l = total-cong head (λ i. degree pairs (get_or s.reached.now i 0)) (λ i. degree pairs (get_or t.reached.now i 0)) (λ i k. ap (degree pairs) (sym (e.reached i (omega arith))))

pub AreClosed-more : (pairs : Pairs) (n : ℕ) (s t : Tree) → Extends s t → n < s.tail → AreClosed pairs s n → IsClosed pairs t (get_or s.reached.now n 0) → AreClosed pairs t (n + 1)
AreClosed-more pairs n s t e l h here i m =
    elim (last_or_before i n m) [
      | inl q ↦
          let same : get_or t.reached.now i 0 ≡ get_or s.reached.now n 0 = ap (λ k. get_or t.reached.now k 0) q ∙ e.reached n l in
          subst (λ (f : ℕ). IsClosed pairs t f) (sym same) here
      | inr k ↦
          let same : get_or t.reached.now i 0 ≡ get_or s.reached.now i 0 = e.reached i (omega arith) in
          subst (λ (f : ℕ). IsClosed pairs t f) (sym same)
          (IsClosedUpTo-extends pairs (get_or s.reached.now i 0) (get_or pairs.machines.first.now (get_or s.reached.now i 0 + 1) 0) s t e (h i k))
    ]

-- the pairs of all functions reached are not more than there are
pub degrees-le_all : (pairs : Pairs) (owner count need : List ℕ) (t : Tree) (staff : ℕ) → IsGraph (length need) staff pairs → IsTree pairs owner count need t
    → total t.tail (λ i. degree pairs (get_or t.reached.now i 0)) ≤ pair_total pairs
degrees-le_all pairs owner count need t staff g h =
    let few : total t.tail (λ i. degree pairs (get_or t.reached.now i 0)) ≤ total (length need) (degree pairs) =
    total-injective t.tail (length need) (λ i. get_or t.reached.now i 0) (degree pairs) (IsInjective-tree {pairs = pairs} {owner = owner} {count = count} {need = need} t h) in
    let all : total (length need) (degree pairs) ≤ pairs_up_to pairs (get_or pairs.machines.first.now (length need) 0) =
    total-steps (length need) (λ f. pairs_up_to pairs (get_or pairs.machines.first.now f 0)) (λ f k. pairs_up_to-step pairs (length need) staff f g k) in
    omega (arith, pairs_up_to-le pairs (get_or pairs.machines.first.now (length need) 0))

-- each machine was passed
pub AreClosed-all : (pairs : Pairs) (owner count need : List ℕ) (t : Tree) (staff many : ℕ) → IsGraph (length need) staff pairs → IsTree pairs owner count need t → length t.passed.now ≤ many
    → ((m : ℕ) → m < many → get_or t.passed.now m false ≡ true) → AreClosed pairs t t.tail
AreClosed-all pairs owner count need t staff many g h all passed i l k low high =
    let f : ℕ = get_or t.reached.now i 0 in
    let below : f < length need = h.known i l in
    let listed : k < length pairs.machines.items.now = omega (arith, high, g.machines.ends (f + 1) (omega (arith, below))) in
    passed (get_or pairs.machines.items.now k 0) (omega (arith, g.machines.known k listed, h.room.passed, all))
