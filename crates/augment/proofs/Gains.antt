-- what one worker more changes in the whole plan
use Rattle.std.proofs.Common.{◌≡◌, ◌≢◌, ℕ, ◌+◌, ◌*◌, ◌<◌, ◌≤◌, min, max, List, [], ◌∷◌, length, get_or, cond, eqb, refl, sym, ap, ◌∙◌, arith, inl, inr}
use Rattle.std.proofs.Math.Nat.{mul-le-mul_left}
use Rattle.std.specs.List.{range_with_len, Contains}
use Rattle.std.specs.List.Sorted.{IsPermutation}
use Rattle.std.proofs.lemmas.Bool.{cases_eq}
use Rattle.std.proofs.lemmas.List.{get_or_default}
use Rattle.std.proofs.lemmas.List.FromFn.{get_or-range_with_len, length-range_with_len}
use Rattle.std.proofs.lemmas.List.Sorted.{All-permutation, Contains-permutation}
use Rattle.round_arena.proofs.Ranges.{range-below}
use Rattle.std.proofs.lemmas.List.Sums.{sum_by-cons}
use Rattle.augment.specs.declared.search.Tree.{Tree}
use Rattle.round_arena.specs.declared.tables.Pairs.{Pairs}
use Rattle.round_arena.specs.declared.tables.Tables.{Tables}
use Rattle.round_arena.specs.Round.{IsConsistent}
use Rattle.augment.specs.Round.{AreLimited}
use Rattle.round_arena.specs.Plan.{pair_total, machine_count, IsAssigned, IsCounted, AreWithin, count_on}
use Rattle.augment.specs.Tree.{HasRoom}
use Rattle.augment.specs.Moves.{one_if_equal, GainsOne}
use Rattle.augment.proofs.Totals.{total, served_up_to, total-cong, total-le, total-add, total-zeros, total-change, total-one_if_equal}
use Rattle.augment.proofs.Flips.{one_if_equal-same, one_if_equal-other}

-- the workers on the functions below n are not more than there are
pub total-count_on : (n : ℕ) (owner : List ℕ) → total n (count_on owner) ≤ length owner
total-count_on n [] = omega (arith, total-zeros n)
total-count_on n (x ∷ xs) =
    let split : total n (count_on (x ∷ xs)) ≡ total n (λ f. one_if_equal x f + count_on xs f) =
    total-cong n (count_on (x ∷ xs)) (λ f. one_if_equal x f + count_on xs f) (λ f l. sum_by-cons (λ g. cond (eqb g f) 1 0) x xs) in
    omega (arith, total-add n (one_if_equal x) (count_on xs), total-one_if_equal n x, total-count_on n xs)

pub served-le : (functions : ℕ) (need owner : List ℕ) → served_up_to functions need owner ≤ length owner
unfolding served_up_to
served-le functions need owner =
    let fewer : total functions (λ f. min (count_on owner f) (get_or need f 0)) ≤ total functions (count_on owner) =
    total-le functions (λ f. min (count_on owner f) (get_or need f 0)) (count_on owner) (λ f l. omega arith) in
    omega (arith, total-count_on functions owner)

module _ {functions root : ℕ} {need before after : List ℕ} where
  pub GainsOne-apart : GainsOne functions root need before after → (g : GainsOne functions root need before after) → root < functions → count_on before root < get_or need root 0 → root ≢ g.source
  GainsOne-apart _ g l lack q =
      elim g.spare [
        | inl idle ↦ omega arith
        | inr rich ↦ omega (arith, rich.1, ap (count_on before) q, ap (λ z. get_or need z 0) q)
      ]

  -- root has one worker more
  pub GainsOne-root : (g : GainsOne functions root need before after) → root < functions → count_on before root < get_or need root 0 → count_on after root ≡ count_on before root + 1
  GainsOne-root g l lack =
      let apart : root ≢ g.source = GainsOne-apart g g l lack in
      omega (arith, g.counts root, one_if_equal-same root root refl, one_if_equal-other g.source root (λ z. apart (sym z)))

  -- no function falls below what it had and needs
  pub GainsOne-keeps : (g : GainsOne functions root need before after) → (f m : ℕ) → f < functions → m ≤ get_or need f 0 → m ≤ count_on before f → m ≤ count_on after f
  GainsOne-keeps g f m l within had =
      elim (cases_eq f g.source) [
        | inl q ↦ elim g.spare [
          | inl idle ↦ absurd (omega arith)
          | inr rich ↦ omega (arith, g.counts f, rich.1, ap (count_on before) q, ap (λ z. get_or need z 0) q, one_if_equal-same g.source f (sym q))
        ]
        | inr ne ↦ omega (arith, g.counts f, one_if_equal-other g.source f (λ z. ne (sym z)))
      ]

  -- no function rises above what it had and needs
  pub GainsOne-caps : (g : GainsOne functions root need before after) → (f m : ℕ) → root < functions → count_on before root < get_or need root 0 → get_or need f 0 ≤ m → count_on before f ≤ m → count_on after f ≤ m
  GainsOne-caps g f m l lack within had =
      elim (cases_eq f root) [
        | inl q ↦ omega (arith, GainsOne-root g l lack, ap (count_on after) q, ap (λ z. get_or need z 0) q)
        | inr ne ↦ omega (arith, g.counts f, one_if_equal-other root f (λ z. ne (sym z)))
      ]

  -- one idle worker at most gets a function
  pub GainsOne-hires : (g : GainsOne functions root need before after) → root < functions → count_on before functions ≤ count_on after functions + 1
  GainsOne-hires g l =
      let others : one_if_equal root functions ≡ 0 = one_if_equal-other root functions (λ q. omega (arith, q)) in
      elim (cases_eq functions g.source) [
        | inl q ↦ omega (arith, g.counts functions, others, one_if_equal-same g.source functions (sym q))
        | inr ne ↦ omega (arith, g.counts functions, others, one_if_equal-other g.source functions (λ z. ne (sym z)))
      ]

  -- one worker more counts towards the needs
  pub served-gains : (g : GainsOne functions root need before after) → root < functions → count_on before root < get_or need root 0 → served_up_to functions need after ≡ served_up_to functions need before + 1
  unfolding served_up_to
  served-gains g l lack =
      let old : ℕ → ℕ = λ f. min (count_on before f) (get_or need f 0) in
      let new : ℕ → ℕ = λ f. min (count_on after f) (get_or need f 0) in
      let others : (k : ℕ) → k < functions → k ≢ root → old k ≡ new k =
      λ k m ne. elim (cases_eq k g.source) [
        | inl q ↦ elim g.spare [
          | inl idle ↦ absurd (omega arith)
          | inr rich ↦ omega (arith, g.counts k, rich.1, ap (count_on before) q, ap (λ z. get_or need z 0) q, one_if_equal-same g.source k (sym q), one_if_equal-other root k (λ z. ne (sym z)))
        ]
        | inr other ↦
            let same : count_on after k ≡ count_on before k = omega (arith, g.counts k, one_if_equal-other g.source k (λ z. other (sym z)), one_if_equal-other root k (λ z. ne (sym z))) in
            ap (λ n. min n (get_or need k 0)) (sym same)
      ] in
      let change : total functions new + old root ≡ total functions old + new root = total-change functions old new root l others in
      omega (arith, change, GainsOne-root g l lack)

-- how far the serving has come: the functions before place `done` of the order have what they need
pub record IsServing (pairs : Pairs) (order need before owner count : List ℕ) (tree : Tree) (looks_before looks_now done : ℕ) : Type 0 where
  pub size : length owner ≡ length before
  pub assigned : IsAssigned (length need) pairs owner
  pub counted : IsCounted (length need) owner count
  pub room : HasRoom (length need) (machine_count pairs) tree
  pub kept : (f : ℕ) → f < length need → min (get_or need f 0) (count_on before f) ≤ count_on owner f
  pub capped : (f : ℕ) → f < length need → count_on owner f ≤ max (get_or need f 0) (count_on before f)
  pub looks : looks_now ≤ looks_before + pair_total pairs * served_up_to (length need) need owner
  pub more : looks_before ≤ looks_now
  -- looks pay for the workers gained for the needs, and for idle ones who got a function
  pub paid : looks_before + served_up_to (length need) need owner ≤ looks_now + served_up_to (length need) need before
  pub hired : looks_before + count_on before (length need) ≤ looks_now + count_on owner (length need)
  pub have : (k : ℕ) → k < done → get_or need (get_or order k 0) 0 ≤ count_on owner (get_or order k 0)

-- each place of the order has a function
pub order-below : (n : ℕ) (order : List ℕ) → IsPermutation (range_with_len 0 n) order → (k : ℕ) → k < length order → get_or order k 0 < n
order-below n order perm k l = All-permutation (λ f. f < n) (range_with_len 0 n) order perm (range-below n) k 0 l

-- and each function has a place
pub order-place : (n : ℕ) (order : List ℕ) → IsPermutation (range_with_len 0 n) order → (f : ℕ) → f < n → (k : ℕ) × (k < length order) × (get_or order k 0 ≡ f)
order-place n order perm f l =
    let here : Contains (range_with_len 0 n) f = (f, omega (arith, length-range_with_len 0 n), get_or-range_with_len 0 n f f l ∙ omega arith) in
    let there : Contains order f = Contains-permutation (range_with_len 0 n) order f perm here in
    (there.0, there.1, get_or_default order there.0 0 f there.1 ∙ there.2)

pub IsServing-start : (pairs : Pairs) (order need owner count : List ℕ) (tree : Tree) (looks : ℕ) → IsAssigned (length need) pairs owner → IsCounted (length need) owner count → HasRoom (length need) (machine_count pairs) tree → IsServing pairs order need owner owner count tree looks looks 0
IsServing-start pairs order need owner count tree looks a c r = record {
  size = refl;
  assigned = a;
  counted = c;
  room = r;
  kept = λ f l. omega arith;
  capped = λ f l. omega arith;
  looks = omega arith;
  more = omega arith;
  paid = omega arith;
  hired = omega arith;
  have = λ k l. absurd (omega arith);
}

pub IsServing-gains : (pairs : Pairs) (order need before owner count after count' : List ℕ) (tree tree' : Tree) (looks_before looks_now looks_then done root : ℕ)
    → IsPermutation (range_with_len 0 (length need)) order → done ≤ length order
    → IsServing pairs order need before owner count tree looks_before looks_now done → root < length need → get_or count root 0 < get_or need root 0
    → GainsOne (length need) root need owner after → IsAssigned (length need) pairs after → IsCounted (length need) after count' → HasRoom (length need) (machine_count pairs) tree'
    → looks_now < looks_then → looks_then ≤ looks_now + pair_total pairs → IsServing pairs order need before after count' tree' looks_before looks_then done
IsServing-gains pairs order need before owner count after count' tree tree' looks_before looks_now looks_then done root perm within s l lack g a c r looked spent =
    let lacking : count_on owner root < get_or need root 0 = omega (arith, s.counted.counts root (omega arith)) in
    record {
      size = g.size ∙ s.size;
      assigned = a;
      counted = c;
      room = r;
      kept = λ f k. GainsOne-keeps g f (min (get_or need f 0) (count_on before f)) k (omega arith) (s.kept f k);
      capped = λ f k. GainsOne-caps g f (max (get_or need f 0) (count_on before f)) l lacking (omega arith) (s.capped f k);
      looks =
          let more : pair_total pairs * served_up_to (length need) need after ≡ pair_total pairs * (served_up_to (length need) need owner + 1) = ap (λ n. pair_total pairs * n) (served-gains g l lacking) in
          omega (arith, more, s.looks);
      more = omega (arith, s.more, looked);
      paid = omega (arith, served-gains g l lacking, s.paid, looked);
      hired = omega (arith, GainsOne-hires g l, s.hired, looked);
      have = λ k m. GainsOne-keeps g (get_or order k 0) (get_or need (get_or order k 0) 0) (order-below (length need) order perm k (omega arith)) (omega arith) (s.have k m);
    }

pub IsServing-next : (pairs : Pairs) (order need before owner count : List ℕ) (tree : Tree) (looks_before looks_now done : ℕ)
    → IsServing pairs order need before owner count tree looks_before looks_now done → get_or order done 0 < length need → get_or need (get_or order done 0) 0 ≤ get_or count (get_or order done 0) 0
    → IsServing pairs order need before owner count tree looks_before looks_now (done + 1)
IsServing-next pairs order need before owner count tree looks_before looks_now done s l enough = record {
  size = s.size;
  assigned = s.assigned;
  counted = s.counted;
  room = s.room;
  kept = s.kept;
  capped = s.capped;
  looks = s.looks;
  more = s.more;
  paid = s.paid;
  hired = s.hired;
  have = λ k m. elim (cases_eq k done) [
    | inl q ↦ omega (arith, ap (λ z. get_or need (get_or order z 0) 0) q, ap (λ z. count_on owner (get_or order z 0)) q, s.counted.counts (get_or order done 0) (omega arith))
    | inr ne ↦ s.have k (omega (arith, ne))
  ];
}

-- at the end each function has what it needs
pub IsServing-all : (pairs : Pairs) (order need before owner count : List ℕ) (tree : Tree) (looks_before looks_now done : ℕ) → IsPermutation (range_with_len 0 (length need)) order → length order ≤ done
    → IsServing pairs order need before owner count tree looks_before looks_now done → (f : ℕ) → f < length need → get_or need f 0 ≤ count_on owner f
IsServing-all pairs order need before owner count tree looks_before looks_now done perm end s f l =
    let place = order-place (length need) order perm f l in
    omega (arith, s.have place.0 (omega (arith, place.1, end)), ap (λ z. get_or need z 0) place.2, ap (count_on owner) place.2)

-- the looks of the searches that found a worker
pub looks-le : (pairs : Pairs) (order need before owner count : List ℕ) (tree : Tree) (looks_before looks_now done : ℕ)
    → IsServing pairs order need before owner count tree looks_before looks_now done → looks_now ≤ looks_before + length before * pair_total pairs
looks-le pairs order need before owner count tree looks_before looks_now done s =
    let few : pair_total pairs * served_up_to (length need) need owner ≤ pair_total pairs * length before =
    mul-le-mul_left (pair_total pairs) (omega (arith, served-le (length need) need owner, s.size)) in
    omega (arith, few, s.looks)

-- needs that are within the greatest numbers give no function more
pub AreWithin-served : (need : List ℕ) (t : Tables) (after : List ℕ) → IsConsistent (length need) t → AreLimited need t → ((f : ℕ) → f < length need → get_or need f 0 ≤ length t.owner.now)
    → ((f : ℕ) → f < length need → count_on after f ≤ max (get_or need f 0) (count_on t.owner.now f)) → AreWithin (length need) t.most.now after
AreWithin-served need t after s limited few capped f l =
    elim (limited f l) [
      | inl within ↦ omega (arith, within, capped f l, s.within f l)
      | inr above ↦ absurd (omega (arith, above, few f l))
    ]
