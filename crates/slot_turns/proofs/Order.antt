-- The order of slots that are sorted with the numbers of their workers.
use Rattle.std.proofs.Common.{◌≡◌, ◌≢◌, ℕ, zero, suc, ◌+◌, ◌<◌, ◌≤◌, ◌⊎◌, false, eqb, List, [], ◌∷◌, ◌++◌, length, get_or, map, take, All, refl, sym, ap, ◌∙◌, subst, arith, inl, inr}
use Rattle.std.specs.Prelude.{sum}
use Rattle.std.specs.List.{AllPairs, range_with_len}
use Rattle.std.specs.List.Sorted.{IsPermutation, IsSorted}
use Rattle.std.specs.Cmp.{IsTotalOrder}
use Rattle.std.specs.Ordering.{is_lt, nat_cmp, ordering_then}
use Rattle.std.specs.declared.cmp.Ordering.{Ordering}
use Rattle.std.specs.declared.cmp.Ordering.TheVariants.{Less, Equal, Greater}
use Rattle.std.proofs.lemmas.Bool.{cases_eq, cases_lt, eq-eqb, ne_eqb, false≢true}
use Rattle.std.proofs.lemmas.Bool.Decides.{Decides-eqb}
use Rattle.std.proofs.lemmas.Cmp.{nat_cmp_total, on_total, ranked, then_total}
use Rattle.std.proofs.lemmas.List.{get_or-map, length-map}
use Rattle.std.proofs.lemmas.List.Elements.{All-from_get_or}
use Rattle.std.proofs.lemmas.List.FromFn.{get_or-map-range_with_len, length-map-range_with_len, map-range_with_len_more}
use Rattle.std.proofs.lemmas.List.Kept.{AllPairs-from_increasing}
use Rattle.std.proofs.lemmas.List.MinMax.{ranks_by}
use Rattle.std.proofs.lemmas.List.Sorted.{All-permutation, IsPermutation-map, sorted_far}
use Rattle.std.proofs.lemmas.List.Sums.{sum_by-cons}
use Rattle.std.proofs.lemmas.Map.Keys.{IsDistinct-IsPermutation}
use Rattle.std.proofs.lemmas.Map.Made.{AllPairs-from_IsDistinct, IsDistinct-from_AllPairs}
use Rattle.plan_model.proofs.Ranges.{range-rises}
use Rattle.pool_settings.specs.Settings.{AreSettings, Settings}
use Rattle.pool_settings.specs.Slots.{machine_of, slots, worker_number}
use Rattle.pool_settings.proofs.SlotSums.{IsAt, machine_found}
use Rattle.slot_turns.specs.Turns.{AreInTurn, ComesBefore, IsEachSlotOnce}

-- a slot beside the number of its worker
abbrev pub numbered : Settings → ℕ → ℕ × ℕ
numbered settings slot = (worker_number settings slot, slot)

-- one slot more
pub numbered-more : (settings : Settings) (es fs : List (ℕ × ℕ)) (number slot worker : ℕ) → es ≡ map (numbered settings) (range_with_len 0 number) → slot ≡ number → worker ≡ worker_number settings slot
    → fs ≡ es ++ (worker, slot) ∷ [] → fs ≡ map (numbered settings) (range_with_len 0 (number + 1))
numbered-more settings es fs number slot worker so_far same is more =
    more
    ∙ ap (λ xs. xs ++ (worker, slot) ∷ []) so_far
    ∙ ap (λ n. map (numbered settings) (range_with_len 0 number) ++ (n, slot) ∷ []) is
    ∙ ap (λ s. map (numbered settings) (range_with_len 0 number) ++ numbered settings s ∷ []) same
    ∙ sym (map-range_with_len_more (numbered settings) 0 number number (omega arith))

map-numbered : (settings : Settings) (xs : List ℕ) → map (λ e. e.1) (map (numbered settings) xs) ≡ xs
map-numbered settings [] = refl
map-numbered settings (x ∷ xs) = ap (λ ys. x ∷ ys) (map-numbered settings xs)

pub each_slot_once : (settings : Settings) (count : ℕ) (es fs : List (ℕ × ℕ)) (order : List ℕ) → es ≡ map (numbered settings) (range_with_len 0 count) → count ≡ slots settings
    → IsPermutation es fs → order ≡ map (λ e. e.1) fs → IsEachSlotOnce settings order
each_slot_once settings count es fs order made all moved is =
    let from : map (λ e. e.1) es ≡ range_with_len 0 (slots settings) = ap (map (λ e. e.1)) made ∙ map-numbered settings (range_with_len 0 count) ∙ ap (range_with_len 0) all in
    subst (λ (xs : List ℕ). IsPermutation xs order) from
    (subst (λ (ys : List ℕ). IsPermutation (map (λ e. e.1) es) ys) (sym is) (IsPermutation-map (λ e. e.1) es fs moved))

-- numbers that are each once differ
pub all_differ : (settings : Settings) (order : List ℕ) → IsEachSlotOnce settings order → AllPairs (λ one other. one ≢ other) order
all_differ settings order each =
    let count : ℕ = slots settings in
    let apart : AllPairs (λ one other. one ≢ other) (range_with_len 0 count) = λ i j d before inside same.
    omega (arith, AllPairs-from_increasing (range_with_len 0 count) (range-rises count) i j d before inside, same) in
    AllPairs-from_IsDistinct Decides-eqb order
    (IsDistinct-IsPermutation eqb flips (range_with_len 0 count) order each (IsDistinct-from_AllPairs Decides-eqb (range_with_len 0 count) apart))
  where
    flips : (x y : ℕ) → eqb x y ≡ eqb y x
    flips x y = elim (cases_eq x y) [
      | inl same ↦ eq-eqb x y same ∙ sym (eq-eqb y x (sym same))
      | inr other ↦ ne_eqb x y other ∙ sym (ne_eqb y x (λ same. other (sym same)))
    ]

-- the order of the sort
abbrev pub pair_cmp : ℕ × ℕ → ℕ × ℕ → Ordering
pair_cmp one other = ordering_then (nat_cmp one.0 other.0) (nat_cmp one.1 other.1)

pair_total : IsTotalOrder pair_cmp
pair_total = then_total (on_total (λ (e : ℕ × ℕ). e.0) nat_cmp_total) (on_total (λ (e : ℕ × ℕ). e.1) nat_cmp_total)

-- what is not less, by the first number or by the second
not_less : (a b c d : ℕ) → is_lt (ordering_then (nat_cmp a b) (nat_cmp c d)) ≡ false → (b < a) ⊎ ((b ≡ a) × (d ≤ c))
not_less a b c d not = by (nat_cmp a b) (nat_cmp c d) refl refl not
  where
    by : (first second : Ordering) → first ≡ nat_cmp a b → second ≡ nat_cmp c d → is_lt (ordering_then first second) ≡ false → (b < a) ⊎ ((b ≡ a) × (d ≤ c))
    by Less second one two h = absurd (false≢true (sym h))
    by Equal Less one two h = absurd (false≢true (sym h))
    by Equal Equal one two h = inr (sym (ranked a b Equal one), omega (arith, ranked c d Equal two))
    by Equal Greater one two h = inr (sym (ranked a b Equal one), omega (arith, ranked c d Greater two))
    by Greater second one two h = inl (ranked a b Greater one)

sum-take_rises : (ws : List ℕ) (m n : ℕ) → m ≤ n → sum (take m ws) ≤ sum (take n ws)
sum-take_rises [] zero n h = omega arith
sum-take_rises [] (suc m) n h = omega arith
sum-take_rises (w ∷ ws) zero n h = omega arith
sum-take_rises (w ∷ ws) (suc m) zero h = absurd (omega (arith, h))
sum-take_rises (w ∷ ws) (suc m) (suc n) h = omega (arith, sum_by-cons (λ x. x) w (take m ws), sum_by-cons (λ x. x) w (take n ws), sum-take_rises ws m n (omega (arith, h)))

-- of two workers with the same number the one with the lower slot has the lower machine
machine_rises : (settings : Settings) (slot other : ℕ) → AreSettings settings → other < slots settings → slot < other → worker_number settings slot ≡ worker_number settings other → machine_of settings slot < machine_of settings other
machine_rises settings slot other valid below lower same =
    let here : IsAt settings.workers (machine_of settings slot) slot = machine_found settings slot (machine_of settings slot) valid (omega (arith, below, lower)) refl in
    let there : IsAt settings.workers (machine_of settings other) other = machine_found settings other (machine_of settings other) valid below refl in
    elim (cases_lt (machine_of settings slot) (machine_of settings other)) [
      | inl less ↦ less
      | inr not_less ↦ absurd (omega (arith, sum-take_rises settings.workers (machine_of settings other) (machine_of settings slot) not_less, here.from, there.from, lower, same))
    ]

-- a slot beside the number of its worker, that is one of these settings
pub record IsNumbered (settings : Settings) (e : ℕ × ℕ) : Type 0 where
  pub number : e.0 ≡ worker_number settings e.1
  pub below : e.1 < slots settings

all_numbered : (settings : Settings) (count : ℕ) (es fs : List (ℕ × ℕ)) → es ≡ map (numbered settings) (range_with_len 0 count) → count ≡ slots settings → IsPermutation es fs → All (IsNumbered settings) fs
all_numbered settings count es fs made all moved =
    let at_first : All (IsNumbered settings) (map (numbered settings) (range_with_len 0 count)) = All-from_get_or (IsNumbered settings) (map (numbered settings) (range_with_len 0 count)) (0, 0) (λ i inside.
    let small : i < count = omega (arith, inside, length-map-range_with_len (numbered settings) 0 count) in
    subst (IsNumbered settings) (sym (get_or-map-range_with_len (numbered settings) 0 count i i (0, 0) small (omega arith))) (record { number = refl; below = omega (arith, small, all) })) in
    All-permutation (IsNumbered settings) es fs moved (subst (All (IsNumbered settings)) (sym made) at_first)

-- a pair that is not below another, with another slot
comes_before : (settings : Settings) (e f : ℕ × ℕ) → AreSettings settings → IsNumbered settings e → IsNumbered settings f → e.1 ≢ f.1 → is_lt (pair_cmp f e) ≡ false → ComesBefore settings e.1 f.1
comes_before settings e f valid one other differ not =
    elim (not_less f.0 e.0 f.1 e.1 not) [
      | inl less ↦ inl (omega (arith, less, one.number, other.number))
      | inr tie ↦
          let same : worker_number settings e.1 ≡ worker_number settings f.1 = sym one.number ∙ tie.0 ∙ other.number in
          inr (same, machine_rises settings e.1 f.1 valid other.below (omega (arith, tie.1, differ)) same)
    ]

pub in_turn : (settings : Settings) (count : ℕ) (es fs : List (ℕ × ℕ)) (order : List ℕ) → AreSettings settings → es ≡ map (numbered settings) (range_with_len 0 count) → count ≡ slots settings
    → IsPermutation es fs → IsSorted pair_cmp fs → order ≡ map (λ e. e.1) fs → AreInTurn settings order
in_turn settings count es fs order valid made all moved sorted is =
    let each = all_numbered settings count es fs made all moved in
    let differ = all_differ settings order (each_slot_once settings count es fs order made all moved is) in
    λ i j d before inside.
    let many : j < length fs = omega (arith, inside, ap length is, length-map fs (λ (e : ℕ × ℕ). e.1)) in
    let at : (k : ℕ) → k < length fs → get_or order k d ≡ (get_or fs k (0, 0)).1 = λ k small. ap (λ xs. get_or xs k d) is ∙ get_or-map (λ (e : ℕ × ℕ). e.1) fs k (0, 0) d small in
    let early : i < length fs = omega (arith, before, many) in
    let e = get_or fs i (0, 0) in
    let f = get_or fs j (0, 0) in
    subst (λ (s : ℕ). ComesBefore settings s (get_or order j d)) (sym (at i early))
    (subst (λ (s : ℕ). ComesBefore settings e.1 s) (sym (at j many))
    (comes_before settings e f valid (each i (0, 0) early) (each j (0, 0) many)
    (λ same. differ i j d before inside (at i early ∙ same ∙ sym (at j many)))
    (sorted_far (λ x y. is_lt (pair_cmp x y)) (ranks_by pair_total (λ (p : ℕ × ℕ). p)) fs sorted i j (0, 0) (omega (arith, before)) many)))
