-- laws of the moving of spare workers
use Rattle.std.proofs.Common.{◌≡◌, ◌≢◌, ℕ, ◌+◌, ◌-◌, ◌<◌, ◌≤◌, ◌⊎◌, ◌||◌, Bool, true, false, cond, eqb, List, [], ◌∷◌, length, get_or, set, count_by, sum_by, refl, sym, ap, ◌∙◌, subst, arith, inl, inr}
use Rattle.std.specs.List.{list_any, range_with_len, AllByRecursion}
use Rattle.std.proofs.lemmas.Bool.{cases_eq, cases_lt, eq-eqb, eqb-true, ne_eqb, false≢true}
use Rattle.std.proofs.lemmas.List.{get_or-set_same, get_or-set_other, get_or_past, get_or_default, length-set, length-map, ext_get_or}
use Rattle.std.proofs.lemmas.List.FromFn.{get_or-range_with_len, length-range_with_len}
use Rattle.std.proofs.lemmas.List.Elements.{recursion_from_All}
use Rattle.std.proofs.lemmas.List.Sums.{sum_by-cons, sum_by_more_le, sum_by-take-le, get_or-le-sum_by}
use Rattle.plan_model.specs.Planning.{Instance, IsInstance, functions, may_do, machines_of, need, assigned, is_full}
use Rattle.plan_model.proofs.Hall.{Rising, rising, sum_by-add, sum_by-zeros}
use Rattle.round_arena.specs.declared.tables.Tables.{Tables}
use Rattle.round_arena.specs.declared.tables.Pairs.{Pairs}
use Rattle.round_arena.specs.Plan.{IsPair, IsCounted, AreWithin, count_on}
use Rattle.round_arena.specs.Input.{pair_count}
use Rattle.round_arena.specs.Round.{IsConsistent, SamePairs}
use Rattle.round_arena.specs.Round as round
use Rattle.round_arena.proofs.Lists.{machines-known}
use Rattle.augment.specs.Moves.{one_if_equal}
use Rattle.augment.proofs.Flips.{one_if_equal-same, one_if_equal-other, count_on-set, count_on-positive, IsAssigned-set, IsCounted-move}
use Rattle.level_search.specs.Levels.{Fits, AreMet}
use Rattle.level_search.specs.Filled.{IsFilled, IsFull}
use Rattle.level_search.specs.Spread.{IsSettled, LeavesNobody, row_length, pairs_of}
use Rattle.level_search.proofs.Bisecting.{Fits-same}
use Rattle.augment.proofs.Rounds.{IsConsistent-moved}
use Rattle.level_search.proofs.Filling.{known-pair}
use Rattle.level_search.proofs.Keeping.{idle-filled}
use Rattle.level_search.proofs.Showing.{Tells, plan_of-is, plan_of}

-- who was idle for nothing is so in no tables with the same workers on the same functions
IsFull-same : (n : ℕ) (t u : Tables) → SamePairs t u → u.owner.now ≡ t.owner.now → IsFull n t → IsFull n u
IsFull-same n t u same eo h w f l pair =
    let old : IsPair t.pairs w f = subst (λ (p : Pairs). IsPair p w f) same.pairs pair in
    elim (h w f l old) [
      | inl busy ↦ inl (omega (arith, busy, ap (λ o. get_or o w 0) eo))
      | inr filled ↦ inr (omega (arith, filled, ap (λ o. count_on o f) eo, ap (λ m. get_or m.now f 0) same.most))
    ]

pub IsSettled-same : (i : Instance) (level : ℕ) (t u : Tables) → IsSettled i level t → SamePairs t u → u.owner.now ≡ t.owner.now → u.count.now ≡ t.count.now → IsSettled i level u
IsSettled-same i level t u h same eo ec = record {
  sound = IsConsistent-moved {functions = length i.least} {u = u} t t.owner.now t.count.now h.sound refl h.sound.assigned h.sound.counted h.sound.within same eo ec;
  fits = Fits-same i t u same h.fits;
  met = subst (λ (o : List ℕ). AreMet i o level) (sym eo) h.met;
  full = IsFull-same (length i.least) t u same eo h.full;
}

pub IsSettled-filled : (i : Instance) (n level : ℕ) (t u : Tables) → n ≡ length i.least → Fits i t → AreMet i t.owner.now level → IsConsistent n u → SamePairs t u → IsFilled n t.pairs t.most.now t.owner.now u.owner.now u.count.now → IsFull n u
    → IsSettled i level u
IsSettled-filled i n level t u e fits met sound same filled full = record {
  sound = subst (λ (m : ℕ). IsConsistent m u) e sound;
  fits = Fits-same i t u same fits;
  met = λ f l. omega (arith, met f l, filled.grows f (omega (arith, e, l)));
  full = subst (λ (m : ℕ). IsFull m u) e full;
}

-- filling changes nothing where nobody is idle for nothing
pub filled-still : (n : ℕ) (t u : Tables) → IsConsistent n t → IsFilled n t.pairs t.most.now t.owner.now u.owner.now u.count.now → IsFull n t → u.owner.now ≡ t.owner.now
filled-still n t u s filled full =
    ext_get_or 0 u.owner.now t.owner.now filled.size
    (λ w l. elim (cases_lt (get_or t.owner.now w 0) n) [
      | inl busy ↦ filled.kept w busy
      | inr idle ↦ elim (cases_lt (get_or u.owner.now w 0) n) [
        | inl moved ↦ elim (full w (get_or u.owner.now w 0) moved (filled.assigned.permitted w l moved)) [
          | inl busy ↦ absurd (omega (arith, busy, idle))
          | inr at_most ↦ absurd (omega (arith, at_most, filled.room w (omega (arith, l, filled.size)) idle moved))
        ]
        | inr stays ↦ omega (arith, idle, stays, s.assigned.below w (omega (arith, l, filled.size)), filled.assigned.below w l)
      ]
    ])

-- a full plan leaves nobody idle for nothing
pub IsFull-plan : (i : Instance) (t : Tables) → Tells i t → is_full i (assigned (round.plan_of t)) ≡ true → IsFull (length i.least) t
IsFull-plan i t h full' w f l pair =
    let full : is_full i (assigned (plan_of i t)) ≡ true = ap (λ z. is_full i (assigned z)) (sym (plan_of-is i t h)) ∙ full' in
    let known : w < length t.owner.now = known-pair t.pairs (length i.least) (length t.owner.now) w f h.sound.graph l pair in
    let inside : w < length i.live = omega (arith, known, h.sound.slots, ap length h.slots, length-map i.live (λ worker. worker.0)) in
    elim (cases_lt (get_or t.owner.now w 0) (length i.least)) [
      | inl busy ↦ inl busy
      | inr idle ↦ inr (omega (arith, idle-filled i t h full w f inside idle l (h.fits.holds.permitted w f l pair), ap (λ m. get_or m f 0) h.fits.most))
    ]

-- a spare worker goes from a to b
pub IsSettled-moved : (i : Instance) (level : ℕ) (t u : Tables) (w a b : ℕ) → IsSettled i level t → w < length t.owner.now → a ≡ get_or t.owner.now w 0 → a < length i.least → b < length i.least → b ≢ a
    → need i level a < get_or t.count.now a 0 → LeavesNobody (length i.least) t a → may_do i (get_or t.machine.now w 0) b ≡ true → get_or t.count.now b 0 < get_or t.most.now b 0
    → SamePairs t u → u.owner.now ≡ set t.owner.now w b → u.count.now ≡ set (set t.count.now a (get_or t.count.now a 0 - 1)) b (get_or (set t.count.now a (get_or t.count.now a 0 - 1)) b 0 + 1)
    → IsSettled i level u
IsSettled-moved i level t u w a b h wl is al bl ne spare free can room same eo ec =
    let n : ℕ = length i.least in
    let owner : List ℕ = t.owner.now in
    let after : List ℕ = set owner w b in
    let s = h.sound in
    let moved : (g : ℕ) → count_on after g + one_if_equal a g ≡ count_on owner g + one_if_equal b g =
    λ g. ap (λ z. count_on (set owner w b) g + one_if_equal z g) is ∙ count_on-set owner w b g wl in
    let pair : IsPair t.pairs w b = h.fits.holds.listed w b (omega (arith, wl, s.staff)) bl can in
    let some : 0 < count_on owner a = omega (arith, count_on-positive owner w wl, ap (count_on owner) is) in
    let counted : IsCounted n after (set (set t.count.now a (get_or t.count.now a 0 - 1)) b (get_or (set t.count.now a (get_or t.count.now a 0 - 1)) b 0 + 1)) =
    IsCounted-move n owner after t.count.now a b s.counted (omega (arith, al)) bl ne some moved in
    let within : AreWithin n t.most.now after =
    λ g k. elim (cases_eq b g) [
      | inl q ↦ omega (arith, moved g, one_if_equal-same b g q, ap (count_on owner) q, ap (λ z. get_or t.most.now z 0) q, room, s.counted.counts b (omega (arith, bl)))
      | inr other ↦ omega (arith, moved g, one_if_equal-other b g other, s.within g k)
    ] in
    let stays : (g : ℕ) → g ≢ a → count_on owner g ≤ count_on after g = λ g other. omega (arith, moved g, one_if_equal-other a g (λ q. other (sym q))) in
    record {
      sound = IsConsistent-moved {functions = n} {u = u} t after (set (set t.count.now a (get_or t.count.now a 0 - 1)) b (get_or (set t.count.now a (get_or t.count.now a 0 - 1)) b 0 + 1)) s (length-set owner w b)
          (IsAssigned-set n t.pairs owner w b s.assigned wl bl pair) counted within same eo ec;
      fits = Fits-same i t u same h.fits;
      met = λ f l. elim (cases_eq f a) [
        | inl q ↦
            let few : need i level f ≡ need i level a = ap (need i level) q in
            let at : count_on u.owner.now f ≡ count_on after a = ap (λ o. count_on o f) eo ∙ ap (count_on after) q in
            omega (arith, few, at, spare, s.counted.counts a (omega (arith, al)), moved a, one_if_equal-same a a refl, one_if_equal-other b a ne)
        | inr other ↦ omega (arith, h.met f l, stays f other, ap (λ o. count_on o f) eo)
      ];
      full = λ v f l pair'.
          let old : IsPair t.pairs v f = subst (λ (p : Pairs). IsPair p v f) same.pairs pair' in
          let at : get_or u.owner.now v 0 ≡ get_or after v 0 = ap (λ o. get_or o v 0) eo in
          let on : count_on u.owner.now f ≡ count_on after f = ap (λ o. count_on o f) eo in
          let top : get_or u.most.now f 0 ≡ get_or t.most.now f 0 = ap (λ m. get_or m.now f 0) same.most in
          let still : get_or owner v 0 < n → (get_or u.owner.now v 0 < n) ⊎ (get_or u.most.now f 0 ≤ count_on u.owner.now f) =
          λ busy. elim (cases_eq v w) [
            | inl q ↦ inl (omega (arith, at, bl, ap (λ z. get_or after z 0) q, get_or-set_same owner w b 0 wl))
            | inr apart ↦ inl (omega (arith, at, busy, get_or-set_other owner w v b 0 apart))
          ] in
          elim (h.full v f l old) [
            | inl busy ↦ still busy
            | inr filled ↦ elim (cases_eq f a) [
              | inr other ↦ inr (omega (arith, on, top, filled, stays f other))
              | inl q ↦ elim free [
                | inl below ↦ absurd (omega (arith, below, filled, ap (λ z. get_or t.most.now z 0) q, ap (count_on owner) q, s.counted.counts a (omega (arith, al))))
                | inr nobody ↦ still (elim (cases_lt v (length owner)) [
                  | inl here ↦ elim (cases_eq (get_or owner v 0) n) [
                    | inl idle ↦ absurd (omega (arith, count_on-positive owner v here, ap (count_on owner) idle, nobody, s.counted.counts n (omega arith)))
                    | inr busy ↦ omega (arith, busy, s.assigned.below v here)
                  ]
                  | inr beyond ↦ omega (arith, get_or_past owner v 0 beyond, l)
                ])
              ]
            ]
          ];
    }

-- the order of two sums
sum_swap : (p : ℕ → ℕ → Bool) (fs ms : List ℕ) → sum_by (λ f. count_by (λ m. p m f) ms) fs ≡ sum_by (λ m. count_by (p m) fs) ms
sum_swap p fs [] = sum_by-zeros fs
sum_swap p fs (m ∷ ms) =
    let each : (gs : List ℕ) → sum_by (λ f. count_by (λ k. p k f) (m ∷ ms)) gs ≡ sum_by (λ f. cond (p m f) 1 0 + count_by (λ k. p k f) ms) gs = split in
    each fs ∙ sum_by-add (λ f. cond (p m f) 1 0) (λ f. count_by (λ k. p k f) ms) fs ∙ ap (λ z. count_by (p m) fs + z) (sum_swap p fs ms) ∙ sym (sum_by-cons (λ k. count_by (p k) fs) m ms)
  where
    split : (gs : List ℕ) → sum_by (λ f. count_by (λ k. p k f) (m ∷ ms)) gs ≡ sum_by (λ f. cond (p m f) 1 0 + count_by (λ k. p k f) ms) gs
    split [] = refl
    split (g ∷ gs) =
        omega (arith, sum_by-cons (λ f. count_by (λ k. p k f) (m ∷ ms)) g gs, sum_by-cons (λ f. cond (p m f) 1 0 + count_by (λ k. p k f) ms) g gs, sum_by-cons (λ k. cond (p k g) 1 0) m ms, split gs)

-- a number is in no list of larger ones
none-above : (g : ℕ) (row : List ℕ) → AllByRecursion (λ f. g < f) row → list_any (λ h. eqb h g) row ≡ false
none-above g [] h = refl
none-above g (f ∷ row) h = rw (ne_eqb f g (λ q. omega (arith, q, h.0))) (none-above g row h.1)

-- one term more of a list that rises
count_more : (g : ℕ) (row fs : List ℕ) → AllByRecursion (λ f. g < f) row → count_by (λ f. eqb g f) fs + count_by (λ f. list_any (λ h. eqb h f) row) fs ≤ count_by (λ f. list_any (λ h. eqb h f) (g ∷ row)) fs
count_more g row [] above = omega arith
count_more g row (f ∷ fs) above =
    let rest = count_more g row fs above in
    let here : cond (eqb g f) 1 0 + cond (list_any (λ h. eqb h f) row) 1 0 ≤ cond (eqb g f || list_any (λ h. eqb h f) row) 1 0 = either (eqb g f) (list_any (λ h. eqb h f) row) (λ q. ap (λ z. list_any (λ h. eqb h z) row) (sym (eqb-true g f q)) ∙ none-above g row above) in
    omega (arith, rest, here, sum_by-cons (λ f. cond (eqb g f) 1 0) f fs, sum_by-cons (λ f. cond (list_any (λ h. eqb h f) row) 1 0) f fs, sum_by-cons (λ f. cond (list_any (λ h. eqb h f) (g ∷ row)) 1 0) f fs)
  where
    either : (x y : Bool) → (x ≡ true → y ≡ false) → cond x 1 0 + cond y 1 0 ≤ cond (x || y) 1 0
    either true true apart = absurd (false≢true (sym (apart refl)))
    either true false apart = omega arith
    either false true apart = omega arith
    either false false apart = omega arith

-- a list that rises, of numbers below n, is not longer than the numbers below n that are in it
rising-short : (n : ℕ) (row : List ℕ) → Rising row → AllByRecursion (λ f. f < n) row → length row ≤ count_by (λ f. list_any (λ h. eqb h f) row) (range_with_len 0 n)
rising-short n [] r below = omega arith
rising-short n (g ∷ row) r below =
    let place : get_or (range_with_len 0 n) g 0 ≡ g = get_or-range_with_len 0 n g 0 below.0 ∙ omega arith in
    let bit : ℕ → ℕ = λ f. cond (eqb g f) 1 0 in
    let one : bit (get_or (range_with_len 0 n) g 0) ≤ count_by (λ f. eqb g f) (range_with_len 0 n) = get_or-le-sum_by bit (range_with_len 0 n) g 0 (omega (arith, length-range_with_len 0 n, below.0)) in
    let is : bit (get_or (range_with_len 0 n) g 0) ≡ 1 = ap bit place ∙ ap (λ b. cond b 1 0) (eq-eqb g g refl) in
    omega (arith, rising-short n row r.1 below.1, count_more g row (range_with_len 0 n) r.0, one, is)

row-short : (i : Instance) → IsInstance i → (m : ℕ) → row_length i m ≤ count_by (may_do i m) (functions i)
row-short i h m = elim (cases_lt m (length i.may)) [
  | inl known ↦ rising-short (length i.least) (get_or i.may m []) (rising (get_or i.may m []) (h.rows m [] known)) (recursion_from_All (λ f. f < length i.least) (get_or i.may m []) (h.within m [] known))
  | inr beyond ↦ omega (arith, ap length (get_or_past i.may m [] beyond))
]

sum-short : (i : Instance) → IsInstance i → (ms : List ℕ) → sum_by (row_length i) ms ≤ sum_by (λ m. count_by (may_do i m) (functions i)) ms
sum-short i h [] = omega arith
sum-short i h (m ∷ ms) = omega (arith, sum_by-cons (row_length i) m ms, sum_by-cons (λ k. count_by (may_do i k) (functions i)) m ms, row-short i h m, sum-short i h ms)

-- the rows of all workers are within the pairs
pub rows-le-pairs : (i : Instance) → IsInstance i → sum_by (row_length i) (machines_of i) ≤ pair_count i
rows-le-pairs i h = omega (arith, sum-short i h (machines_of i), sum_swap (may_do i) (functions i) (machines_of i))

-- each worker's machine is known
pub machine-below : (i : Instance) (t : Tables) (w d : ℕ) → IsInstance i → IsConsistent (length i.least) t → Fits i t → w < length t.owner.now → get_or t.machine.now w d < length i.may
machine-below i t w d valid s fits l =
    let inside : w < length t.machine.now = omega (arith, l, s.staff) in
    let read : get_or t.machine.now w d ≡ get_or t.machine.now w 0 = get_or_default t.machine.now w d 0 inside in
    omega (arith, read, machines-known i.live t.machine.now (length i.may) valid.machines fits.machines w inside)

-- the pairs of the first workers and of the next are within all pairs
pub pairs-more : (i : Instance) (t u : Tables) (w : ℕ) → IsInstance i → Fits i t → SamePairs t u → w < length t.machine.now → pairs_of i t.machine.now w + row_length i (get_or u.machine.now w 0) ≤ pair_count i
pairs-more i t u w valid fits same l =
    let next : row_length i (get_or u.machine.now w 0) ≡ row_length i (get_or t.machine.now w 0) = ap (λ m. row_length i (get_or m.now w 0)) same.machine in
    let whole : sum_by (row_length i) t.machine.now ≡ sum_by (row_length i) (machines_of i) = ap (sum_by (row_length i)) fits.machines in
    omega (arith, next, whole, sum_by_more_le (row_length i) t.machine.now w 0 l, rows-le-pairs i valid)

pub pairs-all : (i : Instance) (t : Tables) (w : ℕ) → IsInstance i → Fits i t → pairs_of i t.machine.now w ≤ pair_count i
pairs-all i t w valid fits =
    let whole : sum_by (row_length i) t.machine.now ≡ sum_by (row_length i) (machines_of i) = ap (sum_by (row_length i)) fits.machines in
    omega (arith, whole, sum_by-take-le (row_length i) t.machine.now w, rows-le-pairs i valid)
