-- The lines of the machines with an addition give back the machine of each added worker.
use Rattle.std.proofs.Common.{◌≡◌, ℕ, ◌+◌, ◌<◌, ◌≤◌, zero, suc, List, [], ◌∷◌, ◌++◌, true, false, Some, None, cond, eqb, ltb, leb, length, get_or, replicate, append_assoc, refl, ap, sym, subst, ◌∙◌, inl, inr, arith}
use Rattle.std.specs.List.{AllByRecursion, flat_map, range_with_len}
use Rattle.std.specs.List.Sorted.{IsNonDecreasing}
use Rattle.std.proofs.lemmas.Bool.{cases_lt, cases_eq, eq-eqb, ne_eqb, le-leb, le-ltb, lt-ltb}
use Rattle.std.proofs.lemmas.List.{append-nil, length-append, length-replicate}
use Rattle.std.proofs.lemmas.List.Sums.{sum_by-cons}
use Rattle.pool_settings.specs.Names.{name_at, place_of}
use Rattle.pool_settings.specs.Settings.{AreSettings, Settings}
use Rattle.pool_settings.proofs.Searches.{place_is}
use Rattle.size_report.specs.Lines.{on}
use Rattle.size_report.specs.Text.{added_on, on_if, on_line}
use Rattle.size_report.specs.declared.stage.Kind.TheVariants as kind
use Rattle.size_report.specs.declared.stage.Stage.TheVariants as stage
use Rattle.size_report.proofs.Encoded.{on_told}
use Rattle.size_report.proofs.Walks.{Leads, at, leads_line, leads_none, leads_on}

-- from this machine on, none below the one before it
abbrev pub Ascends : ℕ → List ℕ → Type 0
Ascends k [] = Unit {0}
Ascends k (x ∷ xs) = (k ≤ x) × Ascends x xs

pub ascends : (xs : List ℕ) (k : ℕ) → IsNonDecreasing xs → (0 < length xs → k ≤ get_or xs 0 0) → Ascends k xs
ascends [] k rises from = tt
ascends (x ∷ xs) k rises from = (
  from (omega arith),
  ascends xs x (λ i j d order inside. rises (suc i) (suc j) d (omega (arith, order)) (omega (arith, inside))) (λ some. rises 0 1 0 (omega arith) (omega (arith, some))),
)

none_below : (xs : List ℕ) (k j : ℕ) → Ascends j xs → k < j → added_on xs k ≡ 0
none_below [] k j rises below = refl
none_below (x ∷ xs) k j rises below =
    let other : eqb x k ≡ false = ne_eqb x k (λ e. omega (arith, e, rises.0, below)) in
    rw other (none_below xs k x rises.1 (omega (arith, rises.0, below)))

one_more : (x k : ℕ) (xs : List ℕ) → x ≡ k → added_on (x ∷ xs) k ≡ suc (added_on xs k)
one_more x k xs here = omega (arith, sum_by-cons (λ y. cond (eqb y k) 1 0) x xs, ap {B = ℕ} (λ b. cond b 1 0) (eq-eqb x k here))

-- the workers of one machine, and those of the machines above it
pub record IsParted (k : ℕ) (xs ys : List ℕ) : Type 0 where
  pub shape : xs ≡ replicate (added_on xs k) k ++ ys
  pub above : Ascends (k + 1) ys
  pub same : (m : ℕ) → k < m → added_on xs m ≡ added_on ys m

pub parted : (xs : List ℕ) (k : ℕ) → Ascends k xs → (ys : List ℕ) × IsParted k xs ys
parted [] k rises = ([], record { shape = refl; above = tt; same = λ m below. refl })
parted (x ∷ xs) k rises = elim (cases_eq x k) [
  | inl here ↦ (
      let rest = parted xs k (subst (λ j. Ascends j xs) here rises.1) in (
        rest.0,
        record {
          shape = ap (λ y. y ∷ xs) here ∙ ap (λ t. k ∷ t) rest.1.shape ∙ ap (λ n. replicate n k ++ rest.0) (sym (one_more x k xs here));
          above = rest.1.above;
          same = λ m below. rw (ne_eqb x m (λ e. omega (arith, e, here, below))) (rest.1.same m below);
        },
      ))
  | inr other ↦ (
      let more : k + 1 ≤ x = omega (arith, rises.0, other) in (
        x ∷ xs,
        record {
          shape = ap (λ n. replicate n k ++ x ∷ xs) (sym (none_below (x ∷ xs) k (k + 1) (more, rises.1) (omega arith)));
          above = (more, rises.1);
          same = λ m below. refl;
        },
      ))
]

drop_prefix : (P : ℕ → Type 0) (n k : ℕ) (ys : List ℕ) → AllByRecursion P (replicate n k ++ ys) → AllByRecursion P ys
drop_prefix P zero k ys h = h
drop_prefix P (suc n) k ys h = drop_prefix P n k ys h.1

module _ (p : Settings) (valid : AreSettings p) (added : List ℕ) where
  abbrev listing : List ℕ → ℕ → Type 0
  listing xs k = (m : ℕ) → k ≤ m → added_on added m ≡ added_on xs m

  pub on_lead : (many k : ℕ) (ms xs : List ℕ) (next : ℕ) → next ≤ k → k + many ≡ length p.machines → Ascends k xs → AllByRecursion (λ x. x < length p.machines) xs → length ms + length xs ≤ 4096 → listing xs k
      → (last : ℕ) × Leads p (at stage.Added kind.Enough ms [] None next 0 0) (flat_map (on_if p added) (range_with_len k many)) (at stage.Added kind.Enough (ms ++ xs) [] None last 0 0)
  on_lead zero k ms [] next low end rises below few same =
      (next, subst (λ ns. Leads p (at stage.Added kind.Enough ms [] None next 0 0) [] (at stage.Added kind.Enough ns [] None next 0 0)) (sym (append-nil ms)) (leads_none p _))
  on_lead zero k ms (x ∷ xs) next low end rises below few same = absurd (omega (arith, end, rises.0, below.0))
  on_lead (suc many) k ms xs next low end rises below few same =
      let part = parted xs k rises in
      let ys = part.0 in
      let c = added_on xs k in
      let text = flat_map (on_if p added) (range_with_len (k + 1) many) in
      let here : added_on added k ≡ c = same k (omega arith) in
      let sizes : length xs ≡ c + length ys = ap length part.1.shape ∙ omega (arith, length-append (replicate c k) ys, length-replicate c k) in
      let later : AllByRecursion (λ x. x < length p.machines) ys = drop_prefix (λ x. x < length p.machines) c k ys (subst (AllByRecursion (λ x. x < length p.machines)) part.1.shape below) in
      let listed : listing ys (k + 1) = λ m from. same m (omega (arith, from)) ∙ part.1.same m (omega (arith, from)) in
      elim (cases_lt 0 c) [
        | inl some ↦ (
            let d = at stage.Added kind.Enough ms [] None next 0 0 in
            let e = at stage.Added kind.Enough (ms ++ replicate c k) [] None (k + 1) 0 0 in
            let inside : k < length p.machines = omega (arith, end) in
            let place : place_of p.machines (name_at p.machines k) ≡ Some k = place_is p.machines (name_at p.machines k) k valid.machines_rise inside refl in
            let order : ltb k next ≡ false = le-ltb k next low in
            let busy : ltb 0 c ≡ true = lt-ltb 0 c some in
            let room : leb (length ms + c) 4096 ≡ true = le-leb (length ms + c) 4096 (omega (arith, few, sizes)) in
            let line = on_line (name_at p.machines k) c in
            let first : Leads p d line e = leads_line p d e line (on (name_at p.machines k) c) (on_told (name_at p.machines k) c (valid.machines_named k [] inside) (omega (arith, few, sizes))) (rw (place, order, busy, room) refl) in
            let rest = on_lead many (k + 1) (ms ++ replicate c k) ys (k + 1) (omega arith) (omega (arith, end)) part.1.above later (omega (arith, few, sizes, length-append ms (replicate c k), length-replicate c k)) listed in
            let shown : on_if p added k ≡ line = rw (here, busy) refl in
            let all : ms ++ replicate c k ++ ys ≡ ms ++ xs = append_assoc ms (replicate c k) ys ∙ ap (λ t. ms ++ t) (sym part.1.shape) in (
              rest.0,
              subst (λ t. Leads p d (t ++ text) (at stage.Added kind.Enough (ms ++ xs) [] None rest.0 0 0)) (sym shown)
                  (subst (λ ns. Leads p d (line ++ text) (at stage.Added kind.Enough ns [] None rest.0 0 0)) all (leads_on p d e _ line text first rest.1)),
            ))
        | inr idle ↦ (
            let none : c ≡ 0 = omega (arith, idle) in
            let quiet : ltb 0 c ≡ false = le-ltb 0 c idle in
            let rest = on_lead many (k + 1) ms ys next (omega (arith, low)) (omega (arith, end)) part.1.above later (omega (arith, few, sizes)) listed in
            let shown : on_if p added k ≡ [] = rw (here, quiet) refl in
            let all : ys ≡ xs = sym (part.1.shape ∙ ap (λ n. replicate n k ++ ys) none) in (
              rest.0,
              subst (λ t. Leads p (at stage.Added kind.Enough ms [] None next 0 0) (t ++ text) (at stage.Added kind.Enough (ms ++ xs) [] None rest.0 0 0)) (sym shown)
                  (subst (λ t. Leads p (at stage.Added kind.Enough ms [] None next 0 0) text (at stage.Added kind.Enough (ms ++ t) [] None rest.0 0 0)) all rest.1),
            ))
      ]
