-- Texts that are written one after the other, up to the first that fails.
use Rattle.std.proofs.Common.{◌≡◌, ℕ, suc, ◌+◌, ◌≤◌, length, List, [], ◌∷◌, ◌++◌, take, ap, sym, ◌∙◌, arith, length-append, Result, Ok, Err}
use Rattle.std.specs.Prelude.{OnErr}
use Rattle.std.proofs.lemmas.List.{take-append-le}
use Rattle.byte_io.proofs.Devices.{told_twice}
use Rattle.byte_io.specs.Sides.{HasText, Output, and_then}
use Rattle.fault_detail.specs.Complaint.{IsCut}

-- both went out whole
pub both_said : (old middle new : Output) (first next : List ℕ) → HasText old first middle → HasText middle next new → HasText old (first ++ next) new
both_said old middle new first next one two = (
  two.0 ∙ ap (λ o. and_then o next) one.0 ∙ told_twice old.got first next,
  two.1 ∙ one.1,
)

-- a prefix of the first is one of both
pub cut_early : (old new : Output) (first next : List ℕ) → IsCut old first new → IsCut old (first ++ next) new
cut_early old new first next cut =
    let within : cut.0 ≤ length first = omega (arith, cut.1.1) in (
      cut.0,
      (
        cut.1.0 ∙ ap (and_then old.got) (sym (take-append-le cut.0 first next within)),
        omega (arith, cut.1.1, length-append first next),
        cut.1.2,
      ),
    )

-- a prefix of the next, after the whole of the first
prefix_after : (first next : List ℕ) (count : ℕ) → first ++ take count next ≡ take (length first + count) (first ++ next)
prefix_after [] next count =
    let same : count ≡ 0 + count = omega arith in ap (λ n. take n next) same
prefix_after (x ∷ first) next count =
    let same : suc (length first + count) ≡ suc (length first) + count = omega arith in
    ap (λ t. x ∷ t) (prefix_after first next count) ∙ ap (λ n. take n (x ∷ (first ++ next))) same

-- the first went out whole, and a prefix of the next
pub cut_late : (old middle new : Output) (first next : List ℕ) → HasText old first middle → IsCut middle next new → IsCut old (first ++ next) new
cut_late old middle new first next one cut = (
  length first + cut.0,
  (
    cut.1.0 ∙ ap (λ o. and_then o (take cut.0 next)) one.0 ∙ told_twice old.got first (take cut.0 next) ∙ ap (and_then old.got) (prefix_after first next cut.0),
    omega (arith, cut.1.1, length-append first next),
    omega (arith, cut.1.2, one.1),
  ),
)

-- of a result: what holds anyway, and what follows
pub on_err : {A E P : Type 0} (r : Result A E) → P → OnErr r P
on_err (Ok x) p = tt
on_err (Err e) p = p

pub on_err_then : {A E P Q : Type 0} (r : Result A E) → (P → Q) → OnErr r P → OnErr r Q
on_err_then (Ok x) then p = tt
on_err_then (Err e) then p = then p
