-- What a page says of jobs that were not completed.
use Rattle.std.proofs.Common.{◌≡◌, List, [], ◌∷◌, ℕ, ◌++◌, true, false, eqb, length, refl, ap, ap₂, arith}
use Rattle.std.proofs.lemmas.Bool.{eqb-true}
use Rattle.std.specs.List.{AllZip}
use Rattle.std.specs.Prelude.{codes, string_bytes}
use Rattle.farm_page.specs.Rows.{failure_end_cell, failure_row, failure_rows, words_cell}
use Rattle.farm_page.specs.Sections.{Holds, failures_part}
use Rattle.farm_page.specs.contracts.view.FailureEndClone.TheImpl.{by_variants}
use Rattle.farm_page.specs.contracts.view.FailureViewClone.TheImpl.{is_clone-value}
use Rattle.farm_page.specs.declared.view.FailureEnd.{FailureEnd}
use Rattle.farm_page.specs.declared.view.FailureEnd.TheVariants.{Failed, Lost, Said}
use Rattle.farm_page.specs.declared.view.FailureView.{FailureView}

pub part_of_none : (failures : List FailureView) → eqb (length failures) 0 ≡ true → failures_part failures ≡ codes "<p>No job has failed or been lost.</p>"
part_of_none [] none = refl
part_of_none (f ∷ fs) none = absurd (omega (arith, eqb-true (length (f ∷ fs)) 0 none))

pub part_of_some : (failures : List FailureView) → eqb (length failures) 0 ≡ false → failures_part failures ≡ failure_rows failures
part_of_some [] some = absurd cc
part_of_some (f ∷ fs) some = refl

pub none_shown : Holds (codes "<section><h2>Last failed and lost jobs</h2><p>No job has failed or been lost.</p></section>\n")
    (codes "<p>No job has failed or been lost.</p>")
none_shown = record { before = codes "<section><h2>Last failed and lost jobs</h2>"; after = codes "</section>\n"; is = refl }

-- rows of failures that are alike, one by one
pub rows_alike : (P : FailureView → FailureView → Type 0) → ((f g : FailureView) → P f g → failure_row g ≡ failure_row f)
    → (fs gs : List FailureView) → AllZip P fs gs → failure_rows gs ≡ failure_rows fs
rows_alike P row [] [] h = refl
rows_alike P row [] (g ∷ gs) h = absurd h
rows_alike P row (f ∷ fs) [] h = absurd h
rows_alike P row (f ∷ fs) (g ∷ gs) h = ap₂ (λ (s t : List ℕ). s ++ t) (row f g h.0) (rows_alike P row fs gs h.1)

-- ends that are copies
end_alike : (e d : FailureEnd) → by_variants e d → failure_end_cell d ≡ failure_end_cell e
end_alike Failed Failed same = refl
end_alike Failed (Said t) other = absurd other
end_alike Failed (Lost t) other = absurd other
end_alike (Said s) Failed other = absurd other
end_alike (Said s) (Said t) same = ap (words_cell (codes "failed: ")) same
end_alike (Said s) (Lost t) other = absurd other
end_alike (Lost s) Failed other = absurd other
end_alike (Lost s) (Said t) other = absurd other
end_alike (Lost s) (Lost t) same = ap (words_cell (codes "lost: ")) same

-- failures that are copies
pub row_alike : (f g : FailureView) → is_clone-value.it f g → failure_row g ≡ failure_row f
row_alike f g same =
    let handle : string_bytes g.handle ≡ string_bytes f.handle = same.1.0 in
    let time : string_bytes g.time ≡ string_bytes f.time = same.0 in
    let unique : string_bytes g.unique ≡ string_bytes f.unique = same.1.1.0 in
    let function : string_bytes g.function ≡ string_bytes f.function = same.1.1.1.0 in
    let worker : string_bytes g.worker ≡ string_bytes f.worker = same.1.1.1.1.0 in
    let end = end_alike f.end g.end same.1.1.1.1.1 in
    rw (handle, time, unique, function, worker, end) refl
