-- Headers as they are sent.
use Rattle.std.proofs.Common.{◌≡◌, ◌∙◌, ℕ, ◌+◌, ◌<◌, List, [], ◌∷◌, ◌++◌, Ok, Err, Result, append_assoc, ap, drop, get_or, length, map, string_bytes, sym}
use Rattle.std.specs.Prelude.{IfOk, OnOk}
use Rattle.std.proofs.lemmas.List.{drop_more}
use Rattle.farm_page.specs.Headers.{pairs}
use Rattle.farm_page.specs.declared.headers.Header.{Header}
use Rattle.page_server.specs.Answers.{sent}

-- one header more is sent
pub header_step : (headers : List Header) (i : ℕ) (h : Header) (old new whole : List (List ℕ × List ℕ))
    → i < length headers → h ≡ get_or headers i h → new ≡ old ++ sent (h.name.now, string_bytes h.value) ∷ []
    → old ++ map sent (pairs (drop i headers)) ≡ whole → new ++ map sent (pairs (drop (i + 1) headers)) ≡ whole
header_step headers i h old new whole inside is added before =
    let rest = map sent (pairs (drop (i + 1) headers)) in
    ap (λ t. t ++ rest) added ∙ append_assoc old (sent (h.name.now, string_bytes h.value) ∷ []) rest
    ∙ ap (λ t. old ++ t) (sym (ap (λ hs. map sent (pairs hs)) (drop_more headers i h inside)
    ∙ ap (λ (y : Header). sent (y.name.now, string_bytes y.value) ∷ rest) (sym is)))
    ∙ before

-- what holds of a value, if there is one, with what it is seen by
pub if_ok_with : {A E X : Type 0} (P : X → A → Type 0) (x : X) (r : Result A E) → IfOk r (λ y. P x y) → IfOk r (λ y. (x : X) × P x y)
if_ok_with P x (Ok y) holds = (x, holds)
if_ok_with P x (Err e) holds = tt

-- what holds anyway
pub on_ok_anyway : {E : Type 0} (P : Type 0) (r : Result (Unit {0}) E) → P → OnOk r P
on_ok_anyway P (Ok u) holds = holds
on_ok_anyway P (Err e) holds = tt
