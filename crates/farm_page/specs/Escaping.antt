-- Names inside other texts: in a page, and in a label of a metric.
use Rattle.std.specs.Prelude.{ℕ, ◌==◌, ◌||◌, ◌&&◌, nat_lt, nat_eq, List, [], ◌∷◌, Bool, true, not, codes, if◌then◌else◌}
use Rattle.std.specs.List.{flat_map, list_any, starts_with}

-- bytes that no text is shown with
abbrev pub is_control : ℕ → Bool
is_control b = nat_lt b 32 || b == 127

-- a byte in the text of a page
abbrev pub page_byte : ℕ → List ℕ
page_byte b =
    if b == 60 then codes "&lt;"
    else if b == 62 then codes "&gt;"
    else if b == 38 then codes "&amp;"
    else if b == 34 then codes "&quot;"
    else if b == 39 then codes "&#39;"
    else if is_control b then codes "&#65533;"
    else b ∷ []

abbrev pub page_text : List ℕ → List ℕ
page_text text = flat_map page_byte text

-- no `<`, no `>` and no quote
abbrev pub opens_nothing : ℕ → Bool
opens_nothing b = not (b == 60 || (b == 62 || (b == 34 || b == 39)))

-- a byte in the value of a label, by the text format of Prometheus
abbrev pub label_byte : ℕ → List ℕ
label_byte b =
    if b == 92 then codes "\\\\"
    else if b == 34 then codes "\\\""
    else if b == 10 then codes "\\n"
    else b ∷ []

abbrev pub label_text : List ℕ → List ℕ
label_text text = flat_map label_byte text

-- each byte of this kind is followed by one of these texts
abbrev pub is_followed : ℕ → List (List ℕ) → List ℕ → Bool
is_followed lead nexts [] = true
is_followed lead nexts (b ∷ bs) =
    (if b == lead then list_any (starts_with nat_eq bs) nexts else true) && is_followed lead nexts bs
