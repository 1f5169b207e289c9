-- The markup of a page: which tags and entities it has, whatever the names in it are.
use Rattle.std.specs.Prelude.{ℕ, ◌≡◌, ◌++◌, List, [], ◌∷◌, Bool, ◌&&◌, IsTrue, codes}
use Rattle.farm_page.specs.Escaping.{is_followed}
use Rattle.farm_page.specs.declared.page.Refresh.{Refresh}
use Rattle.farm_page.specs.declared.page.Refresh.TheVariants.{Never, Soon}

-- what follows a `<`: none of them begins a script, a frame, an image, a form or a `meta`
abbrev pub tags : List (List ℕ)
tags =
    codes "/html>" ∷ codes "/head>" ∷ codes "title>" ∷ codes "/title>"
    ∷ codes "link " ∷ codes "style>" ∷ codes "/style>" ∷ codes "body " ∷ codes "/body>" ∷ codes "header>"
    ∷ codes "/header>" ∷ codes "main>" ∷ codes "/main>" ∷ codes "footer>" ∷ codes "/footer>" ∷ codes "nav>" ∷ codes "/nav>"
    ∷ codes "section>" ∷ codes "section " ∷ codes "/section>" ∷ codes "h1>" ∷ codes "/h1>" ∷ codes "h2>" ∷ codes "/h2>"
    ∷ codes "p>" ∷ codes "/p>" ∷ codes "a " ∷ codes "/a>" ∷ codes "b>" ∷ codes "/b>" ∷ codes "span>" ∷ codes "span "
    ∷ codes "/span>" ∷ codes "div " ∷ codes "/div>" ∷ codes "figure>" ∷ codes "/figure>" ∷ codes "figcaption>"
    ∷ codes "/figcaption>" ∷ codes "svg " ∷ codes "/svg>" ∷ codes "path " ∷ codes "rect " ∷ codes "polyline " ∷ codes "table>"
    ∷ codes "/table>" ∷ codes "thead>" ∷ codes "/thead>" ∷ codes "tbody>" ∷ codes "/tbody>" ∷ codes "tr>" ∷ codes "/tr>"
    ∷ codes "th>" ∷ codes "th " ∷ codes "/th>" ∷ codes "td>" ∷ codes "td " ∷ codes "/td>" ∷ codes "details>" ∷ codes "/details>"
    ∷ codes "summary>" ∷ codes "/summary>" ∷ []

-- what follows a `&`
abbrev pub entities : List (List ℕ)
entities = codes "lt;" ∷ codes "gt;" ∷ codes "amp;" ∷ codes "quot;" ∷ codes "#39;" ∷ codes "#65533;" ∷ []

-- each `<` begins one of the tags, and each `&` one of the entities
abbrev pub is_markup : List ℕ → Bool
is_markup text = is_followed 60 tags text && is_followed 38 entities text

-- asks for the page again after five seconds, or never
abbrev pub refresh_tag : Refresh → List ℕ
refresh_tag Soon = codes "<meta http-equiv=\"refresh\" content=\"5\">"
refresh_tag Never = []

-- how a page begins, whatever it shows
abbrev pub opening : Refresh → List ℕ
opening refresh =
    codes "<!doctype html>\n<html lang=\"en\"><head><meta charset=\"utf-8\">"
    ++ codes "<meta name=\"viewport\" content=\"width=device-width, initial-scale=1\">" ++ refresh_tag refresh

-- the opening, and then nothing but tags and entities of the page's own
pub record IsPageOf (refresh : Refresh) (page : List ℕ) : Type 0 where
  pub rest : List ℕ
  pub is : page ≡ opening refresh ++ rest
  pub own : IsTrue (is_markup rest)
