-- The status, the headers and the media type of an answer.
use Rattle.std.specs.Prelude.{ℕ, List, [], ◌∷◌, ◌++◌, Option, Some, None, codes}
use Rattle.std.specs.Fmt.{decimal}
use Rattle.farm_page.specs.Told.{Told}
use Rattle.farm_page.specs.declared.style.TheConstants.{POLICY}
use Rattle.farm_page.specs.declared.answer.Allowed.{Allowed}
use Rattle.farm_page.specs.declared.answer.Allowed.TheVariants.{Posts, Reads}
use Rattle.farm_page.specs.declared.answer.Content.{Content}
use Rattle.farm_page.specs.declared.answer.Content.TheVariants as content
use Rattle.farm_page.specs.declared.answer.Status.{Status}
use Rattle.farm_page.specs.declared.answer.Status.TheVariants as status

abbrev pub code : Status → ℕ
code status.Ok = 200
code status.Forbidden = 403
code status.NotFound = 404
code status.MethodNotAllowed = 405
code status.Unavailable = 503

abbrev pub media_type : Content → List ℕ
media_type content.Page = codes "text/html; charset=utf-8"
media_type content.Text = codes "text/plain; charset=utf-8"
media_type content.Metrics = codes "text/plain; version=0.0.4; charset=utf-8"

abbrev pub methods : Allowed → List ℕ
methods Reads = codes "GET, HEAD"
methods Posts = codes "POST"

-- ---- the headers

abbrev pub Headers : Type 0
Headers = List (List ℕ × List ℕ)

-- what keeps a page from loading anything, from being guessed to be something else, and from being told to others or kept
abbrev pub safety : Headers
safety =
    (codes "content-security-policy", POLICY.now) ∷ (codes "x-content-type-options", codes "nosniff")
    ∷ (codes "referrer-policy", codes "no-referrer") ∷ (codes "cache-control", codes "no-store") ∷ []

abbrev pub attempt_header : Option ℕ → Headers
attempt_header None = []
attempt_header (Some attempt) = (codes "poolman-attempt", decimal attempt) ∷ []

abbrev pub allow_header : Option Allowed → Headers
allow_header None = []
allow_header (Some allowed) = (codes "allow", methods allowed) ∷ []

abbrev pub headers : Told → Headers
headers answer =
    (codes "content-type", media_type answer.content) ∷ [] ++ safety ++ attempt_header answer.attempt ++ allow_header answer.allowed
