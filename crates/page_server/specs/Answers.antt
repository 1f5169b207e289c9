-- What a request asks a page, and which response answers it.
use Rattle.std.specs.Prelude.{◌≡◌, ℕ, Bool, false, List, Option, codes, if◌then◌else◌, option_map, ⊤}
use Rattle.std.specs.Option.{option_copied, option_map_or}
use Rattle.std.specs.Str.{bytes_eq}
use Rattle.farm_page.specs.Answer.{code, headers}
use Rattle.farm_page.specs.Replying.{Replies}
use Rattle.farm_page.specs.Request.{place_asked}
use Rattle.farm_page.specs.declared.replying.Reply.{Reply}
use Rattle.farm_page.specs.declared.replying.Reply.TheVariants.{Drain, Told}
use Rattle.farm_page.specs.declared.replying.Seen.{Seen}
use Rattle.farm_page.specs.declared.request.Asked.{Asked}
use Rattle.farm_page.specs.declared.request.Method.{Method}
use Rattle.farm_page.specs.declared.request.Method.TheVariants.{Get, Head, Other, Post}
use Rattle.farm_page.specs.declared.request.Site.{Site}
use Rattle.http.specs.Request.{head_of}
use Rattle.http.specs.declared.request.Request.{Request}
use Rattle.http_header.specs.HeaderMap.{get}
use Rattle.http_header.specs.Token.{lowercase}
use Rattle.http_server.specs.Response.{IsResponse}
use Rattle.http_server.specs.declared.response.Response.{Response}
use Rattle.http_uri.specs.Uri.{uri_authority, uri_path, uri_query}
use Rattle.page_server.specs.Places.{is_near}
use Rattle.page_server.specs.declared.places.Distance.{Distance}

-- ---- what is asked

abbrev pub method_of : List ℕ → Method
method_of name =
    if bytes_eq name (codes "GET") then Get
    else if bytes_eq name (codes "HEAD") then Head
    else if bytes_eq name (codes "POST") then Post
    else Other

-- the first value of a header
abbrev pub header : Request (List ℕ) → List ℕ → Option (List ℕ)
header request name = option_map (λ value. value.bytes) (get (head_of request).headers (lowercase name))

abbrev pub authority : Request (List ℕ) → Option (List ℕ)
authority request = uri_authority (head_of request).uri

abbrev pub is_still : Request (List ℕ) → Bool
is_still request = option_map_or (λ query. bytes_eq query (codes "still")) (uri_query (head_of request).uri) false

abbrev pub asks_drain : Request (List ℕ) → Bool
asks_drain request = option_map_or (λ value. bytes_eq value (codes "drain")) (header request (codes "poolman")) false

-- The request asks this of a page, from so far away.
pub record IsAskedBy (request : Request (List ℕ)) (distance : Distance) (asked : Asked) : Type 0 where
  pub method : asked.method ≡ method_of (head_of request).method
  pub path : asked.path.now ≡ uri_path (head_of request).uri
  pub host : option_copied asked.host ≡ header request (codes "host")
  pub authority : option_copied asked.authority ≡ authority request
  pub still : asked.is_still ≡ is_still request
  pub near : asked.is_near ≡ is_near distance
  pub drain : asked.asks_drain ≡ asks_drain request

-- ---- what is answered

-- a header as it is sent
abbrev pub sent : List ℕ × List ℕ → List ℕ × List ℕ
sent header = (lowercase header.0, header.1)

-- The response is this answer, and nothing else. Of what a farm comes to nothing is said.
abbrev pub Carries : Reply → Response → Type 0
Carries (Told answer) response = IsResponse (code answer.status) (headers answer) answer.body response
Carries Drain response = ⊤

-- The response is what a page at this site answers, of what it shows of a farm.
pub record IsAnswered (site : Site) (distance : Distance) (request : Request (List ℕ)) (response : Response) : Type 0 where
  pub asked : Asked
  pub asks : IsAskedBy request distance asked
  pub seen : Seen
  pub reply : Reply
  pub replies : Replies seen asked (place_asked site asked) reply
  pub carries : Carries reply response
