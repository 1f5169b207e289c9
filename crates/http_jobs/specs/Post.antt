-- A request by POST (RFC 9110, section 9.3.3; RFC 9112, section 3).
use Rattle.std.specs.List.{AllByRecursion, list_all}
use Rattle.std.specs.Prelude.{◌≡◌, ℕ, List, [], ◌∷◌, ◌++◌, length, codes, count_by, true, false}
use Rattle.http1.specs.Conn.{length_header}
use Rattle.http1.specs.Fields.{Header, is_framing_field, is_named}
use Rattle.http1.specs.Head.{is_header, is_target, pairs, request_text}
use Rattle.http_jobs.specs.declared.posts.Post.{Post}

-- the request, head and body: the headers, and after them the length of the body
abbrev pub post_text : List ℕ → List Header → List ℕ → List ℕ
post_text target headers body = request_text (codes "POST") target 1 (headers ++ length_header (length body) ∷ []) ++ body

abbrev pub text_of : Post → List ℕ
text_of post = post_text post.target.now (pairs post.headers.now) post.body.now

-- a header that neither frames the body nor asks for another protocol
pub record IsOrdinary (h : Header) : Type 0 where
  pub framing : is_framing_field h ≡ false
  pub upgrade : is_named (codes "upgrade") h ≡ false

abbrev pub AreOrdinary : List Header → Type 0
AreOrdinary headers = AllByRecursion IsOrdinary headers

-- HTTP allows the target and each header, one of which names the host, and the headers say nothing of how the body is framed.
pub record CanBeSent (target : List ℕ) (headers : List Header) : Type 0 where
  pub aimed : is_target target ≡ true
  pub valid : list_all is_header headers ≡ true
  pub hosted : count_by (is_named (codes "host")) headers ≡ 1
  pub ordinary : AreOrdinary headers
