-- The request for a job (RFC 9112, section 3).
use Rattle.std.specs.Prelude.{ℕ, ◌+◌, ◌-◌, ◌++◌, Bool, ◌||◌, ◌==◌, if◌then◌else◌, List, [], ◌∷◌, length, codes}
use Rattle.std.specs.Prelude.{string_bytes, bytes_eq}
use Rattle.percent_encoding.specs.Percent.{percent_encode}
use Rattle.gear_packets.specs.Frame.{body_limit}
use Rattle.gear_packets.specs.Response.{AssignedJob}
use Rattle.http1.specs.Fields.{Header}
use Rattle.http_jobs.specs.Post.{post_text}
use Rattle.http_jobs.specs.Values.{is_sent}
use Rattle.http_jobs.specs.declared.service.Service.{Service}
use Rattle.http_jobs.specs.declared.request.Attempt.{Attempt}
use Rattle.http_jobs.specs.declared.request.Attempt.TheVariants as attempt
use Rattle.http_jobs.specs.declared.request.TheConstants.{UNRESERVED}

-- the path of the service, a slash, and the function with all but unreserved characters percent-encoded
abbrev pub target_of : Service → AssignedJob → List ℕ
target_of s j = (string_bytes s.path ++ codes "/") ++ percent_encode UNRESERVED j.function

-- Such a name has no path of its own: servers take `.` and `..` for other paths, also percent-encoded.
abbrev pub has_no_path : List ℕ → Bool
has_no_path name = (length name == 0) || (bytes_eq name (codes ".") || bytes_eq name (codes ".."))

-- the header, if its value may be sent
abbrev pub sent_header : List ℕ → List ℕ → List Header
sent_header name value = if is_sent value then (name, value) ∷ [] else []

-- what says that a job is sent once more
abbrev pub attempt_header : Attempt → List Header
attempt_header attempt.First = []
attempt_header attempt.Second = (codes "poolman-sending", codes "2") ∷ []

-- the headers, without the length
abbrev pub headers_of : Service → AssignedJob → Attempt → List Header
headers_of s j attempt =
    (codes "host", string_bytes s.host) ∷ (codes "content-type", codes "application/octet-stream") ∷ []
    ++ sent_header (codes "gearman-handle") j.handle
    ++ sent_header (codes "gearman-unique") j.unique
    ++ sent_header (codes "poolman-worker") (string_bytes s.worker)
    ++ attempt_header attempt

-- the request, head and body, of a job that is sent for this time
abbrev pub request_of : Service → AssignedJob → Attempt → List ℕ
request_of s j attempt = post_text (target_of s j) (headers_of s j attempt) j.payload

-- the most bytes of a body that a packet can hold beside the job's handle and the NUL that ends it
abbrev pub most_body : AssignedJob → ℕ
most_body j = body_limit - (length j.handle + 1)
