-- A request that HTTP allows is never refused, and that of a job is one.
use Rattle.std.proofs.Common.{◌≡◌, ℕ, ◌+◌, ◌-◌, ◌^◌, ◌<◌, Bool, true, false, not, cond, ltb, eqb, min, ◌&&◌, ◌||◌, List, [], ◌∷◌, ◌++◌, length, length-append, codes, Some, None, Result, Ok, Err, sym, refl, ap, ◌∙◌, subst, arith, count_by, filter, string_bytes, eq-eqb, eqb-true, le-ltb, lt-ltb, zero, suc}
use Rattle.std.specs.List.{AllByRecursion, list_all}
use Rattle.std.specs.Char.{is_ascii_graphic}
use Rattle.std.proofs.lemmas.Bool.{and_from, eqb-false}
use Rattle.std.specs.Str.Parse.{digits_value}
use Rattle.std.proofs.lemmas.Bool.Decides.{nat_tests}
use Rattle.std.proofs.lemmas.List.Folds.{list_all-append}
use Rattle.std.proofs.lemmas.List.Sums.{length-filter, list_all-from_AllPass}
use Rattle.percent_encoding.specs.AsciiSet.{should_percent_encode}
use Rattle.percent_encoding.specs.Percent.{percent_encode}
use Rattle.percent_encoding.proofs.AsciiSetLemmas.{ascii_from_kept}
use Rattle.percent_encoding.proofs.OnLiterals.{percent_encoding_on_literals}
use Rattle.percent_encoding.proofs.PercentLemmas.{IsEscapeByte, All-percent_encode}
use Rattle.httparse.specs.Grammar.{is_token, is_token_byte}
use Rattle.http1.specs.declared.framing.Framing.{Framing}
use Rattle.http1.specs.declared.framing.Framing.TheVariants as Framed
use Rattle.http1.specs.declared.framing.FramingError.{FramingError}
use Rattle.http1.specs.declared.framing.FramingError.TheVariants.{InvalidTransferEncoding}
use Rattle.http1.specs.declared.framing.MethodKind.TheVariants as Method
use Rattle.http1.specs.declared.fields.ContentLength.TheVariants as Lengths
use Rattle.http1.specs.declared.fields.TransferEncoding.TheVariants as Coding
use Rattle.http1.specs.declared.error.WriteError.{WriteError}
use Rattle.http1.specs.declared.error.WriteError.TheVariants as Refusal
use Rattle.http1.specs.declared.conn.BodySize.TheVariants.{Known}
use Rattle.http1.specs.declared.conn.Limits.{Limits}
use Rattle.http1.specs.Text.{eq_ignore_case, numeral}
use Rattle.http1.specs.Fields.{Header, is_named, is_framing_field, values_named, content_length, known_fields, frames_plainly}
use Rattle.http1.specs.Framing.{request_framing, by_fields}
use Rattle.http1.specs.Head.{is_header, are_headers, is_target, is_request_line, is_trimmed_value, head_refusal}
use Rattle.http1.specs.Conn.{Plan, plan_refusal, length_header, is_plain, data_refusal, finish_refusal, after_data}
use Rattle.http1.specs.Client.{new_client, request_plan, request_refusal, plan_fields, plan_framed, requesting, after_request, writing}
use Rattle.http1.proofs.NumeralLemmas.{numeral_reads_back, decimal_is_number, decimal_is_plain, decimal_is_trimmed}
use Rattle.gear_packets.specs.Response.{AssignedJob}
use Rattle.http_jobs.specs.declared.service.Service.{Service}
use Rattle.http_jobs.specs.declared.request.TheConstants.{UNRESERVED}
use Rattle.http_jobs.specs.declared.request.Attempt.{Attempt}
use Rattle.http_jobs.specs.declared.request.Attempt.TheVariants as attempt
use Rattle.http_jobs.specs.Request.{attempt_header, sent_header, headers_of, target_of}
use Rattle.http_jobs.specs.Post.{AreOrdinary, CanBeSent}
use Rattle.http_jobs.specs.Values.{is_sent, is_visible}
use Rattle.http_jobs.proofs.Asking.{POST, absent, adds_length, no_codings, length_is_no_coding, ordinary_headers}

-- one more that counts, and one more that does not
counts : (p : Header → Bool) (h : Header) (hs : List Header) → p h ≡ true → count_by p (h ∷ hs) ≡ 1 + count_by p hs
counts p h hs e =
    let all = length-filter p (h ∷ hs) in
    let rest = length-filter p hs in
    let here : length (filter p (h ∷ hs)) ≡ length (h ∷ filter p hs) = ap (λ (b : Bool). length (cond b (h ∷ filter p hs) (filter p hs))) e in
    omega (arith, all, rest, here)

counts_not : (p : Header → Bool) (h : Header) (hs : List Header) → p h ≡ false → count_by p (h ∷ hs) ≡ count_by p hs
counts_not p h hs e =
    let all = length-filter p (h ∷ hs) in
    let rest = length-filter p hs in
    let here : length (filter p (h ∷ hs)) ≡ length (filter p hs) = ap (λ (b : Bool). length (cond b (h ∷ filter p hs) (filter p hs))) e in
    omega (arith, all, rest, here)

both_true : (a b : Bool) → (a && b) ≡ true → (a ≡ true) × (b ≡ true)
both_true true b e = (refl, e)
both_true false b e = cc

-- ---- the headers

-- a header that may be sent, and does not name the host
pub record IsFurther (h : Header) : Type 0 where
  pub host : is_named (codes "host") h ≡ false
  pub valid : is_header h ≡ true

abbrev pub AreFurther : List Header → Type 0
AreFurther hs = AllByRecursion IsFurther hs

further_both : (xs ys : List Header) → AreFurther xs → AreFurther ys → AreFurther (xs ++ ys)
further_both [] ys a b = b
further_both (x ∷ xs) ys a b = (a.0, further_both xs ys a.1 b)

further_sent : (name value : List ℕ) → is_named (codes "host") (name, value) ≡ false → is_token name ≡ true → AreFurther (sent_header name value)
further_sent name value other token = by_test (is_sent value) refl
  where
    by_test : (t : Bool) → is_sent value ≡ t → AreFurther (cond t ((name, value) ∷ []) [])
    by_test true e = (record { host = other; valid = and_from _ _ token (both_true _ _ e).1 }, tt)
    by_test false e = tt

type_token : is_token (codes "content-type") ≡ true
unfolding is_token_byte
type_token = refl

handle_token : is_token (codes "gearman-handle") ≡ true
unfolding is_token_byte
handle_token = refl

unique_token : is_token (codes "gearman-unique") ≡ true
unfolding is_token_byte
unique_token = refl

worker_token : is_token (codes "poolman-worker") ≡ true
unfolding is_token_byte
worker_token = refl

host_token : is_token (codes "host") ≡ true
unfolding is_token_byte
host_token = refl

length_token : is_token (codes "content-length") ≡ true
unfolding is_token_byte
length_token = refl

type_is_no_host : (value : List ℕ) → is_named (codes "host") (codes "content-type", value) ≡ false
unfolding eq_ignore_case
type_is_no_host value = refl

handle_is_no_host : (value : List ℕ) → is_named (codes "host") (codes "gearman-handle", value) ≡ false
unfolding eq_ignore_case
handle_is_no_host value = refl

unique_is_no_host : (value : List ℕ) → is_named (codes "host") (codes "gearman-unique", value) ≡ false
unfolding eq_ignore_case
unique_is_no_host value = refl

worker_is_no_host : (value : List ℕ) → is_named (codes "host") (codes "poolman-worker", value) ≡ false
unfolding eq_ignore_case
worker_is_no_host value = refl

length_is_no_host : (value : List ℕ) → is_named (codes "host") (codes "content-length", value) ≡ false
unfolding eq_ignore_case
length_is_no_host value = refl

host_is_host : (value : List ℕ) → is_named (codes "host") (codes "host", value) ≡ true
unfolding eq_ignore_case
host_is_host value = refl

-- the headers after the host
abbrev pub further_of : Service → AssignedJob → Attempt → List Header
further_of s j a =
    (((codes "content-type", codes "application/octet-stream") ∷ [] ++ sent_header (codes "gearman-handle") j.handle)
    ++ sent_header (codes "gearman-unique") j.unique
    ++ sent_header (codes "poolman-worker") (string_bytes s.worker))
    ++ attempt_header a

attempt_token : is_token (codes "poolman-sending") ≡ true
unfolding is_token_byte
attempt_token = refl

further_attempt : (a : Attempt) → AreFurther (attempt_header a)
unfolding eq_ignore_case
further_attempt attempt.First = tt
further_attempt attempt.Second =
    (record { host = refl; valid = and_from (is_token (codes "poolman-sending")) (is_trimmed_value (codes "2")) attempt_token refl }, tt)

further_headers : (s : Service) (j : AssignedJob) (a : Attempt) → AreFurther (further_of s j a)
further_headers s j a =
    let octets = codes "application/octet-stream" in
    let worker = string_bytes s.worker in
    let one : List Header = (codes "content-type", octets) ∷ [] in
    let two = one ++ sent_header (codes "gearman-handle") j.handle in
    let three = two ++ sent_header (codes "gearman-unique") j.unique in
    let kind : AreFurther one = (record { host = type_is_no_host octets; valid = and_from (is_token (codes "content-type")) (is_trimmed_value octets) type_token refl }, tt) in
    let with_handle = further_both one (sent_header (codes "gearman-handle") j.handle) kind (further_sent (codes "gearman-handle") j.handle (handle_is_no_host j.handle) handle_token) in
    let with_unique = further_both two (sent_header (codes "gearman-unique") j.unique) with_handle (further_sent (codes "gearman-unique") j.unique (unique_is_no_host j.unique) unique_token) in
    let with_worker = further_both three (sent_header (codes "poolman-worker") worker) with_unique (further_sent (codes "poolman-worker") worker (worker_is_no_host worker) worker_token) in
    further_both (three ++ sent_header (codes "poolman-worker") worker) (attempt_header a) with_worker (further_attempt a)

no_hosts : (hs : List Header) → AreFurther hs → count_by (is_named (codes "host")) hs ≡ 0
no_hosts [] o = refl
no_hosts (h ∷ hs) o = let e = o.0.host in rw e (no_hosts hs o.1)

all_valid : (hs : List Header) → AreFurther hs → list_all is_header hs ≡ true
all_valid [] o = refl
all_valid (h ∷ hs) o = and_from _ _ o.0.valid (all_valid hs o.1)

-- the length is one more header, which names no host and may be sent
counted_more : (p : Header → Bool) (h : Header) (hs more : List Header) (t : Bool) → p h ≡ t → count_by p (hs ++ more) ≡ count_by p hs
    → count_by p (h ∷ (hs ++ more)) ≡ count_by p (h ∷ hs)
counted_more p h hs more true e rest = counts p h (hs ++ more) e ∙ ap (λ (k : ℕ). 1 + k) rest ∙ sym (counts p h hs e)
counted_more p h hs more false e rest = counts_not p h (hs ++ more) e ∙ rest ∙ sym (counts_not p h hs e)

counted_host : (hs : List Header) (n : ℕ) → count_by (is_named (codes "host")) (hs ++ length_header n ∷ []) ≡ count_by (is_named (codes "host")) hs
counted_host [] n = counts_not (is_named (codes "host")) (length_header n) [] (length_is_no_host (numeral 10 n))
counted_host (h ∷ hs) n = counted_more (is_named (codes "host")) h hs (length_header n ∷ []) (is_named (codes "host") h) refl (counted_host hs n)

one_host : (hs : List Header) (n : ℕ) → count_by (is_named (codes "host")) hs ≡ 1 → (known_fields (hs ++ length_header n ∷ [])).hosts ≡ 1
unfolding known_fields
one_host hs n one = ap (λ (k : ℕ). min k 2) (counted_host hs n ∙ one)

length_valid : (n : ℕ) → is_header (length_header n) ≡ true
length_valid n = and_from (is_token (codes "content-length")) (is_trimmed_value (numeral 10 n)) length_token (decimal_is_trimmed n)

valid_headers : (hs : List Header) (n : ℕ) → list_all is_header hs ≡ true → are_headers (hs ++ length_header n ∷ []) ≡ true
unfolding are_headers
valid_headers hs n valid = list_all-append is_header hs (length_header n ∷ []) ∙ and_from _ _ valid (and_from _ _ (length_valid n) refl)

-- ---- the framing

no_values : (hs more : List Header) → AreOrdinary hs → values_named (codes "content-length") (hs ++ more) ≡ values_named (codes "content-length") more
no_values [] more o = refl
no_values (h ∷ hs) more o = let e = (neither_of (is_named (codes "content-length") h) (is_named (codes "transfer-encoding") h) o.0.framing).0 in rw e (no_values hs more o.1)
  where
    neither_of : (a b : Bool) → (a || b) ≡ false → (a ≡ false) × (b ≡ false)
    neither_of true b e = cc
    neither_of false b e = (refl, e)

length_value : (n : ℕ) → values_named (codes "content-length") (length_header n ∷ []) ≡ numeral 10 n ∷ []
unfolding eq_ignore_case
length_value n = refl

length_known : (n : ℕ) → n < 2 ^ 64 → content_length (numeral 10 n ∷ []) ≡ Lengths.Value n
length_known n small =
    let value = (numeral_reads_back 10 n (omega arith) (omega arith)).value in
    ap (λ (b : Bool). cond (b && true) (Lengths.Value (digits_value 10 (numeral 10 n))) Lengths.Invalid) (decimal_is_number n small) ∙ ap Lengths.Value value

states_length : (hs : List Header) (n : ℕ) → n < 2 ^ 64 → AreOrdinary hs → (known_fields (hs ++ length_header n ∷ [])).content_length ≡ Lengths.Value n
unfolding known_fields
states_length hs n small o = ap content_length (no_values hs (length_header n ∷ []) o ∙ length_value n) ∙ length_known n small

framed_by_length : (hs : List Header) (n : ℕ) → n < 2 ^ 64 → AreOrdinary hs → request_framing Method.Other 1 (known_fields (hs ++ length_header n ∷ [])) ≡ Ok (Framed.Length n)
framed_by_length hs n small o =
    let k = known_fields (hs ++ length_header n ∷ []) in
    let none : k.transfer_encoding ≡ Coding.Absent = absent _ (no_codings hs (length_header n ∷ []) o ∙ length_is_no_coding n) in
    (λ i. by_fields 1 Framed.NoBody (Err InvalidTransferEncoding) (none i) (states_length hs n small o i))

counted : (hs more : List Header) → AreOrdinary hs → count_by is_framing_field (hs ++ more) ≡ count_by is_framing_field more
counted [] more o = refl
counted (h ∷ hs) more o =
    let here = counts_not is_framing_field h (hs ++ more) o.0.framing in
    let rest = counted hs more o.1 in
    omega (arith, here, rest)

length_counted : (n : ℕ) → count_by is_framing_field (length_header n ∷ []) ≡ 1
unfolding eq_ignore_case
length_counted n = refl

plain_one : (h : Header) → is_framing_field h ≡ false → frames_plainly h ≡ true
plain_one h e = by_tests (is_named (codes "content-length") h) (is_named (codes "transfer-encoding") h) _ _ e
  where
    by_tests : (a b x y : Bool) → (a || b) ≡ false → cond a x (cond b y true) ≡ true
    by_tests true b x y e = cc
    by_tests false true x y e = cc
    by_tests false false x y e = refl

plain_all : (hs more : List Header) → AreOrdinary hs → list_all frames_plainly more ≡ true → list_all frames_plainly (hs ++ more) ≡ true
plain_all [] more o e = e
plain_all (h ∷ hs) more o e = and_from _ _ (plain_one h o.0.framing) (plain_all hs more o.1 e)

length_plain : (n : ℕ) → n < 2 ^ 64 → list_all frames_plainly (length_header n ∷ []) ≡ true
unfolding eq_ignore_case
length_plain n small = and_from _ _ (decimal_is_plain n small) refl

plain_request : (hs : List Header) (n : ℕ) → n < 2 ^ 64 → AreOrdinary hs → is_plain (known_fields (hs ++ length_header n ∷ [])) ≡ true
unfolding known_fields
plain_request hs n small o =
    and_from _ _ (ap (λ (k : ℕ). ltb (min k 2) 2) (counted hs (length_header n ∷ []) o ∙ length_counted n)) (plain_all hs (length_header n ∷ []) o (length_plain n small))

-- ---- the target

-- each number below this one passes
abbrev all_below : (ℕ → Bool) → ℕ → Bool
all_below p zero = true
all_below p (suc n) = p n && all_below p n

below_step : (p : ℕ → Bool) (n b : ℕ) (t : Bool) → eqb b n ≡ t → b < suc n → p n ≡ true → (b < n → p b ≡ true) → p b ≡ true
below_step p n b true same small here rest = subst (λ (k : ℕ). p k ≡ true) (sym (eqb-true b n same)) here
below_step p n b false other small here rest = rest (omega (arith, eqb-false b n other))

below_passes : (p : ℕ → Bool) (n b : ℕ) → all_below p n ≡ true → b < n → p b ≡ true
below_passes p zero b e small = absurd (omega arith)
below_passes p (suc n) b e small =
    let parts = both_true (p n) (all_below p n) e in
    below_step p n b (eqb b n) refl small parts.0 (λ h. below_passes p n b parts.1 h)

visible_or_encoded : all_below (λ b. should_percent_encode UNRESERVED b || is_ascii_graphic b) 128 ≡ true
unfolding percent_encoding_on_literals
visible_or_encoded = refl

kept_is_visible : (b : ℕ) → should_percent_encode UNRESERVED b ≡ false → is_ascii_graphic b ≡ true
kept_is_visible b kept =
    let passes = below_passes (λ b. should_percent_encode UNRESERVED b || is_ascii_graphic b) 128 b visible_or_encoded (ascii_from_kept UNRESERVED b kept) in
    second (should_percent_encode UNRESERVED b) (is_ascii_graphic b) kept passes
  where
    second : (x y : Bool) → x ≡ false → (x || y) ≡ true → y ≡ true
    second true y e f = cc
    second false y e f = f

escape_is_visible : (b : ℕ) → IsEscapeByte b → is_ascii_graphic b ≡ true
escape_is_visible b h = grind (arith, nat_tests)

visible_name : (name : List ℕ) → list_all is_ascii_graphic (percent_encode UNRESERVED name) ≡ true
visible_name name = list_all-from_AllPass is_ascii_graphic _ (All-percent_encode (λ b. is_ascii_graphic b ≡ true) UNRESERVED name kept_is_visible escape_is_visible)

visible_target : (s : Service) (j : AssignedJob) → list_all is_ascii_graphic (string_bytes s.path) ≡ true → is_target (target_of s j) ≡ true
visible_target s j visible =
    let prefix = string_bytes s.path ++ codes "/" in
    let name = percent_encode UNRESERVED j.function in
    let some : 0 < length (prefix ++ name) = omega (arith, length-append prefix name, length-append (string_bytes s.path) (codes "/")) in
    and_from _ _ (lt-ltb _ _ some)
    (list_all-append is_ascii_graphic prefix name ∙ and_from _ _ (list_all-append is_ascii_graphic (string_bytes s.path) (codes "/") ∙ and_from _ _ visible refl) (visible_name j.function))

post_token : is_token POST ≡ true
unfolding is_token_byte
post_token = refl

-- the request of a job can be sent
pub job_can_be_sent : (s : Service) (j : AssignedJob) (a : Attempt) → is_sent (string_bytes s.host) ≡ true → is_visible (string_bytes s.path) ≡ true → CanBeSent (target_of s j) (headers_of s j a)
job_can_be_sent s j a hosted visible =
    let p = is_named (codes "host") in
    let host : Header = (codes "host", string_bytes s.host) in
    let more = further_of s j a in
    let further = further_headers s j a in
    record {
      aimed = visible_target s j visible;
      valid = and_from _ _ (and_from _ _ host_token (both_true _ _ hosted).1) (all_valid more further);
      hosted = counts p host more (host_is_host (string_bytes s.host)) ∙ ap (λ (k : ℕ). 1 + k) (no_hosts more further);
      ordinary = ordinary_headers s j a;
    }

-- ---- nothing is refused

module _ (limits : Limits) (target : List ℕ) (hs : List Header) (n : ℕ) (small : n < 2 ^ 64) (can : CanBeSent target hs) where
  abbrev the_plan : Plan
  the_plan = record { extra = length_header n ∷ []; framing = Framed.Length n; keep_alive = not (known_fields (hs ++ length_header n ∷ [])).close }

  abbrev plan_by : List Header → Result Plan WriteError
  plan_by extra = let k = known_fields (hs ++ extra) in cond (eqb k.hosts 1) (plan_framed (Known n) extra k (request_framing Method.Other 1 k)) (Err Refusal.Host)

  pub plan_is : request_plan (new_client limits) POST (Known n) hs ≡ Ok the_plan
  unfolding plan_fields
  plan_is =
      let o = can.ordinary in
      let k = known_fields (hs ++ length_header n ∷ []) in
      let extra = length_header n ∷ [] in
      ap plan_by (adds_length hs n o)
      ∙ ap (λ (h : ℕ). cond (eqb h 1) (plan_framed (Known n) extra k (request_framing Method.Other 1 k)) (Err Refusal.Host)) (one_host hs n can.hosted)
      ∙ ap (λ (f : Result Framing FramingError). plan_framed (Known n) extra k f) (framed_by_length hs n small o)
      ∙ ap (λ (b : Bool). cond (not b) (Err Refusal.BodySize) (cond (not (is_plain k)) (Err Refusal.UnusualFraming) (Ok the_plan))) (eq-eqb n n refl)
      ∙ ap (λ (b : Bool). cond (not b) (Err Refusal.UnusualFraming) (Ok the_plan)) (plain_request hs n small o)

  pub head_accepted : request_refusal (new_client limits) POST target (Known n) hs ≡ None
  head_accepted =
      let line : is_request_line POST target 1 ≡ true = and_from _ _ post_token (and_from _ _ can.aimed refl) in
      ap (λ (r : Result Plan WriteError). plan_refusal r (is_request_line POST target 1) hs) plan_is
      ∙ ap (λ (b : Bool). head_refusal b (hs ++ length_header n ∷ [])) line
      ∙ ap (λ (b : Bool). cond b None (Some Refusal.InvalidHeader)) (valid_headers hs n can.valid)

  pub data_accepted : data_refusal (writing (after_request (new_client limits) POST (Known n) hs)) n ≡ None
  data_accepted =
      ap (λ (r : Result Plan WriteError). data_refusal (writing (requesting (new_client limits) POST hs r)) n) plan_is
      ∙ ap (λ (b : Bool). cond b (Some Refusal.BodyTooLong) None) (le-ltb n n (omega arith))

  pub end_accepted : finish_refusal (after_data (writing (after_request (new_client limits) POST (Known n) hs)) n) [] ≡ None
  end_accepted =
      let zero_left : ltb 0 (n - n) ≡ false = le-ltb 0 (n - n) (omega arith) in
      ap (λ (r : Result Plan WriteError). finish_refusal (after_data (writing (requesting (new_client limits) POST hs r)) n) []) plan_is
      ∙ ap (λ (b : Bool). cond b (Some Refusal.BodyTooShort) None) zero_left
