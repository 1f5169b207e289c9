-- The text of a request.
use Rattle.std.proofs.Common.{◌≡◌, ℕ, min, Bool, true, false, not, cond, ltb, eqb, ◌&&◌, ◌||◌, List, [], ◌∷◌, ◌++◌, codes, Option, Some, None, Result, Ok, Err, sym, refl, ap, ◌∙◌, subst, subst₂, count_by, string_bytes}
use Rattle.std.specs.Prelude.{IsOk, MatchOption}
use Rattle.http1.specs.declared.encode.Frame.{Frame}
use Rattle.std.specs.List.{list_any}
use Rattle.std.proofs.lemmas.List.{append-nil}
use Rattle.std.proofs.lemmas.List.Folds.{list_any-append}
use Rattle.http1.specs.declared.framing.FramingError.TheVariants.{InvalidTransferEncoding}
use Rattle.http1.specs.Encoder.{encoder_for, end_text, after_piece as encoder_after}
use Rattle.http1.specs.declared.framing.Framing.{Framing}
use Rattle.http1.specs.declared.framing.Framing.TheVariants as Framed
use Rattle.http1.specs.declared.framing.FramingError.{FramingError}
use Rattle.http1.specs.declared.framing.MethodKind.TheVariants as Method
use Rattle.http1.specs.declared.fields.KnownFields.{KnownFields}
use Rattle.http1.specs.declared.fields.ContentLength.{ContentLength}
use Rattle.http1.specs.declared.fields.ContentLength.TheVariants as Lengths
use Rattle.http1.specs.declared.fields.TransferEncoding.TheVariants as Coding
use Rattle.http1.specs.declared.error.WriteError.{WriteError}
use Rattle.http1.specs.declared.error.WriteError.TheVariants as Refusal
use Rattle.http1.specs.declared.conn.BodySize.{BodySize}
use Rattle.http1.specs.declared.conn.BodySize.TheVariants.{Known}
use Rattle.http1.specs.declared.client.Client.{Client}
use Rattle.http1.specs.Text.{eq_ignore_case}
use Rattle.http1.specs.Fields.{Header, is_named, is_framing_field, elements_named, known_fields, transfer_encoding}
use Rattle.http1.specs.Framing.{method_kind, request_framing, by_fields}
use Rattle.http1.specs.Head.{request_text}
use Rattle.http1.specs.Output.{GivesOrRefuses}
use Rattle.http1.specs.Conn.{Plan, plan_refusal, planned_headers, length_header, states_framing, fits, is_plain, awaits_head, finish_text, after_data}
use Rattle.http1.specs.Client.{request_plan, request_refusal, planned_request, plan_fields, plan_framed, framing_headers, requesting, after_request, after_end, with_writing, writing}
use Rattle.http1.proofs.MessageRoundTrip.{request_plan_framed}
use Rattle.http_jobs.specs.declared.service.Service.{Service}
use Rattle.gear_packets.specs.Response.{AssignedJob}
use Rattle.http_jobs.specs.Values.{is_sent}
use Rattle.http_jobs.specs.Post.{AreOrdinary, IsOrdinary}
use Rattle.http_jobs.specs.declared.request.Attempt.{Attempt}
use Rattle.http_jobs.specs.declared.request.Attempt.TheVariants as attempt
use Rattle.http_jobs.specs.Request.{attempt_header, sent_header, headers_of}
use Rattle.http_jobs.specs.Reading.{HasAsked}

ordinary_both : (xs ys : List Header) → AreOrdinary xs → AreOrdinary ys → AreOrdinary (xs ++ ys)
ordinary_both [] ys a b = b
ordinary_both (x ∷ xs) ys a b = (a.0, ordinary_both xs ys a.1 b)

ordinary_sent : (name value : List ℕ) → IsOrdinary (name, value) → AreOrdinary (sent_header name value)
ordinary_sent name value o = by_test (is_sent value)
  where
    by_test : (t : Bool) → AreOrdinary (cond t ((name, value) ∷ []) [])
    by_test true = (o, tt)
    by_test false = tt

ordinary_host : (value : List ℕ) → IsOrdinary (codes "host", value)
unfolding eq_ignore_case
ordinary_host value = record { framing = refl; upgrade = refl }

ordinary_type : (value : List ℕ) → IsOrdinary (codes "content-type", value)
unfolding eq_ignore_case
ordinary_type value = record { framing = refl; upgrade = refl }

ordinary_handle : (value : List ℕ) → IsOrdinary (codes "gearman-handle", value)
unfolding eq_ignore_case
ordinary_handle value = record { framing = refl; upgrade = refl }

ordinary_unique : (value : List ℕ) → IsOrdinary (codes "gearman-unique", value)
unfolding eq_ignore_case
ordinary_unique value = record { framing = refl; upgrade = refl }

ordinary_worker : (value : List ℕ) → IsOrdinary (codes "poolman-worker", value)
unfolding eq_ignore_case
ordinary_worker value = record { framing = refl; upgrade = refl }

ordinary_attempt : (a : Attempt) → AreOrdinary (attempt_header a)
unfolding eq_ignore_case
ordinary_attempt attempt.First = tt
ordinary_attempt attempt.Second = (record { framing = refl; upgrade = refl }, tt)

pub ordinary_headers : (s : Service) (j : AssignedJob) (a : Attempt) → AreOrdinary (headers_of s j a)
ordinary_headers s j a =
    let host : List Header = (codes "host", string_bytes s.host) ∷ (codes "content-type", codes "application/octet-stream") ∷ [] in
    let first : AreOrdinary host = (ordinary_host (string_bytes s.host), (ordinary_type (codes "application/octet-stream"), tt)) in
    let handle = sent_header (codes "gearman-handle") j.handle in
    let unique = sent_header (codes "gearman-unique") j.unique in
    let worker = sent_header (codes "poolman-worker") (string_bytes s.worker) in
    let named =
    ordinary_both ((host ++ handle) ++ unique) worker
    (ordinary_both (host ++ handle) unique (ordinary_both host handle first (ordinary_sent _ j.handle (ordinary_handle _))) (ordinary_sent _ j.unique (ordinary_unique _)))
    (ordinary_sent _ (string_bytes s.worker) (ordinary_worker _)) in
    ordinary_both (((host ++ handle) ++ unique) ++ worker) (attempt_header a) named (ordinary_attempt a)

-- ---- what http1 makes of such headers

none_of_either : (a b : Bool) → (a || b) ≡ false → (a ≡ false) × (b ≡ false)
none_of_either true b e = cc
none_of_either false b e = (refl, e)

no_framing_fields : (hs : List Header) → AreOrdinary hs → count_by is_framing_field hs ≡ 0
no_framing_fields [] o = refl
no_framing_fields (h ∷ hs) o = let e = o.0.framing in rw e (no_framing_fields hs o.1)

no_upgrade : (hs : List Header) → AreOrdinary hs → list_any (is_named (codes "upgrade")) hs ≡ false
no_upgrade [] o = refl
no_upgrade (h ∷ hs) o = let e = o.0.upgrade in rw e (no_upgrade hs o.1)

pub no_codings : (hs more : List Header) → AreOrdinary hs → elements_named (codes "transfer-encoding") (hs ++ more) ≡ elements_named (codes "transfer-encoding") more
no_codings [] more o = refl
no_codings (h ∷ hs) more o = let e = (none_of_either (is_named (codes "content-length") h) (is_named (codes "transfer-encoding") h) o.0.framing).1 in rw e (no_codings hs more o.1)

pub length_is_no_coding : (n : ℕ) → elements_named (codes "transfer-encoding") (length_header n ∷ []) ≡ []
unfolding eq_ignore_case
length_is_no_coding n = refl

length_is_no_upgrade : (n : ℕ) → list_any (is_named (codes "upgrade")) (length_header n ∷ []) ≡ false
unfolding eq_ignore_case
length_is_no_upgrade n = refl

no_upgrade_either : (hs more : List Header) → AreOrdinary hs → list_any (is_named (codes "upgrade")) more ≡ false → list_any (is_named (codes "upgrade")) (hs ++ more) ≡ false
no_upgrade_either hs more o e = list_any-append _ hs more ∙ ap (λ (b : Bool). b || list_any (is_named (codes "upgrade")) more) (no_upgrade hs o) ∙ e

states_none : (hs : List Header) → AreOrdinary hs → states_framing (known_fields hs) ≡ false
unfolding known_fields
states_none hs o = ap (λ (n : ℕ). ltb 0 (min n 2)) (no_framing_fields hs o)

pub adds_length : (hs : List Header) (n : ℕ) → AreOrdinary hs → framing_headers (Known n) hs ≡ length_header n ∷ []
adds_length hs n o = ap (λ (b : Bool). cond (true && not b) (length_header n ∷ []) []) (states_none hs o)

is_unchunked : Framing → Bool
is_unchunked Framed.NoBody = true
is_unchunked (Framed.Length n) = true
is_unchunked Framed.Chunked = false
is_unchunked Framed.UntilClose = true

absent_unchunked : (x : Result Framing FramingError) (length : ContentLength) (f : Framing) → by_fields 1 Framed.NoBody x Coding.Absent length ≡ Ok f → is_unchunked f ≡ true
unfolding is_unchunked
absent_unchunked x Lengths.Absent f e = let s : Framed.NoBody ≡ f = cc in subst (λ y. is_unchunked y ≡ true) s refl
absent_unchunked x (Lengths.Value n) f e = let s : Framed.Length n ≡ f = cc in subst (λ y. is_unchunked y ≡ true) s refl
absent_unchunked x Lengths.Invalid f e = cc

pub absent : (hs : List Header) → elements_named (codes "transfer-encoding") hs ≡ [] → (known_fields hs).transfer_encoding ≡ Coding.Absent
unfolding known_fields
absent hs e = ap transfer_encoding e

asks_unchunked : (hs : List Header) (n : ℕ) (f : Framing) → AreOrdinary hs → request_framing Method.Other 1 (known_fields (hs ++ length_header n ∷ [])) ≡ Ok f → is_unchunked f ≡ true
asks_unchunked hs n f o e =
    let k = known_fields (hs ++ length_header n ∷ []) in
    let none : k.transfer_encoding ≡ Coding.Absent = absent _ (no_codings hs (length_header n ∷ []) o ∙ length_is_no_coding n) in
    absent_unchunked (Err InvalidTransferEncoding) k.content_length f (subst (λ t. by_fields 1 Framed.NoBody (Err InvalidTransferEncoding) t k.content_length ≡ Ok f) none e)

-- ---- the plan

cond_ok : {T E : Type 0} (t : Bool) (x : E) (other : Result T E) (p : T) → cond t (Err x) other ≡ Ok p → other ≡ Ok p
cond_ok true x other p e = cc
cond_ok false x other p e = e

ok_cond : {T E : Type 0} (t : Bool) (x : E) (other : Result T E) (p : T) → cond t other (Err x) ≡ Ok p → other ≡ Ok p
ok_cond true x other p e = e
ok_cond false x other p e = cc

framed_extra : (size : BodySize) (extra : List Header) (k : KnownFields) (framed : Result Framing FramingError) (p : Plan) → plan_framed size extra k framed ≡ Ok p → extra ≡ p.extra
framed_extra size extra k (Err x) p e = cc
framed_extra size extra k (Ok framing) p e =
    let made : Result Plan WriteError = Ok (record { extra = extra; framing = framing; keep_alive = not k.close }) in
    let last : made ≡ Ok p = cond_ok (not (is_plain k)) Refusal.UnusualFraming made p (cond_ok (not (fits framing size)) Refusal.BodySize _ p e) in
    let same : record { extra = extra; framing = framing; keep_alive = not k.close } ≡ p = cc in
    ap (λ (q : Plan). q.extra) same

planned_extra : (c : Client) (method : List ℕ) (size : BodySize) (hs : List Header) (p : Plan) → request_plan c method size hs ≡ Ok p → framing_headers size hs ≡ p.extra
unfolding plan_fields
planned_extra c method size hs p e =
    let kind = method_kind method in
    let extra = framing_headers size hs in
    let k = known_fields (hs ++ extra) in
    let fields = ok_cond (awaits_head c.writing) Refusal.State (plan_fields kind size hs) p e in
    framed_extra size extra k (request_framing kind 1 k) p (ok_cond (eqb k.hosts 1) Refusal.Host (plan_framed size extra k (request_framing kind 1 k)) p fields)

is_planned : (r : Result Plan WriteError) (line : Bool) (hs : List Header) → plan_refusal r line hs ≡ None → (p : Plan) × (r ≡ Ok p)
is_planned (Ok p) line hs e = (p, refl)
is_planned (Err x) line hs e = cc

pub not_refused : (o : Option WriteError) (spare len : ℕ) (u : Unit {0}) → GivesOrRefuses {T = Unit {0}} o spare len (Ok u) → o ≡ None
not_refused None spare len u h = refl
not_refused (Some e) spare len u h = cc

-- what is not refused succeeds
pub never_refused : (o : Option WriteError) (e : WriteError) (r : Result Frame WriteError) → MatchOption o (IsOk r) (λ x. r ≡ Err x) → r ≡ Err e → o ≡ None → ⊥
never_refused None e (Ok f) h is none = cc
never_refused None e (Err x) h is none = cc
never_refused (Some x) e r h is none = cc

pub only_memory : (o : Option WriteError) (spare len : ℕ) (e : WriteError) → GivesOrRefuses {T = Unit {0}} o spare len (Err e) → o ≡ None → e ≡ Refusal.OutOfMemory
only_memory None spare len e h none = h.0
only_memory (Some x) spare len e h none = cc

-- ---- the text

unchunked_end : (f : Framing) (n : ℕ) → is_unchunked f ≡ true → end_text (encoder_after (encoder_for f) n) [] ≡ []
unfolding is_unchunked
unchunked_end Framed.NoBody n e = refl
unchunked_end (Framed.Length m) n e = refl
unchunked_end Framed.Chunked n e = cc
unchunked_end Framed.UntilClose n e = refl

post : method_kind (codes "POST") ≡ Method.Other
post = refl

abbrev pub POST : List ℕ
POST = codes "POST"

module _ (c : Client) (target : List ℕ) (n : ℕ) (hs : List Header) (o : AreOrdinary hs) (accepted : request_refusal c POST target (Known n) hs ≡ None) where
  plan : (p : Plan) × (request_plan c POST (Known n) hs ≡ Ok p)
  plan = is_planned (request_plan c POST (Known n) hs) _ hs accepted

  extra : plan.0.extra ≡ length_header n ∷ []
  extra = sym (planned_extra c POST (Known n) hs plan.0 plan.1) ∙ adds_length hs n o

  unchunked : is_unchunked plan.0.framing ≡ true
  unchunked =
      let framed = (request_plan_framed c POST (Known n) hs plan.0 plan.1).0 in
      asks_unchunked hs n plan.0.framing o (subst₂ (λ m x. request_framing m 1 (known_fields (hs ++ x)) ≡ Ok plan.0.framing) post extra framed)

  abbrev pub asking : Client
  asking = after_request c POST (Known n) hs

  abbrev pub sending : Client
  sending = with_writing asking (after_data (writing asking) n)

  abbrev text_at : Result Plan WriteError → List ℕ
  text_at r =
      let a = requesting c POST hs r in
      let b = with_writing a (after_data (writing a) n) in
      request_text POST target 1 (planned_headers r hs) ++ finish_text (writing b) []

  -- the head, and nothing after it
  pub says_head : planned_request c POST target (Known n) hs ++ finish_text (writing sending) [] ≡ request_text POST target 1 (hs ++ length_header n ∷ [])
  says_head =
      let p = plan.0 in
      let prefix = request_text POST target 1 (hs ++ p.extra) in
      ap text_at plan.1 ∙ ap (λ x. prefix ++ x) (unchunked_end p.framing n unchunked) ∙ append-nil prefix
      ∙ ap (λ x. request_text POST target 1 (hs ++ x)) extra

  no_upgrades : (known_fields (hs ++ plan.0.extra)).upgrade ≡ false
  unfolding known_fields
  no_upgrades = subst (λ x. (known_fields (hs ++ x)).upgrade ≡ false) (sym extra) (no_upgrade_either hs (length_header n ∷ []) o (length_is_no_upgrade n))

  pub has_asked : HasAsked c.limits (after_end sending)
  has_asked =
      let p = plan.0 in
      let k = known_fields (hs ++ p.extra) in
      let made : Client = requesting c POST hs (Ok p) in
      subst (λ r. HasAsked c.limits (after_end (with_writing (requesting c POST hs r) (after_data (writing (requesting c POST hs r)) n)))) (sym plan.1)
      (record { limited = refl; method = post; plain = ap (λ (b : Bool). b && k.connection_upgrade) no_upgrades; asked = refl })
