-- A request is read again as it was encoded, and what is read was encoded so.
use Rattle.std.proofs.Common.{◌≡◌, ℕ, ◌^◌, ◌<◌, Bool, true, false, ◌&&◌, not, cond, ltb, eqb, List, [], ◌∷◌, ◌++◌, length, Option, Some, None, refl, sym, ap, subst, ◌∙◌, arith, inl, inr}
use Rattle.std.specs.Prelude.{decimal}
use Rattle.std.specs.Option.{option_map, option_and_then}
use Rattle.std.proofs.lemmas.Bool.{ltb-true, lt-ltb, eqb-true}
use Rattle.gear_packets.specs.Frame.{request_magic, packet, Prefix, wrong_magic, too_large, unfinished, framed, prefix}
use Rattle.gear_packets.specs.Request.{Packet, can_do, cant_do, pre_sleep, grab_job, set_client_id, work_status, work_complete, work_fail, work_data, work_warning, kind_of, body_of, encoding, has_nul, IsHandle, IsProper, IsSent, cut, is_handle, number_of, with_name, without_body, with_handle, handle_and, with_bytes, work_status_of, with_numbers, request_of, request_in, first_request}
use Rattle.text_pieces.proofs.Cutting.{first_of_parts, parts_of_first}
use Rattle.text_pieces.proofs.Digits.{none_in_decimal, plain_decimal, plain_encoded}
use Rattle.gear_packets.proofs.Frames.{IsBytes, not_first, not_second, chosen, prefix_packet, prefix_encoded, whole_stays, whole_shrinks}

pub and_parts : (a b : Bool) → (a && b) ≡ true → (a ≡ true) × (b ≡ true)
and_parts true b h = (refl, h)
and_parts false b h = absurd cc

not_true : (a : Bool) → not a ≡ true → a ≡ false
not_true true h = absurd cc
not_true false h = refl

abbrev some : {A : Type 0} → A → Option A
some x = Some x

pub some_is : {A : Type 0} (x y : A) → Some x ≡ Some y → x ≡ y
some_is x y e = cc

pub mapped : {A B : Type 0} (f : A → B) (o : Option A) (y : B) → option_map f o ≡ Some y → (x : A) × (o ≡ Some x) × (f x ≡ y)
mapped f None y h = absurd cc
mapped f (Some x) y h = (x, refl, some_is _ _ h)

pub chained : {A B : Type 0} (f : A → Option B) (o : Option A) (y : B) → option_and_then f o ≡ Some y → (x : A) × (o ≡ Some x) × (f x ≡ Some y)
chained f None y h = absurd cc
chained f (Some x) y h = (x, refl, h)

-- ---- arguments

pub handle_tested : (bytes : List ℕ) → is_handle bytes ≡ true → IsHandle bytes
handle_tested bytes h =
    let a = and_parts (ltb 0 (length bytes) && ltb (length bytes) 64) (not (has_nul bytes)) h in
    let b = and_parts (ltb 0 (length bytes)) (ltb (length bytes) 64) a.0 in
    record { nonempty = ltb-true _ _ b.0; short = ltb-true _ _ b.1; no_nul = not_true _ a.1 }

pub test_handle : (bytes : List ℕ) → IsHandle bytes → is_handle bytes ≡ true
test_handle bytes h = rw (lt-ltb _ _ h.nonempty, lt-ltb _ _ h.short, h.no_nul) refl

number_found : (n : ℕ) → n < 2 ^ 32 → number_of (decimal n) ≡ Some n
unfolding number_of
number_found n low = plain_decimal (2 ^ 32) n low (omega arith)

number_is : (text : List ℕ) (n : ℕ) → number_of text ≡ Some n → (text ≡ decimal n) × (n < 2 ^ 32)
unfolding number_of
number_is text n h = plain_encoded (2 ^ 32) text n (omega arith) h

handle_and_found : (handle rest : List ℕ) → IsHandle handle → handle_and (handle ++ 0 ∷ rest) ≡ Some (handle, rest)
handle_and_found handle rest h = rw (first_of_parts 0 handle rest h.no_nul, test_handle handle h) refl

handle_and_is : (body : List ℕ) (p : List ℕ × List ℕ) → handle_and body ≡ Some p → (body ≡ p.0 ++ 0 ∷ p.1) × IsHandle p.0
handle_and_is body p h =
    let m = chained (λ (q : List ℕ × List ℕ). cond (is_handle q.0) (Some q) None) (cut body) p h in
    let t = not_second (is_handle m.0.0) (Some m.0) None (Some p) m.2 (λ e. cc) in
    subst (λ (q : List ℕ × List ℕ). (body ≡ q.0 ++ 0 ∷ q.1) × IsHandle q.0) (some_is m.0 p t.1) ((parts_of_first 0 body m.0 m.1).0, handle_tested m.0.0 t.0)

-- ---- packets

pub request_found : (p : Packet) → IsProper p → request_of (kind_of p) (body_of p) ≡ Some p
unfolding request_of
request_found (can_do name) h = rw h refl
request_found (cant_do name) h = rw h refl
request_found pre_sleep h = refl
request_found grab_job h = refl
request_found (set_client_id text) h = rw h refl
request_found (work_status handle part all) h =
    rw (handle_and_found handle (decimal part ++ 0 ∷ decimal all) h.0, first_of_parts 0 (decimal part) (decimal all) (none_in_decimal 0 part (omega (arith, h.1)) refl), number_found part h.1, number_found all h.2) refl
request_found (work_complete handle bytes) h = rw (handle_and_found handle bytes h) refl
request_found (work_fail handle) h = rw (test_handle handle h) refl
request_found (work_data handle bytes) h = rw (handle_and_found handle bytes h) refl
request_found (work_warning handle bytes) h = rw (handle_and_found handle bytes h) refl

pub record IsRequest (kind : ℕ) (body : List ℕ) (p : Packet) : Type 0 where
  pub kind_is : kind ≡ kind_of p
  pub body_is : body ≡ body_of p
  pub proper : IsProper p

named_is : (make : List ℕ → Packet) (kind : ℕ) (body : List ℕ) (p : Packet) → (has_nul body ≡ false → IsRequest kind body (make body)) → with_name make body ≡ Some p → IsRequest kind body p
named_is make kind body p f h =
    let t = not_first (has_nul body) None (Some (make body)) (Some p) h (λ e. cc) in
    subst (IsRequest kind body) (some_is (make body) p t.1) (f t.0)

without_is : (q : Packet) (kind : ℕ) (body : List ℕ) (p : Packet) → IsRequest kind [] q → without_body q body ≡ Some p → IsRequest kind body p
without_is q kind [] p f h = subst (IsRequest kind []) (some_is q p h) f
without_is q kind (b ∷ body) p f h = absurd cc

with_handle_is : (make : List ℕ → Packet) (kind : ℕ) (body : List ℕ) (p : Packet) → (IsHandle body → IsRequest kind body (make body)) → with_handle make body ≡ Some p → IsRequest kind body p
with_handle_is make kind body p f h =
    let t = not_second (is_handle body) (Some (make body)) None (Some p) h (λ e. cc) in
    subst (IsRequest kind body) (some_is (make body) p t.1) (f (handle_tested body t.0))

with_bytes_is : (make : List ℕ → List ℕ → Packet) (kind : ℕ) (body : List ℕ) (p : Packet) → ((handle bytes : List ℕ) → IsHandle handle → IsRequest kind (handle ++ 0 ∷ bytes) (make handle bytes)) → with_bytes make body ≡ Some p → IsRequest kind body p
with_bytes_is make kind body p f h =
    let m = mapped (λ (q : List ℕ × List ℕ). make q.0 q.1) (handle_and body) p h in
    let i = handle_and_is body m.0 m.1 in
    subst (IsRequest kind body) m.2 (subst (λ (x : List ℕ). IsRequest kind x (make m.0.0 m.0.1)) (sym i.0) (f m.0.0 m.0.1 i.1))

with_numbers_is : (kind : ℕ) (body : List ℕ) (p : Packet) → kind ≡ 12 → with_numbers body ≡ Some p → IsRequest kind body p
with_numbers_is kind body p k h =
    let a = chained (λ (q : List ℕ × List ℕ). option_and_then (work_status_of q.0) (cut q.1)) (handle_and body) p h in
    let i = handle_and_is body a.0 a.1 in
    let b = chained (work_status_of a.0.0) (cut a.0.1) p a.2 in
    let j = parts_of_first 0 a.0.1 b.0 b.1 in
    let c = chained (λ (part : ℕ). option_map (λ all. work_status a.0.0 part all) (number_of b.0.1)) (number_of b.0.0) p b.2 in
    let d = mapped (λ (all : ℕ). work_status a.0.0 c.0 all) (number_of b.0.1) p c.2 in
    let part = number_is b.0.0 c.0 c.1 in
    let all = number_is b.0.1 d.0 d.1 in
    let numbers : a.0.1 ≡ decimal c.0 ++ 0 ∷ decimal d.0 = j.0 ∙ ap (λ (x : List ℕ). x ++ 0 ∷ b.0.1) part.0 ∙ ap (λ (x : List ℕ). decimal c.0 ++ 0 ∷ x) all.0 in
    subst (IsRequest kind body) d.2 (record { kind_is = k; body_is = i.0 ∙ ap (λ (x : List ℕ). a.0.0 ++ 0 ∷ x) numbers; proper = (i.1, part.1, all.1) })

pub request_is : (kind : ℕ) (body : List ℕ) (p : Packet) → request_of kind body ≡ Some p → IsRequest kind body p
unfolding request_of
request_is kind body p h =
    elim (chosen (eqb kind 1) _ _ (Some p) h) [
      | inl a ↦ named_is can_do kind body p (λ n. record { kind_is = eqb-true _ _ a.0; body_is = refl; proper = n }) a.1
      | inr a ↦ elim (chosen (eqb kind 2) _ _ (Some p) a.1) [
        | inl b ↦ named_is cant_do kind body p (λ n. record { kind_is = eqb-true _ _ b.0; body_is = refl; proper = n }) b.1
        | inr b ↦ elim (chosen (eqb kind 4) _ _ (Some p) b.1) [
          | inl c ↦ without_is pre_sleep kind body p (record { kind_is = eqb-true _ _ c.0; body_is = refl; proper = tt }) c.1
          | inr c ↦ elim (chosen (eqb kind 12) _ _ (Some p) c.1) [
            | inl d ↦ with_numbers_is kind body p (eqb-true _ _ d.0) d.1
            | inr d ↦ elim (chosen (eqb kind 13) _ _ (Some p) d.1) [
              | inl e ↦ with_bytes_is work_complete kind body p (λ x y n. record { kind_is = eqb-true _ _ e.0; body_is = refl; proper = n }) e.1
              | inr e ↦ elim (chosen (eqb kind 14) _ _ (Some p) e.1) [
                | inl f ↦ with_handle_is work_fail kind body p (λ n. record { kind_is = eqb-true _ _ f.0; body_is = refl; proper = n }) f.1
                | inr f ↦ elim (chosen (eqb kind 22) _ _ (Some p) f.1) [
                  | inl i ↦ named_is set_client_id kind body p (λ n. record { kind_is = eqb-true _ _ i.0; body_is = refl; proper = n }) i.1
                  | inr i ↦ elim (chosen (eqb kind 28) _ _ (Some p) i.1) [
                    | inl j ↦ with_bytes_is work_data kind body p (λ x y n. record { kind_is = eqb-true _ _ j.0; body_is = refl; proper = n }) j.1
                    | inr j ↦ elim (chosen (eqb kind 29) _ _ (Some p) j.1) [
                      | inl k ↦ with_bytes_is work_warning kind body p (λ x y n. record { kind_is = eqb-true _ _ k.0; body_is = refl; proper = n }) k.1
                      | inr k ↦ elim (chosen (eqb kind 30) _ _ (Some p) k.1) [
                        | inl l ↦ without_is grab_job kind body p (record { kind_is = eqb-true _ _ l.0; body_is = refl; proper = tt }) l.1
                        | inr l ↦ absurd (let e = l.1 in cc)
                      ]
                    ]
                  ]
                ]
              ]
            ]
          ]
        ]
      ]
    ]

kind_low : (p : Packet) → kind_of p < 256 ^ 4
kind_low (can_do name) = omega arith
kind_low (cant_do name) = omega arith
kind_low pre_sleep = omega arith
kind_low grab_job = omega arith
kind_low (set_client_id text) = omega arith
kind_low (work_status handle part all) = omega arith
kind_low (work_complete handle bytes) = omega arith
kind_low (work_fail handle) = omega arith
kind_low (work_data handle bytes) = omega arith
kind_low (work_warning handle bytes) = omega arith

pub first_found : (p : Packet) (rest : List ℕ) → IsSent p → first_request (encoding p ++ rest) ≡ Some (p, rest)
unfolding first_request
first_found p rest h =
    let f = prefix_packet request_magic (kind_of p) (body_of p) rest refl (kind_low p) h.fits in
    rw (f, request_found p h.proper) refl

pub record IsFirst (bytes : List ℕ) (p : Packet) (rest : List ℕ) : Type 0 where
  pub parts : bytes ≡ encoding p ++ rest
  pub is_sent : IsSent p
  pub rest_bytes : IsBytes rest

in_prefix : (f : Prefix) (p : Packet) (rest : List ℕ) → request_in f ≡ Some (p, rest) → (kind : ℕ) × (body : List ℕ) × (f ≡ framed kind body rest) × (request_of kind body ≡ Some p)
in_prefix wrong_magic p rest h = absurd cc
in_prefix too_large p rest h = absurd cc
in_prefix unfinished p rest h = absurd cc
in_prefix (framed kind body after) p rest h =
    let m = mapped (λ (q : Packet). let r : Packet × List ℕ = (q, after) in r) (request_of kind body) (p, rest) h in
    let p_is : m.0 ≡ p = ap (λ (q : Packet × List ℕ). q.0) m.2 in
    let rest_is : after ≡ rest = ap (λ (q : Packet × List ℕ). q.1) m.2 in
    (kind, body, ap (framed kind body) rest_is, m.1 ∙ ap some p_is)

pub first_is : (bytes : List ℕ) (p : Packet) (rest : List ℕ) → IsBytes bytes → first_request bytes ≡ Some (p, rest) → IsFirst bytes p rest
unfolding first_request
first_is bytes p rest fits h =
    let f = in_prefix (prefix request_magic bytes) p rest h in
    let s = prefix_encoded request_magic bytes f.0 f.1 rest refl fits f.2 in
    let r = request_is f.0 f.1 p f.3 in
    record {
      parts = s.parts ∙ ap (λ (k : ℕ). packet request_magic k f.1 ++ rest) r.kind_is ∙ ap (λ (b : List ℕ). packet request_magic (kind_of p) b ++ rest) r.body_is;
      is_sent = record { proper = r.proper; fits = rw (← r.body_is) s.body_fits };
      rest_bytes = s.rest_bytes;
    }

pub first_stays : (bytes more : List ℕ) (p : Packet) (rest : List ℕ) → first_request bytes ≡ Some (p, rest) → first_request (bytes ++ more) ≡ Some (p, rest ++ more)
unfolding first_request
first_stays bytes more p rest h =
    let f = in_prefix (prefix request_magic bytes) p rest h in
    rw (whole_stays request_magic bytes more f.0 f.1 rest refl f.2, f.3) refl

pub first_shrinks : (bytes : List ℕ) (p : Packet) (rest : List ℕ) → first_request bytes ≡ Some (p, rest) → length rest < length bytes
unfolding first_request
first_shrinks bytes p rest h =
    let f = in_prefix (prefix request_magic bytes) p rest h in
    whole_shrinks request_magic bytes f.0 f.1 rest f.2

pub first_of_nothing : first_request [] ≡ None
unfolding first_request prefix
first_of_nothing = refl
