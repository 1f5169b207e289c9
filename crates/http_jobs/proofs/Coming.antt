-- A response, as it comes.
use Rattle.std.proofs.Common.{◌≡◌, ◌≢◌, ◌⊎◌, inl, inr, ℕ, ◌≤◌, ◌<◌, Bool, true, false, not, cond, eqb, ◌&&◌, ◌||◌, List, [], ◌∷◌, ◌++◌, drop, take, ◌-◌, length, length-drop, length-append, Option, Some, None, Result, Ok, sym, refl, ap, ◌∙◌, subst, subst₂, arith, append_assoc, IsTrue}
use Rattle.std.proofs.lemmas.Bool.{cond-true}
use Rattle.std.proofs.lemmas.Bool.Decides.{nat_tests}
use Rattle.std.proofs.lemmas.List.{append-nil, drop_all, take_all, length-take, length-map, nil_from_length}
use Rattle.std.proofs.lemmas.Grind.{common_steps}
use Rattle.httparse.specs.Grammar.{Field, ResponseHead, print_response, HasNoResponse, ReadsResponse, status_code}
use Rattle.httparse.specs.Spans.{span_bytes}
use Rattle.httparse.specs.declared.spans.Span.{Span}
use Rattle.httparse.specs.declared.spans.HeaderSpan.{HeaderSpan}
use Rattle.httparse.specs.declared.spans.ResponseSpans.{ResponseSpans}
use Rattle.httparse.proofs.GrammarLemmas.{ReadsResponse-append, response_unique}
use Rattle.http1.specs.declared.framing.Framing.{Framing}
use Rattle.http1.specs.declared.framing.Framing.TheVariants.{NoBody}
use Rattle.http1.specs.declared.framing.Framing.TheVariants as Framed
use Rattle.http1.specs.declared.conn.Writing.TheVariants as Writes
use Rattle.http1.specs.declared.framing.MethodKind.TheVariants as Method
use Rattle.http1.specs.declared.error.ReadError.{ReadError}
use Rattle.http1.specs.declared.conn.Limits.{Limits}
use Rattle.http1.specs.declared.conn.Event.{Event}
use Rattle.http1.specs.declared.conn.Event.TheVariants.{NeedMore, Head, Informational, Data, End, Paused, Upgraded, Closed}
use Rattle.http1.specs.declared.conn.Progress.{Progress}
use Rattle.http1.specs.declared.conn.Reading.{Reading}
use Rattle.http1.specs.declared.conn.Reading.TheVariants as Reads
use Rattle.http1.specs.declared.decode.Decoder.{Decoder}
use Rattle.http1.specs.declared.decode.Decoder.TheVariants as Decoding
use Rattle.http1.specs.declared.client.Client.{Client}
use Rattle.http1.specs.Framing.{has_no_body, response_framing}
use Rattle.http1.specs.declared.framing.FramingError.{FramingError}
use Rattle.http1.specs.Body.{Body, body_of, ReadsBody}
use Rattle.http1.specs.Decoder.{Completes, with_front, decoder_for, Runs, Starves, AwaitsTrailers}
use Rattle.http1.specs.Message.{known_of, Response, ReadsResponseMessage, AcceptsResponse}
use Rattle.http1.specs.Conn.{awaits_head, ReadsPiece, is_connect, is_until_close, keeps_alive}
use Rattle.http1.specs.Client.{is_interim, is_expected, TakesHead, ReadsFirst, ReadsHead, ReadsAt, after_head, reading_body, at_eof, RefusesAt, RefusesFirst, HasNoHead, cut_short, closed_client, after_piece, is_written, IsIdle}
use Rattle.http1.proofs.OneParse.{body_from_completes, completes_from_body}
use Rattle.http_jobs.specs.Response.{Answers, Begins, ReadsOne, ReadsInterims, HasFewFields, HoldsNoAnswer, NeverAnswers, OnlyLarger, most_fields, is_unserved, runs_to_close}
use Rattle.http_jobs.specs.Reasons.{HasStatus}
use Rattle.http_jobs.specs.declared.reader.ResponseReader.{ResponseReader}
use Rattle.http_jobs.specs.Reading.{HasAsked, IsPartway, left_of, AwaitsHead, InBody, PartwayAt, Partway, IsWhole, Wants, WantsIn, WantsAt, is_unbounded}

-- one response more
one_more : (limits : Limits) (s : List ℕ) (xs : List Response) (mid : List ℕ) (m : Response) (rest : List ℕ) → ReadsInterims limits s xs mid → IsTrue (is_interim (status_code m.head)) → ReadsOne limits mid m rest → ReadsInterims limits s (xs ++ m ∷ []) rest
one_more limits s [] mid m rest h i r = (rest, i, subst (λ x. ReadsOne limits x m rest) (sym h) r, refl)
one_more limits s (x ∷ xs) mid m rest h i r = (h.0, h.1, h.2, one_more limits h.0 xs mid m rest h.3 i r)

-- ---- what comes after

later : (read left piece : List ℕ) (limits : Limits) (xs : List Response) → ((more : List ℕ) → ReadsInterims limits (read ++ more) xs (left ++ more)) → (more : List ℕ) → ReadsInterims limits ((read ++ piece) ++ more) xs ((left ++ piece) ++ more)
later read left piece limits xs h more =
    subst₂ (λ x y. ReadsInterims limits x xs y) (sym (append_assoc read piece more)) (sym (append_assoc left piece more)) (h (piece ++ more))

more_at : (r : Reading) (limits : Limits) (read : List ℕ) (c : Client) (left : List ℕ) (status : Option ℕ) (body piece : List ℕ) → PartwayAt r limits read c left status body → PartwayAt r limits (read ++ piece) c (left ++ piece) status body
more_at Reads.Head limits read c left status body piece h = record {
  asked = h.asked;
  interims = h.interims;
  before = later read left piece limits h.interims h.before;
  only = λ more m rest a.
      subst (λ x. Answers limits x m rest) (sym (append_assoc left piece more)) (h.only (piece ++ more) m rest (subst (λ x. Answers limits x m rest) (append_assoc read piece more) a));
  bare = h.bare;
}
more_at (Reads.Body d) limits read c left status body piece h = record {
  head = h.head;
  is = h.is;
  served = h.served;
  ends = h.ends;
  keeps = h.keeps;
  completes = λ more later rest few comes.
      subst (λ x. Answers limits x (record { head = h.head; body = with_front body later }) rest) (sym (append_assoc read piece more))
      (h.completes (piece ++ more) later rest few (subst (λ x. Completes d x later rest) (append_assoc left piece more) comes));
  only = λ more m rest a.
      let o = h.only (piece ++ more) m rest (subst (λ x. Answers limits x m rest) (append_assoc read piece more) a) in
      (o.0, o.1, subst (λ x. Completes d x o.0 rest) (sym (append_assoc left piece more)) o.2);
}
more_at Reads.Done limits read c left status body piece h = absurd h
more_at Reads.Upgraded limits read c left status body piece h = absurd h
more_at Reads.Closed limits read c left status body piece h = absurd h
more_at (Reads.Failed e) limits read c left status body piece h = absurd h

pub more_comes : (limits : Limits) (read : List ℕ) (c : Client) (left : List ℕ) (status : Option ℕ) (body piece : List ℕ) → Partway limits read c left status body → Partway limits (read ++ piece) c (left ++ piece) status body
more_comes limits read c left status body piece h = more_at c.reading limits read c left status body piece h

-- ---- heads

at_least : (status : ℕ) → 200 ≤ status → is_interim status ≡ false
at_least status high = grind (arith, nat_tests)

module _ (limits : Limits) (read input : List ℕ) (old new : Client) (spans : List HeaderSpan) (len : ℕ) (r : ResponseSpans) (t : TakesHead old input spans new len r) (asked : HasAsked limits old) where
  abbrev later_head : List ℕ → List ℕ
  later_head more = drop len input ++ more

  -- the head with a body after it
  with_body : (more : List ℕ) (body : Body) (after : List ℕ) → ReadsBody limits t.framing (later_head more) body after → ReadsResponseMessage limits Method.Other (input ++ more) (record { head = t.head; body = body }) after
  with_body more body after reads =
      let first : ReadsResponseMessage old.limits old.method (input ++ more) (record { head = t.head; body = body }) after = record {
        framing = t.framing;
        after_head = later_head more;
        head = record { reads = ReadsResponse-append input t.head _ more t.accepts.reads; strict = t.accepts.strict; status = t.accepts.status; framed = t.accepts.framed };
        body = subst (λ l. ReadsBody l t.framing (later_head more) body after) (sym asked.limited) reads;
      } in
      subst₂ (λ l m. ReadsResponseMessage l m (input ++ more) (record { head = t.head; body = body }) after) asked.limited asked.method first

  framed : response_framing Method.Other (status_code t.head) t.head.minor (known_of t.head.fields) ≡ Ok t.framing
  framed = subst (λ m. response_framing m (status_code t.head) t.head.minor (known_of t.head.fields) ≡ Ok t.framing) asked.method t.accepts.framed

  few_fields : length spans ≡ most_fields → length t.head.fields ≤ most_fields
  few_fields room =
      let same = ap length t.covered.fields in
      omega (arith, simp (length-map, length-take) at same, room)

  -- a response at the start has this head, this framing and this body after it
  same_prefix : (more : List ℕ) (m : Response) (rest : List ℕ) → ReadsResponseMessage limits Method.Other (input ++ more) m rest → (m.head ≡ t.head) × ReadsBody limits t.framing (later_head more) m.body rest
  same_prefix more m rest x =
      let both = response_unique (input ++ more) m.head t.head x.after_head (later_head more) x.head.reads (ReadsResponse-append input t.head _ more t.accepts.reads) in
      let one : Result Framing FramingError = Ok x.framing in
      let two : Result Framing FramingError = Ok t.framing in
      let same : one ≡ two = sym x.head.framed ∙ ap (λ (h : ResponseHead). response_framing Method.Other (status_code h) h.minor (known_of h.fields)) both.0 ∙ framed in
      let framing : x.framing ≡ t.framing = cc in
      (both.0, subst₂ (λ f s. ReadsBody limits f s m.body rest) framing both.1 x.body)

interim_has_no_body : (status : ℕ) → 100 ≤ status → is_interim status ≡ true → has_no_body Method.Other status ≡ true
interim_has_no_body status low high = grind (arith, nat_tests)

-- tests
choose : {X : Type 0} (x y z : X) (s l : Bool) → s ≡ false → l ≡ true → cond s x (cond l y z) ≡ y
choose x y z true l e f = cc
choose x y z false true e f = refl
choose x y z false false e f = cc

choose_last : {X : Type 0} (x y z : X) (s l : Bool) → s ≡ false → l ≡ false → cond s x (cond l y z) ≡ z
choose_last x y z true l e f = cc
choose_last x y z false true e f = cc
choose_last x y z false false e f = refl

neither : (a b x : Bool) → a ≡ false → b ≡ false → (a || (b && x)) ≡ false
neither true b x e f = cc
neither false true x e f = cc
neither false false x e f = refl

both : (a b : Bool) → (a && not b) ≡ true → (a ≡ true) × (b ≡ false)
both true false e = (refl, refl)
both true true e = cc
both false b e = cc

first_fails : (a b : Bool) → (a && not b) ≡ false → b ≡ false → a ≡ false
first_fails true false e f = cc
first_fails true true e f = cc
first_fails false b e f = refl

unless : (b w : Bool) → (not b || w) ≡ true → w ≡ false → b ≡ false
unless true true e f = cc
unless true false e f = cc
unless false w e f = refl

interim_goes_on : (c : Client) (h : ResponseHead) (framing : Framing) → c.method ≡ Method.Other → is_interim (status_code h) ≡ true → after_head c h framing ≡ c
interim_goes_on c h framing method interim =
    let tests = both _ _ interim in
    choose _ _ _ _ _ (neither _ _ _ tests.1 (ap is_connect method)) tests.0

-- what answers after an interim head
skips : (limits : Limits) (read input : List ℕ) (old new : Client) (spans : List HeaderSpan) (len : ℕ) (r : ResponseSpans) (t : TakesHead old input spans new len r) (asked : HasAsked limits old) → is_interim (status_code t.head) ≡ true → NoBody ≡ t.framing → (more : List ℕ) (m : Response) (rest : List ℕ) (xs : List Response) (after : List ℕ) → ReadsInterims limits (input ++ more) xs after → ReadsOne limits after m rest → 200 ≤ status_code m.head → Answers limits (drop len input ++ more) m rest
skips limits read input old new spans len r t asked low none more m rest [] after before reads final =
    let prefix = same_prefix limits read input old new spans len r t asked more m rest (subst (λ x. ReadsResponseMessage limits Method.Other x m rest) (sym before) reads.0) in
    let high : is_interim (status_code t.head) ≡ false = subst (λ (h : ResponseHead). is_interim (status_code h) ≡ false) prefix.0 (at_least (status_code m.head) final) in
    cc
skips limits read input old new spans len r t asked low none more m rest (x ∷ xs) after before reads final =
    let prefix = same_prefix limits read input old new spans len r t asked more x before.0 before.2.0 in
    let sized : ReadsBody limits NoBody (drop len input ++ more) x.body before.0 = subst (λ f. ReadsBody limits f (drop len input ++ more) x.body before.0) (sym none) prefix.1 in
    let empty : drop len input ++ more ≡ before.0 = sized.1 ∙ ap (λ (b : List ℕ). b ++ before.0) (nil_from_length x.body.bytes sized.0) in
    record { interims = xs; after = after; before = subst (λ s. ReadsInterims limits s xs after) (sym empty) before.3; reads = reads; final = final }

interim_at : (r : Reading) (limits : Limits) (read input : List ℕ) (old new : Client) (spans : List HeaderSpan) (len : ℕ) (head : ResponseSpans) (status : Option ℕ) (body : List ℕ) → length spans ≡ most_fields → old.reading ≡ r → ReadsAt r old input spans new (record { consumed = len; event = Informational head }) → PartwayAt r limits read old input status body → Partway limits read new (drop len input) status body
interim_at Reads.Head limits read input old new spans len head status body room is found h =
    let at : ReadsHead old input spans new len (Informational head) = subst (λ b. ReadsFirst b old input spans new (record { consumed = len; event = Informational head })) h.asked.asked found in
    let t = at.1 in
    let low : is_interim (status_code t.head) ≡ true = subst (λ x. is_interim x ≡ true) t.covered.code at.0 in
    let same : new ≡ old = t.next ∙ interim_goes_on old t.head t.framing h.asked.method low in
    let none : NoBody ≡ t.framing = cc (sym (cond-true _ _ _ (subst (λ m. has_no_body m (status_code t.head) ≡ true) (sym h.asked.method) (interim_has_no_body (status_code t.head) t.accepts.status low))) ∙ t.accepts.framed) in
    let m : Response = record { head = t.head; body = body_of [] [] } in
    let few : HasFewFields m = (few_fields limits read input old new spans len head t h.asked room, omega arith) in
    let waits : AwaitsHead limits read old (drop len input) status body = record {
      asked = h.asked;
      interims = h.interims ++ m ∷ [];
      before = λ more. one_more limits (read ++ more) h.interims (input ++ more) m (drop len input ++ more) (h.before more) low (
        with_body limits read input old new spans len head t h.asked more (body_of [] []) (drop len input ++ more)
            (subst (λ f. ReadsBody limits f (drop len input ++ more) (body_of [] []) (drop len input ++ more)) none (refl, refl, refl)),
        few,
      );
      only = λ more x rest a.
          let a2 = h.only more x rest a in
          skips limits read input old new spans len head t h.asked low none more x rest a2.interims a2.after a2.before a2.reads a2.final;
      bare = h.bare;
    } in
    subst (λ c. Partway limits read c (drop len input) status body) (sym same) (subst (λ x. PartwayAt x limits read old (drop len input) status body) (sym is) waits)
interim_at (Reads.Body d) limits read input old new spans len head status body room is found h = absurd found.1
interim_at Reads.Done limits read input old new spans len head status body room is found h = absurd h
interim_at Reads.Upgraded limits read input old new spans len head status body room is found h = absurd h
interim_at Reads.Closed limits read input old new spans len head status body room is found h = absurd h
interim_at (Reads.Failed e) limits read input old new spans len head status body room is found h = absurd h

final_is : (c : Client) (h : ResponseHead) (framing : Framing) → c.method ≡ Method.Other → c.wants_upgrade ≡ false → IsTrue (is_expected c (status_code h)) → is_interim (status_code h) ≡ false → after_head c h framing ≡ reading_body c h.minor (known_of h.fields) framing
final_is c h framing method plain expected final =
    let not_101 = unless _ _ expected plain in
    choose_last _ _ _ _ _ (neither _ _ _ not_101 (ap is_connect method)) (first_fails _ _ final not_101)

unbounded_decoder : (limits : Limits) (f : Framing) → is_unbounded (decoder_for limits f) ≡ is_until_close f
unbounded_decoder limits Framed.NoBody = refl
unbounded_decoder limits (Framed.Length n) = refl
unbounded_decoder limits Framed.Chunked = refl
unbounded_decoder limits Framed.UntilClose = refl

middle : (a b c : Bool) → (a && (b && c)) ≡ true → b ≡ true
middle true true c e = refl
middle true false c e = cc
middle false b c e = cc

-- what answers has the final head first
takes : (limits : Limits) (read input : List ℕ) (old new : Client) (spans : List HeaderSpan) (len : ℕ) (r : ResponseSpans) (t : TakesHead old input spans new len r) (asked : HasAsked limits old) → is_interim (status_code t.head) ≡ false → (more : List ℕ) (m : Response) (rest : List ℕ) (xs : List Response) (after : List ℕ) → ReadsInterims limits (input ++ more) xs after → ReadsOne limits after m rest → ReadsBody limits t.framing (drop len input ++ more) m.body rest
takes limits read input old new spans len r t asked high more m rest [] after before reads =
    (same_prefix limits read input old new spans len r t asked more m rest (subst (λ x. ReadsResponseMessage limits Method.Other x m rest) (sym before) reads.0)).1
takes limits read input old new spans len r t asked high more m rest (x ∷ xs) after before reads =
    let prefix = same_prefix limits read input old new spans len r t asked more x before.0 before.2.0 in
    let low : is_interim (status_code t.head) ≡ true = subst (λ (h : ResponseHead). is_interim (status_code h) ≡ true) prefix.0 before.1 in
    cc

high_enough : (c : Client) (status : ℕ) → c.wants_upgrade ≡ false → IsTrue (is_expected c status) → is_interim status ≡ false → 200 ≤ status
high_enough c status plain expected final =
    let not_101 = unless _ _ expected plain in
    let high = first_fails _ _ final not_101 in
    grind (arith, nat_tests, high)

final_at : (r : Reading) (limits : Limits) (read input : List ℕ) (old new : Client) (spans : List HeaderSpan) (len : ℕ) (head : ResponseSpans) (status : Option ℕ) (body : List ℕ) → length spans ≡ most_fields → is_unserved head.code ≡ false → ReadsAt r old input spans new (record { consumed = len; event = Head head }) → PartwayAt r limits read old input status body → Partway limits read new (drop len input) (Some head.code) body
final_at Reads.Head limits read input old new spans len head status body room served found h =
    let at : ReadsHead old input spans new len (Head head) = subst (λ b. ReadsFirst b old input spans new (record { consumed = len; event = Head head })) h.asked.asked found in
    let t = at.1 in
    let final : is_interim (status_code t.head) ≡ false = subst (λ x. is_interim x ≡ false) t.covered.code at.0 in
    let next : new ≡ reading_body old t.head.minor (known_of t.head.fields) t.framing = t.next ∙ final_is old t.head t.framing h.asked.method h.asked.plain t.expected final in
    let starts : new.reading ≡ Reads.Body (decoder_for limits t.framing) = ap (λ (c : Client). c.reading) next ∙ ap (λ l. Reads.Body (decoder_for l t.framing)) h.asked.limited in
    let few = few_fields limits read input old new spans len head t h.asked room in
    let inside : InBody limits read (decoder_for limits t.framing) new (drop len input) (Some head.code) body = record {
      head = t.head;
      is = ap Some t.covered.code;
      served = subst (λ x. is_unserved x ≡ false) t.covered.code served;
      ends = unbounded_decoder limits t.framing ∙ sym (ap runs_to_close (framed limits read input old new spans len head t h.asked));
      keeps = λ kept. middle old.keep_alive (keeps_alive t.head.minor (known_of t.head.fields)) (not (is_until_close t.framing)) (sym (ap (λ (c : Client). c.keep_alive) next) ∙ kept);
      completes = λ more later rest trailers comes. record {
        interims = h.interims;
        after = input ++ more;
        before = h.before more;
        reads = subst (λ (b : List ℕ). ReadsOne limits (input ++ more) (record { head = t.head; body = with_front b later }) rest) (sym h.bare)
            (with_body limits read input old new spans len head t h.asked more later rest (body_from_completes limits t.framing _ later rest comes), (few, trailers));
        final = high_enough old (status_code t.head) h.asked.plain t.expected final;
      };
      only = λ more m rest a.
          let a2 = h.only more m rest a in
          let body_is = takes limits read input old new spans len head t h.asked final more m rest a2.interims a2.after a2.before a2.reads in
          (m.body, ap (λ (b : List ℕ). with_front b m.body) (sym h.bare), completes_from_body limits t.framing _ m.body rest body_is);
    } in
    subst (λ x. PartwayAt x limits read new (drop len input) (Some head.code) body) (sym starts) inside
final_at (Reads.Body d) limits read input old new spans len head status body room served found h = absurd found.1
final_at Reads.Done limits read input old new spans len head status body room served found h = absurd h
final_at Reads.Upgraded limits read input old new spans len head status body room served found h = absurd h
final_at Reads.Closed limits read input old new spans len head status body room served found h = absurd h
final_at (Reads.Failed e) limits read input old new spans len head status body room served found h = absurd h

-- a head whose status answers no job
status_at : (r : Reading) (limits : Limits) (read input : List ℕ) (old new : Client) (spans : List HeaderSpan) (len : ℕ) (head : ResponseSpans) (status : Option ℕ) (body : List ℕ) → is_unserved head.code ≡ true → ReadsAt r old input spans new (record { consumed = len; event = Head head }) → PartwayAt r limits read old input status body → HasStatus limits read head.code
status_at Reads.Head limits read input old new spans len head status body unserved found h =
    let at : ReadsHead old input spans new len (Head head) = subst (λ b. ReadsFirst b old input spans new (record { consumed = len; event = Head head })) h.asked.asked found in
    let t = at.1 in
    let final : is_interim (status_code t.head) ≡ false = subst (λ x. is_interim x ≡ false) t.covered.code at.0 in
    let begins : Begins limits read t.head = record {
      interims = h.interims;
      after = input;
      framing = t.framing;
      rest = drop len input;
      before = subst₂ (λ x y. ReadsInterims limits x h.interims y) (append-nil read) (append-nil input) (h.before []);
      accepts = subst₂ (λ l m. AcceptsResponse l m input t.head t.framing (drop len input)) h.asked.limited h.asked.method t.accepts;
      final = high_enough old (status_code t.head) h.asked.plain t.expected final;
    } in
    (t.head, begins, sym t.covered.code, unserved)
status_at (Reads.Body d) limits read input old new spans len head status body unserved found h = absurd found.1
status_at Reads.Done limits read input old new spans len head status body unserved found h = absurd h
status_at Reads.Upgraded limits read input old new spans len head status body unserved found h = absurd h
status_at Reads.Closed limits read input old new spans len head status body unserved found h = absurd h
status_at (Reads.Failed e) limits read input old new spans len head status body unserved found h = absurd h

-- ---- the body

same_bound : (d : Decoder) (input : List ℕ) (next : Decoder) (len : ℕ) (piece : List ℕ) → Runs d input next len piece → is_unbounded next ≡ is_unbounded d
same_bound (Decoding.Length left) input next len piece r = ap is_unbounded r
same_bound (Decoding.Chunked chunks max) input next len piece r = ap is_unbounded r.1
same_bound Decoding.UntilClose input next len piece r = ap is_unbounded r

data_at : (r : Reading) (limits : Limits) (read input : List ℕ) (old new : Client) (spans : List HeaderSpan) (len : ℕ) (s : Span) (status : Option ℕ) (body : List ℕ) → ReadsAt r old input spans new (record { consumed = len; event = Data s }) → PartwayAt r limits read old input status body → Partway limits read new (drop len input) status (body ++ span_bytes input s)
data_at Reads.Head limits read input old new spans len s status body found h =
    let at : ReadsHead old input spans new len (Data s) = subst (λ b. ReadsFirst b old input spans new (record { consumed = len; event = Data s })) h.asked.asked found in
    absurd at
data_at (Reads.Body d) limits read input old new spans len s status body found h =
    let next = found.1.0 in
    let goes = found.1.4 in
    let piece = span_bytes input s in
    let moved : new ≡ after_piece old (Reads.Body next) = found.2 ∙ ap (after_piece old) found.1.1 in
    let same : new.reading ≡ Reads.Body next = ap (λ (c : Client). c.reading) moved in
    let inside : InBody limits read next new (drop len input) status (body ++ piece) = record {
      head = h.head;
      is = h.is;
      served = h.served;
      ends = same_bound d input next s.end piece goes.runs ∙ h.ends;
      keeps = λ kept. h.keeps (sym (ap (λ (c : Client). c.keep_alive) moved) ∙ kept);
      completes = λ more later rest few comes.
          subst (λ (b : List ℕ). Answers limits (read ++ more) (record { head = h.head; body = record later { bytes = b } }) rest) (sym (append_assoc body piece later.bytes))
          (h.completes more (with_front piece later) rest few (goes.back more later rest (subst (λ n. Completes next (drop n input ++ more) later rest) found.1.2 comes)));
      only = λ more m rest a.
          let o = h.only more m rest a in
          let f = goes.forth more o.0 rest o.2 in
          (f.0, o.1 ∙ ap (with_front body) f.1 ∙ ap (λ (b : List ℕ). record (f.0) { bytes = b }) (sym (append_assoc body piece f.0.bytes)), subst (λ n. Completes next (drop n input ++ more) f.0 rest) (sym found.1.2) f.2);
    } in
    subst (λ x. PartwayAt x limits read new (drop len input) status (body ++ piece)) (sym same) inside
data_at Reads.Done limits read input old new spans len s status body found h = absurd h
data_at Reads.Upgraded limits read input old new spans len s status body found h = absurd h
data_at Reads.Closed limits read input old new spans len s status body found h = absurd h
data_at (Reads.Failed e) limits read input old new spans len s status body found h = absurd h

wants_at : (r : Reading) (limits : Limits) (read input : List ℕ) (old new : Client) (spans : List HeaderSpan) (len : ℕ) (status : Option ℕ) (body : List ℕ) → old.reading ≡ r → ReadsAt r old input spans new (record { consumed = len; event = NeedMore }) → PartwayAt r limits read old input status body → Partway limits read new (drop len input) status body
wants_at Reads.Head limits read input old new spans len status body is found h =
    let at : ReadsHead old input spans new len NeedMore = subst (λ b. ReadsFirst b old input spans new (record { consumed = len; event = NeedMore })) h.asked.asked found in
    subst₂ (λ c n. Partway limits read c (drop n input) status body) (sym at.1) (sym at.0) (subst (λ x. PartwayAt x limits read old input status body) (sym is) h)
wants_at (Reads.Body d) limits read input old new spans len status body is found h =
    let next = found.1.0 in
    let goes = found.1.2.continues in
    let moved : new ≡ after_piece old (Reads.Body next) = found.2 ∙ ap (after_piece old) found.1.1 in
    let same : new.reading ≡ Reads.Body next = ap (λ (c : Client). c.reading) moved in
    let inside : InBody limits read next new (drop len input) status body = record {
      head = h.head;
      is = h.is;
      served = h.served;
      ends = same_bound d input next len [] goes.runs ∙ h.ends;
      keeps = λ kept. h.keeps (sym (ap (λ (c : Client). c.keep_alive) moved) ∙ kept);
      completes = λ more later rest few comes. h.completes more later rest few (goes.back more later rest comes);
      only = λ more m rest a.
          let o = h.only more m rest a in
          let f = goes.forth more o.0 rest o.2 in
          (f.0, o.1 ∙ ap (with_front body) f.1, f.2);
    } in
    subst (λ x. PartwayAt x limits read new (drop len input) status body) (sym same) inside
wants_at Reads.Done limits read input old new spans len status body is found h = absurd h
wants_at Reads.Upgraded limits read input old new spans len status body is found h = absurd h
wants_at Reads.Closed limits read input old new spans len status body is found h = absurd h
wants_at (Reads.Failed e) limits read input old new spans len status body is found h = absurd h

pub wants_more : (limits : Limits) (read input : List ℕ) (old new : Client) (spans : List HeaderSpan) (p : Progress ResponseSpans) (status : Option ℕ) (body : List ℕ) → p.event ≡ NeedMore → ReadsAt old.reading old input spans new p → Partway limits read old input status body → Partway limits read new (drop p.consumed input) status body
wants_more limits read input old new spans p status body is found h =
    wants_at old.reading limits read input old new spans p.consumed status body refl (subst (λ e. ReadsAt old.reading old input spans new (record { consumed = p.consumed; event = e })) is found) h

-- ---- nothing whole was read

first_is_response : (limits : Limits) (input : List ℕ) (m : Response) (rest : List ℕ) (xs : List Response) (after : List ℕ) → HasNoResponse input → ReadsInterims limits input xs after → ReadsOne limits after m rest → ⊥
first_is_response limits input m rest [] after none before reads = none m.head reads.0.after_head (subst (λ s. ReadsResponse s m.head reads.0.after_head) (sym before) reads.0.head.reads)
first_is_response limits input m rest (x ∷ xs) after none before reads = none x.head before.2.0.after_head before.2.0.head.reads

no_head_yet : (limits : Limits) (read input : List ℕ) (c : Client) (status : Option ℕ) (body : List ℕ) → HasNoResponse input → AwaitsHead limits read c input status body → HoldsNoAnswer limits read
no_head_yet limits read input c status body none h = λ m rest a.
    let there = h.only [] m rest (subst (λ x. Answers limits x m rest) (sym (append-nil read)) a) in
    let here : Answers limits input m rest = subst (λ x. Answers limits x m rest) (append-nil input) there in
    first_is_response limits input m rest here.interims here.after none here.before here.reads

no_body_yet : (limits : Limits) (read input : List ℕ) (d : Decoder) (c : Client) (status : Option ℕ) (body : List ℕ) → ((later : Body) (rest : List ℕ) → ¬ (Completes d input later rest)) → InBody limits read d c input status body → HoldsNoAnswer limits read
no_body_yet limits read input d c status body none h = λ m rest a.
    let o = h.only [] m rest (subst (λ x. Answers limits x m rest) (sym (append-nil read)) a) in
    none o.0 rest (subst (λ x. Completes d x o.0 rest) (append-nil input) o.2)

nothing_left : (new : Decoder) (input : List ℕ) (len : ℕ) → new ≡ Decoding.UntilClose → (len ≡ length input) ⊎ AwaitsTrailers new (length (drop len input)) → drop len input ≡ []
nothing_left new input len is (inl all) = drop_all len input (omega (arith, all))
nothing_left new input len is (inr waits) = absurd (subst (λ d. AwaitsTrailers d (length (drop len input))) is waits)

starves_in : (d : Decoder) (limits : Limits) (read input : List ℕ) (c : Client) (next : Decoder) (len : ℕ) (status : Option ℕ) (body : List ℕ) → Starves d input next len → InBody limits read d c input status body → WantsIn next limits read (drop len input)
starves_in (Decoding.Length left) limits read input c next len status body s h =
    let none : HoldsNoAnswer limits read = no_body_yet limits read input (Decoding.Length left) c status body (s.unfinished (λ e. cc)) h in
    subst (λ d. WantsIn d limits read (drop len input)) (sym s.continues.runs) none
starves_in (Decoding.Chunked chunks max) limits read input c next len status body s h =
    let none : HoldsNoAnswer limits read = no_body_yet limits read input (Decoding.Chunked chunks max) c status body (s.unfinished (λ e. cc)) h in
    subst (λ d. WantsIn d limits read (drop len input)) (sym s.continues.runs.1) none
starves_in Decoding.UntilClose limits read input c next len status body s h =
    subst (λ d. WantsIn d limits read (drop len input)) (sym s.continues.runs) (nothing_left next input len s.continues.runs s.drained)

nothing_at : (r : Reading) (limits : Limits) (read input : List ℕ) (old new : Client) (spans : List HeaderSpan) (len : ℕ) (status : Option ℕ) (body : List ℕ) → old.reading ≡ r → ReadsAt r old input spans new (record { consumed = len; event = NeedMore }) → PartwayAt r limits read old input status body → WantsAt new.reading limits read (drop len input)
nothing_at Reads.Head limits read input old new spans len status body is found h =
    let at : ReadsHead old input spans new len NeedMore = subst (λ b. ReadsFirst b old input spans new (record { consumed = len; event = NeedMore })) h.asked.asked found in
    let none : HoldsNoAnswer limits read = no_head_yet limits read input old status body at.2 h in
    let same : new.reading ≡ Reads.Head = ap (λ (c : Client). c.reading) at.1 ∙ is in
    subst (λ x. WantsAt x limits read (drop len input)) (sym same) none
nothing_at (Reads.Body d) limits read input old new spans len status body is found h =
    let next = found.1.0 in
    let moved : new ≡ after_piece old (Reads.Body next) = found.2 ∙ ap (after_piece old) found.1.1 in
    let same : new.reading ≡ Reads.Body next = ap (λ (c : Client). c.reading) moved in
    subst (λ x. WantsAt x limits read (drop len input)) (sym same) (starves_in d limits read input old next len status body found.1.2 h)
nothing_at Reads.Done limits read input old new spans len status body is found h = absurd h
nothing_at Reads.Upgraded limits read input old new spans len status body is found h = absurd h
nothing_at Reads.Closed limits read input old new spans len status body is found h = absurd h
nothing_at (Reads.Failed e) limits read input old new spans len status body is found h = absurd h

pub nothing_whole : (limits : Limits) (read input : List ℕ) (old new : Client) (spans : List HeaderSpan) (p : Progress ResponseSpans) (status : Option ℕ) (body : List ℕ) → p.event ≡ NeedMore → ReadsAt old.reading old input spans new p → Partway limits read old input status body → WantsAt new.reading limits read (drop p.consumed input)
nothing_whole limits read input old new spans p status body is found h =
    nothing_at old.reading limits read input old new spans p.consumed status body refl (subst (λ e. ReadsAt old.reading old input spans new (record { consumed = p.consumed; event = e })) is found) h

-- ---- the end of the body

-- the body, and so the response, ends
ends_with : (limits : Limits) (read : List ℕ) (d : Decoder) (c now : Client) (left : List ℕ) (status : Option ℕ) (body : List ℕ) (h : InBody limits read d c left status body) (later : Body) (rest : List ℕ) (unbounded : Bool) → later.bytes ≡ [] → length later.trailers ≤ most_fields → Completes d (left ++ []) later rest → is_unbounded d ≡ unbounded → (unbounded ≡ false → IsIdle now → c.keep_alive ≡ true) → IsWhole limits read now rest status body unbounded
ends_with limits read d c now left status body h later rest unbounded none few comes bound kept = record {
  response = record { head = h.head; body = with_front body later };
  is = h.is;
  served = h.served;
  ends = sym h.ends ∙ bound;
  keeps = λ sized idle. h.keeps (kept sized idle);
  bytes = ap (λ (b : List ℕ). body ++ b) none ∙ append-nil body;
  answers = subst (λ x. Answers limits x (record { head = h.head; body = with_front body later }) rest) (append-nil read) (h.completes [] later rest few comes);
}

-- a client that is idle after a response has kept the connection
kept_if_idle : (kept written : Bool) (fresh closed : Client) → closed.writing ≡ Writes.Closed → IsIdle (cond (kept && written) fresh closed) → kept ≡ true
kept_if_idle true written fresh closed e idle = refl
kept_if_idle false written fresh closed e idle = cc

bounded_end : (d : Decoder) (input : List ℕ) (trailers : List Field) (len : ℕ) → ((more : List ℕ) → Completes d (input ++ more) (body_of [] trailers) (drop len input ++ more)) → is_unbounded d ≡ false
bounded_end (Decoding.Length left) input trailers len completes = refl
bounded_end (Decoding.Chunked chunks max) input trailers len completes = refl
bounded_end Decoding.UntilClose input trailers len completes =
    let one : List ℕ = 0 ∷ [] in
    let same = ap length (completes one).0 in
    absurd (omega (arith, same, length-append input one))

end_at : (r : Reading) (limits : Limits) (read input : List ℕ) (old new : Client) (spans : List HeaderSpan) (len count : ℕ) (status : Option ℕ) (body : List ℕ) → length spans ≡ most_fields → ReadsAt r old input spans new (record { consumed = len; event = End count }) → PartwayAt r limits read old input status body → IsWhole limits read new (drop len input) status body false
end_at Reads.Head limits read input old new spans len count status body room found h =
    let at : ReadsHead old input spans new len (End count) = subst (λ b. ReadsFirst b old input spans new (record { consumed = len; event = End count })) h.asked.asked found in
    absurd at
end_at (Reads.Body d) limits read input old new spans len count status body room found h =
    let ends = found.1.1 in
    let same = ap length ends.covered in
    let few : length ends.trailers ≤ most_fields = omega (arith, simp (length-map, length-take) at same, room) in
    let moved : new ≡ after_piece old Reads.Done = found.2 ∙ ap (after_piece old) found.1.0 in
    ends_with limits read d old new input status body h (body_of [] ends.trailers) (drop len input) false refl few
    (subst (λ x. Completes d (input ++ []) (body_of [] ends.trailers) x) (append-nil (drop len input)) (ends.completes []))
    (bounded_end d input ends.trailers len ends.completes)
    (λ sized idle. kept_if_idle old.keep_alive (is_written old.writing) _ _ refl (subst (λ (c : Client). IsIdle c) moved idle))
end_at Reads.Done limits read input old new spans len count status body room found h = absurd h
end_at Reads.Upgraded limits read input old new spans len count status body room found h = absurd h
end_at Reads.Closed limits read input old new spans len count status body room found h = absurd h
end_at (Reads.Failed e) limits read input old new spans len count status body room found h = absurd h

pub interim_comes : (limits : Limits) (read input : List ℕ) (old new : Client) (spans : List HeaderSpan) (read_off : Progress ResponseSpans) (head : ResponseSpans) (status : Option ℕ) (body : List ℕ) → length spans ≡ most_fields → read_off.event ≡ Informational head → ReadsAt old.reading old input spans new read_off → Partway limits read old input status body → Partway limits read new (drop read_off.consumed input) status body
interim_comes limits read input old new spans p head status body room is found h =
    interim_at old.reading limits read input old new spans p.consumed head status body room refl (subst (λ e. ReadsAt old.reading old input spans new (record { consumed = p.consumed; event = e })) is found) h

pub final_comes : (limits : Limits) (read input : List ℕ) (old new : Client) (spans : List HeaderSpan) (p : Progress ResponseSpans) (head : ResponseSpans) (status : Option ℕ) (body : List ℕ) → length spans ≡ most_fields → is_unserved head.code ≡ false → p.event ≡ Head head → ReadsAt old.reading old input spans new p → Partway limits read old input status body → Partway limits read new (drop p.consumed input) (Some head.code) body
final_comes limits read input old new spans p head status body room served is found h =
    final_at old.reading limits read input old new spans p.consumed head status body room served (subst (λ e. ReadsAt old.reading old input spans new (record { consumed = p.consumed; event = e })) is found) h

pub status_comes : (limits : Limits) (read input : List ℕ) (old new : Client) (spans : List HeaderSpan) (p : Progress ResponseSpans) (head : ResponseSpans) (status : Option ℕ) (body : List ℕ) → is_unserved head.code ≡ true → p.event ≡ Head head → ReadsAt old.reading old input spans new p → Partway limits read old input status body → HasStatus limits read head.code
status_comes limits read input old new spans p head status body unserved is found h =
    status_at old.reading limits read input old new spans p.consumed head status body unserved (subst (λ e. ReadsAt old.reading old input spans new (record { consumed = p.consumed; event = e })) is found) h

pub data_comes : (limits : Limits) (read input : List ℕ) (old new : Client) (spans : List HeaderSpan) (p : Progress ResponseSpans) (s : Span) (status : Option ℕ) (body : List ℕ) → p.event ≡ Data s → ReadsAt old.reading old input spans new p → Partway limits read old input status body → Partway limits read new (drop p.consumed input) status (body ++ span_bytes input s)
data_comes limits read input old new spans p s status body is found h =
    data_at old.reading limits read input old new spans p.consumed s status body (subst (λ e. ReadsAt old.reading old input spans new (record { consumed = p.consumed; event = e })) is found) h

pub end_comes : (limits : Limits) (read input : List ℕ) (old new : Client) (spans : List HeaderSpan) (p : Progress ResponseSpans) (count : ℕ) (status : Option ℕ) (body : List ℕ) → length spans ≡ most_fields → p.event ≡ End count → ReadsAt old.reading old input spans new p → Partway limits read old input status body → IsWhole limits read new (drop p.consumed input) status body false
end_comes limits read input old new spans p count status body room is found h =
    end_at old.reading limits read input old new spans p.consumed count status body room (subst (λ e. ReadsAt old.reading old input spans new (record { consumed = p.consumed; event = e })) is found) h

-- ---- the end of the link

closes_in : (d : Decoder) (limits : Limits) (read : List ℕ) (c now : Client) (left : List ℕ) (status : Option ℕ) (body : List ℕ) (count : ℕ) → (at_eof (Reads.Body d) c).0 ≡ Ok (End count) → WantsIn d limits read left → InBody limits read d c left status body → IsWhole limits read now left status body true
closes_in (Decoding.Length n) limits read c now left status body count e none h = cc
closes_in (Decoding.Chunked chunks max) limits read c now left status body count e none h = cc
closes_in Decoding.UntilClose limits read c now left status body count e none h =
    subst (λ x. IsWhole limits read now x status body true) (sym none)
    (ends_with limits read Decoding.UntilClose c now left status body h (body_of [] []) [] true refl (omega arith) (sym (ap (λ (x : List ℕ). x ++ []) none), refl, refl) refl (λ e _. cc))

closes_at : (r : Reading) (limits : Limits) (read : List ℕ) (c now : Client) (left : List ℕ) (status : Option ℕ) (body : List ℕ) (count : ℕ) → (at_eof r c).0 ≡ Ok (End count) → WantsAt r limits read left → PartwayAt r limits read c left status body → IsWhole limits read now left status body true
closes_at Reads.Head limits read c now left status body count e none h =
    let bad : (cut_short c).0 ≡ Ok (End count) = subst (λ (b : Bool). (cond b (Ok Closed, closed_client c) (cut_short c)).0 ≡ Ok (End count)) h.asked.asked e in
    cc
closes_at (Reads.Body d) limits read c now left status body count e none h = closes_in d limits read c now left status body count e none h
closes_at Reads.Done limits read c now left status body count e none h = absurd h
closes_at Reads.Upgraded limits read c now left status body count e none h = absurd h
closes_at Reads.Closed limits read c now left status body count e none h = absurd h
closes_at (Reads.Failed x) limits read c now left status body count e none h = absurd h

pub link_ends : (limits : Limits) (read : List ℕ) (c now : Client) (left : List ℕ) (status : Option ℕ) (body : List ℕ) (count : ℕ) → (at_eof c.reading c).0 ≡ Ok (End count) → WantsAt c.reading limits read left → Partway limits read c left status body → IsWhole limits read now left status body true
link_ends limits read c now left status body count e none h = closes_at c.reading limits read c now left status body count e none h

-- the end of the link ends no other body
cut_in : (d : Decoder) (limits : Limits) (read left : List ℕ) (c : Client) → ((count : ℕ) → (at_eof (Reads.Body d) c).0 ≢ Ok (End count)) → WantsIn d limits read left → HoldsNoAnswer limits read
cut_in (Decoding.Length n) limits read left c other none = none
cut_in (Decoding.Chunked chunks max) limits read left c other none = none
cut_in Decoding.UntilClose limits read left c other none = absurd (other 0 refl)

cut_at : (r : Reading) (limits : Limits) (read left : List ℕ) (c : Client) (status : Option ℕ) (body : List ℕ) → ((count : ℕ) → (at_eof r c).0 ≢ Ok (End count)) → WantsAt r limits read left → PartwayAt r limits read c left status body → HoldsNoAnswer limits read
cut_at Reads.Head limits read left c status body other none h = none
cut_at (Reads.Body d) limits read left c status body other none h = cut_in d limits read left c other none
cut_at Reads.Done limits read left c status body other none h = absurd h
cut_at Reads.Upgraded limits read left c status body other none h = absurd h
cut_at Reads.Closed limits read left c status body other none h = absurd h
cut_at (Reads.Failed x) limits read left c status body other none h = absurd h

pub link_cuts : (limits : Limits) (read left : List ℕ) (c : Client) (status : Option ℕ) (body : List ℕ) → ((count : ℕ) → (at_eof c.reading c).0 ≢ Ok (End count)) → WantsAt c.reading limits read left → Partway limits read c left status body → HoldsNoAnswer limits read
link_cuts limits read left c status body other none h = cut_at c.reading limits read left c status body other none h

pub drop_before : (n : ℕ) (xs ys : List ℕ) → n ≤ length xs → drop n (xs ++ ys) ≡ drop n xs ++ ys
drop_before n xs ys h = grind (arith, common_steps)

pub rest_of : (n : ℕ) (xs : List ℕ) → take (length xs - n) (drop n xs) ≡ drop n xs
rest_of n xs = take_all (length xs - n) (drop n xs) (omega (arith, length-drop n xs))

pub starts : (limits : Limits) (c : Client) → c.reading ≡ Reads.Head → HasAsked limits c → Partway limits [] c [] None []
starts limits c is asked =
    let waits : AwaitsHead limits [] c [] None [] = record { asked = asked; interims = []; before = λ more. refl; only = λ more m rest a. a; bare = refl } in
    subst (λ r. PartwayAt r limits [] c [] None []) (sym is) waits

pub starts_reader : (limits : Limits) (client : Client) (r : ResponseReader) → r.client ≡ client → r.unread.items ≡ [] → r.at ≡ 0 → r.status ≡ None → r.body.items ≡ [] → client.reading ≡ Reads.Head → HasAsked limits client → IsPartway limits [] r
starts_reader limits client r same unread at status body is asked =
    let left : left_of r ≡ [] = (λ i. drop (at i) (unread i)) in
    subst (λ (c : Client). Partway limits [] c (left_of r) r.status r.body.items) (sym same)
    (subst (λ (l : List ℕ). Partway limits [] client l r.status r.body.items) (sym left)
    (subst (λ (s : Option ℕ). Partway limits [] client [] s r.body.items) (sym status)
    (subst (λ (b : List ℕ). Partway limits [] client [] None b) (sym body) (starts limits client is asked))))

-- ---- what cannot become an answer

refused_from : (limits : Limits) (c : Client) (input : List ℕ) (room : ℕ) → HasAsked limits c → HasNoHead c input room → room ≡ most_fields → (more : List ℕ) (m : Response) (rest : List ℕ) → is_expected c (status_code m.head) ≡ true → ReadsOne limits (input ++ more) m rest → ⊥
refused_from limits c input room asked none is more m rest expected reads =
    let x = reads.0 in
    let accepts : AcceptsResponse c.limits c.method (input ++ more) m.head x.framing x.after_head = subst₂ (λ l k. AcceptsResponse l k (input ++ more) m.head x.framing x.after_head) (sym asked.limited) (sym asked.method) x.head in
    let many = none more m.head x.framing x.after_head accepts expected in
    omega (arith, many, reads.1.0, is)

expects_interim : (c : Client) (status : ℕ) → is_interim status ≡ true → is_expected c status ≡ true
expects_interim c status low = ap (λ (b : Bool). not b || c.wants_upgrade) (both _ _ low).1

expects_final : (c : Client) (status : ℕ) → 200 ≤ status → is_expected c status ≡ true
expects_final c status high =
    let not_101 : eqb status 101 ≡ false = grind (arith, nat_tests) in
    ap (λ (b : Bool). not b || c.wants_upgrade) not_101

refused_in : (limits : Limits) (c : Client) (input : List ℕ) (room : ℕ) → HasAsked limits c → HasNoHead c input room → room ≡ most_fields → (more : List ℕ) (m : Response) (rest : List ℕ) (xs : List Response) (after : List ℕ) → ReadsInterims limits (input ++ more) xs after → ReadsOne limits after m rest → 200 ≤ status_code m.head → ⊥
refused_in limits c input room asked none is more m rest [] after before reads final =
    refused_from limits c input room asked none is more m rest (expects_final c (status_code m.head) final) (subst (λ s. ReadsOne limits s m rest) (sym before) reads)
refused_in limits c input room asked none is more m rest (x ∷ xs) after before reads final =
    refused_from limits c input room asked none is more x before.0 (expects_interim c (status_code x.head) before.1) before.2

never_at : (r : Reading) (limits : Limits) (read input : List ℕ) (c : Client) (room : ℕ) (e : ReadError) (status : Option ℕ) (body : List ℕ) → room ≡ most_fields → RefusesAt r c input room e → PartwayAt r limits read c input status body → NeverAnswers limits read
never_at Reads.Head limits read input c room e status body is refuses h = λ more m rest a.
    let at : RefusesFirst false c input room e = subst (λ b. RefusesFirst b c input room e) h.asked.asked refuses in
    let a2 = h.only more m rest a in
    refused_in limits c input room h.asked at.0 is more m rest a2.interims a2.after a2.before a2.reads a2.final
never_at (Reads.Body d) limits read input c room e status body is refuses h = λ more m rest a.
    let o = h.only more m rest a in
    let many = refuses.0 more o.0 rest o.2 in
    let same : length m.body.trailers ≡ length o.0.trailers = ap (λ (b : Body). length b.trailers) o.1 in
    omega (arith, many, same, a.reads.1.1, is)
never_at Reads.Done limits read input c room e status body is refuses h = absurd h
never_at Reads.Upgraded limits read input c room e status body is refuses h = absurd h
never_at Reads.Closed limits read input c room e status body is refuses h = absurd h
never_at (Reads.Failed x) limits read input c room e status body is refuses h = absurd h

pub never_answers : (limits : Limits) (read input : List ℕ) (c : Client) (room : ℕ) (e : ReadError) (status : Option ℕ) (body : List ℕ) → room ≡ most_fields → RefusesAt c.reading c input room e → Partway limits read c input status body → NeverAnswers limits read
never_answers limits read input c room e status body is refuses h = never_at c.reading limits read input c room e status body is refuses h

larger_at : (r : Reading) (limits : Limits) (read : List ℕ) (c : Client) (left : List ℕ) (status : Option ℕ) (body : List ℕ) (max : ℕ) → max < length body → (c.reading ≡ r) → PartwayAt r limits read c left status body → OnlyLarger limits max read
larger_at Reads.Head limits read c left status body max many is h = absurd (omega (arith, many, ap length h.bare))
larger_at (Reads.Body d) limits read c left status body max many is h = λ more m rest a.
    let o = h.only more m rest a in
    let same : length m.body.bytes ≡ length (body ++ o.0.bytes) = ap (λ (b : Body). length b.bytes) o.1 in
    omega (arith, many, same, length-append body o.0.bytes)
larger_at Reads.Done limits read c left status body max many is h = absurd h
larger_at Reads.Upgraded limits read c left status body max many is h = absurd h
larger_at Reads.Closed limits read c left status body max many is h = absurd h
larger_at (Reads.Failed e) limits read c left status body max many is h = absurd h

pub only_larger : (limits : Limits) (read : List ℕ) (c : Client) (left : List ℕ) (status : Option ℕ) (body : List ℕ) (max : ℕ) → max < length body → Partway limits read c left status body → OnlyLarger limits max read
only_larger limits read c left status body max many h = larger_at c.reading limits read c left status body max many refl h

-- ---- each event of a response takes bytes

pub has_length : (h : ResponseHead) → 0 < length (print_response h)
unfolding print_response
has_length h = grind (arith, common_steps)

taken_head : (old new : Client) (input : List ℕ) (spans : List HeaderSpan) (len : ℕ) (r : ResponseSpans) → TakesHead old input spans new len r → 0 < len
taken_head old new input spans len r t = omega (arith, t.consumed, t.covered.len, has_length t.head)

takes_final : (r : Reading) (old new : Client) (input : List ℕ) (spans : List HeaderSpan) (len : ℕ) (head : ResponseSpans) → ReadsAt r old input spans new (record { consumed = len; event = Head head }) → 0 < len
takes_final Reads.Head old new input spans len head found = by_state (awaits_head old.writing) found
  where
    by_state : (b : Bool) → ReadsFirst b old input spans new (record { consumed = len; event = Head head }) → 0 < len
    by_state true f = let none = ap (λ (p : Progress ResponseSpans). p.event) f.1 in cc
    by_state false f = taken_head old new input spans len head f.1
takes_final (Reads.Body d) old new input spans len head found = absurd found.1
takes_final Reads.Done old new input spans len head found = let none = ap (λ (p : Progress ResponseSpans). p.event) found.0 in cc
takes_final Reads.Upgraded old new input spans len head found = let none = ap (λ (p : Progress ResponseSpans). p.event) found.0 in cc
takes_final Reads.Closed old new input spans len head found = let none = ap (λ (p : Progress ResponseSpans). p.event) found.0 in cc
takes_final (Reads.Failed e) old new input spans len head found = absurd found

takes_interim : (r : Reading) (old new : Client) (input : List ℕ) (spans : List HeaderSpan) (len : ℕ) (head : ResponseSpans) → ReadsAt r old input spans new (record { consumed = len; event = Informational head }) → 0 < len
takes_interim Reads.Head old new input spans len head found = by_state (awaits_head old.writing) found
  where
    by_state : (b : Bool) → ReadsFirst b old input spans new (record { consumed = len; event = Informational head }) → 0 < len
    by_state true f = let none = ap (λ (p : Progress ResponseSpans). p.event) f.1 in cc
    by_state false f = taken_head old new input spans len head f.1
takes_interim (Reads.Body d) old new input spans len head found = absurd found.1
takes_interim Reads.Done old new input spans len head found = let none = ap (λ (p : Progress ResponseSpans). p.event) found.0 in cc
takes_interim Reads.Upgraded old new input spans len head found = let none = ap (λ (p : Progress ResponseSpans). p.event) found.0 in cc
takes_interim Reads.Closed old new input spans len head found = let none = ap (λ (p : Progress ResponseSpans). p.event) found.0 in cc
takes_interim (Reads.Failed e) old new input spans len head found = absurd found

takes_data : (r : Reading) (old new : Client) (input : List ℕ) (spans : List HeaderSpan) (len : ℕ) (s : Span) → ReadsAt r old input spans new (record { consumed = len; event = Data s }) → 0 < len
takes_data Reads.Head old new input spans len s found = by_state (awaits_head old.writing) found
  where
    by_state : (b : Bool) → ReadsFirst b old input spans new (record { consumed = len; event = Data s }) → 0 < len
    by_state true f = let none = ap (λ (p : Progress ResponseSpans). p.event) f.1 in cc
    by_state false f = absurd f
takes_data (Reads.Body d) old new input spans len s found = omega (arith, found.1.2, found.1.3)
takes_data Reads.Done old new input spans len s found = let none = ap (λ (p : Progress ResponseSpans). p.event) found.0 in cc
takes_data Reads.Upgraded old new input spans len s found = let none = ap (λ (p : Progress ResponseSpans). p.event) found.0 in cc
takes_data Reads.Closed old new input spans len s found = let none = ap (λ (p : Progress ResponseSpans). p.event) found.0 in cc
takes_data (Reads.Failed e) old new input spans len s found = absurd found

pub final_moves : (old new : Client) (input : List ℕ) (spans : List HeaderSpan) (p : Progress ResponseSpans) (head : ResponseSpans) → p.event ≡ Head head → ReadsAt old.reading old input spans new p → 0 < p.consumed
final_moves old new input spans p head is found = takes_final old.reading old new input spans p.consumed head (subst (λ e. ReadsAt old.reading old input spans new (record { consumed = p.consumed; event = e })) is found)

pub interim_moves : (old new : Client) (input : List ℕ) (spans : List HeaderSpan) (p : Progress ResponseSpans) (head : ResponseSpans) → p.event ≡ Informational head → ReadsAt old.reading old input spans new p → 0 < p.consumed
interim_moves old new input spans p head is found = takes_interim old.reading old new input spans p.consumed head (subst (λ e. ReadsAt old.reading old input spans new (record { consumed = p.consumed; event = e })) is found)

pub data_moves : (old new : Client) (input : List ℕ) (spans : List HeaderSpan) (p : Progress ResponseSpans) (s : Span) → p.event ≡ Data s → ReadsAt old.reading old input spans new p → 0 < p.consumed
data_moves old new input spans p s is found = takes_data old.reading old new input spans p.consumed s (subst (λ e. ReadsAt old.reading old input spans new (record { consumed = p.consumed; event = e })) is found)

-- ---- what no response can be read as

abbrev pub IsStrange : Event ResponseSpans → Type 0
IsStrange NeedMore = ⊥
IsStrange (Head h) = ⊥
IsStrange (Informational h) = ⊥
IsStrange (Data s) = ⊥
IsStrange (End count) = ⊥
IsStrange Paused = Unit {0}
IsStrange Upgraded = Unit {0}
IsStrange Closed = Unit {0}

strange_head : (e : Event ResponseSpans) (old new : Client) (input : List ℕ) (spans : List HeaderSpan) (len : ℕ) → IsStrange e → ReadsHead old input spans new len e → ⊥
strange_head NeedMore old new input spans len s found = s
strange_head (Head h) old new input spans len s found = s
strange_head (Informational h) old new input spans len s found = s
strange_head (Data x) old new input spans len s found = s
strange_head (End count) old new input spans len s found = s
strange_head Paused old new input spans len s found = found
strange_head Upgraded old new input spans len s found = found
strange_head Closed old new input spans len s found = found

strange_piece : (e : Event ResponseSpans) (d : Decoder) (input : List ℕ) (spans : List HeaderSpan) (next : Reading) (len : ℕ) → IsStrange e → ReadsPiece d input spans next len e → ⊥
strange_piece NeedMore d input spans next len s found = s
strange_piece (Head h) d input spans next len s found = s
strange_piece (Informational h) d input spans next len s found = s
strange_piece (Data x) d input spans next len s found = s
strange_piece (End count) d input spans next len s found = s
strange_piece Paused d input spans next len s found = found
strange_piece Upgraded d input spans next len s found = found
strange_piece Closed d input spans next len s found = found

strange_at : (r : Reading) (limits : Limits) (read input : List ℕ) (old new : Client) (spans : List HeaderSpan) (p : Progress ResponseSpans) (status : Option ℕ) (body : List ℕ) → IsStrange p.event → ReadsAt r old input spans new p → PartwayAt r limits read old input status body → ⊥
strange_at Reads.Head limits read input old new spans p status body s found h =
    strange_head p.event old new input spans p.consumed s (subst (λ b. ReadsFirst b old input spans new p) h.asked.asked found)
strange_at (Reads.Body d) limits read input old new spans p status body s found h = strange_piece p.event d input spans found.0 p.consumed s found.1
strange_at Reads.Done limits read input old new spans p status body s found h = h
strange_at Reads.Upgraded limits read input old new spans p status body s found h = h
strange_at Reads.Closed limits read input old new spans p status body s found h = h
strange_at (Reads.Failed e) limits read input old new spans p status body s found h = h

pub never_strange : (limits : Limits) (read input : List ℕ) (old new : Client) (spans : List HeaderSpan) (p : Progress ResponseSpans) (status : Option ℕ) (body : List ℕ) → IsStrange p.event → ReadsAt old.reading old input spans new p → Partway limits read old input status body → NeverAnswers limits read
never_strange limits read input old new spans p status body s found h = absurd (strange_at old.reading limits read input old new spans p status body s found h)

-- ---- before anything was read

nothing_is_no_response : HasNoResponse []
nothing_is_no_response h rest reads = absurd (omega (arith, has_length h, length-append (print_response h) rest, ap length reads.1))

-- nothing was read, so nothing whole was
pub wants_reader : (limits : Limits) (client : Client) (r : ResponseReader) → r.client ≡ client → client.reading ≡ Reads.Head → Wants limits [] r
wants_reader limits client r same is = subst (λ (x : Reading). WantsAt x limits [] (left_of r)) (sym (ap (λ (c : Client). c.reading) same ∙ is)) none
  where
    none : HoldsNoAnswer limits []
    none = λ m rest a. first_is_response limits [] m rest a.interims a.after nothing_is_no_response a.before a.reads
