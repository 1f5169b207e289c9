-- Texts that go on.
use Rattle.std.proofs.Common.{◌≡◌, ℕ, zero, suc, ◌≤◌, Bool, true, false, cond, List, [], ◌∷◌, ◌++◌, length, Option, Some, None, refl, sym, ap, ◌∙◌, arith}
use Rattle.std.specs.List.{filter, cons_option, AllByRecursion}
use Rattle.std.proofs.lemmas.List.{append_assoc, append-nil}
use Rattle.gear_packets.specs.declared.fault.StreamFault.{StreamFault}
use Rattle.gear_packets.specs.Request.{Packet, encoding, IsSent, first_request}
use Rattle.gear_packets.specs.Response.{AssignedJob, Message, Next, gives, faulty, waits, first_response}
use Rattle.gear_packets.specs.Text.{Ending, unread, broken, Reading, after_message, reading_within, reading, read_after, further, Sent, sent_within, sent, text_of, is_work, register, registered_by, assignments_in, assignment_of, GrowsByARequest, GrowsByAResponse}
use Rattle.gear_packets.proofs.Requests.{first_found, first_shrinks, first_stays, first_of_nothing}
use Rattle.gear_packets.proofs.Responses.{gives_stays, gives_shrinks, faulty_stays, response_of_nothing}

-- ---- a stream from the server

reading_step_to : (n m : ℕ) (bytes : List ℕ) (o : Next) → ((rest : List ℕ) → length rest ≤ n → length rest ≤ m → reading_within n rest ≡ reading_within m rest) → first_response bytes ≡ o → length bytes ≤ suc n → length bytes ≤ suc m → reading_within (suc n) bytes ≡ reading_within (suc m) bytes
unfolding reading_within
reading_step_to n m bytes (gives x rest) same e a b =
    let short = gives_shrinks bytes x rest e in
    rw (e, reading_within) (ap (after_message x) (same rest (omega arith) (omega arith)))
reading_step_to n m bytes (faulty f) same e a b = rw (e, reading_within) refl
reading_step_to n m bytes waits same e a b = rw (e, reading_within) refl

reading_enough : (n m : ℕ) (bytes : List ℕ) → length bytes ≤ n → length bytes ≤ m → reading_within n bytes ≡ reading_within m bytes
unfolding reading_within
reading_enough zero zero bytes a b = refl
reading_enough zero (suc m) [] a b = rw (response_of_nothing, reading_within) refl
reading_enough zero (suc m) (x ∷ bytes) a b = absurd (omega arith)
reading_enough (suc n) zero [] a b = rw (response_of_nothing, reading_within) refl
reading_enough (suc n) zero (x ∷ bytes) a b = absurd (omega arith)
reading_enough (suc n) (suc m) bytes a b = reading_step_to n m bytes (first_response bytes) (reading_enough n m) refl a b

pub reading_within_is : (n : ℕ) (bytes : List ℕ) → length bytes ≤ n → reading_within n bytes ≡ reading bytes
unfolding reading
reading_within_is n bytes h = reading_enough n (length bytes) bytes h (omega arith)

-- the first message, and what the rest says
pub reading_gives : (bytes : List ℕ) (m : Message) (rest : List ℕ) → first_response bytes ≡ gives m rest → reading bytes ≡ after_message m (reading rest)
unfolding reading_within
reading_gives bytes m rest e =
    let short = gives_shrinks bytes m rest e in
    let one : reading_within (suc (length bytes)) bytes ≡ after_message m (reading_within (length bytes) rest) = rw (e, reading_within) refl in
    sym (reading_within_is (suc (length bytes)) bytes (omega arith)) ∙ one ∙ ap (after_message m) (reading_within_is (length bytes) rest (omega arith))

pub reading_faulty : (bytes : List ℕ) (f : StreamFault) → first_response bytes ≡ faulty f → reading bytes ≡ record { messages = []; ending = broken f }
unfolding reading_within
reading_faulty bytes f e =
    let one : reading_within (suc (length bytes)) bytes ≡ record { messages = []; ending = broken f } = rw (e, reading_within) refl in
    sym (reading_within_is (suc (length bytes)) bytes (omega arith)) ∙ one

pub reading_waits : (bytes : List ℕ) → first_response bytes ≡ waits → reading bytes ≡ record { messages = []; ending = unread bytes }
unfolding reading_within
reading_waits bytes e =
    let one : reading_within (suc (length bytes)) bytes ≡ record { messages = []; ending = unread bytes } = rw (e, reading_within) refl in
    sym (reading_within_is (suc (length bytes)) bytes (omega arith)) ∙ one

further_after : (m : Message) (ms : List Message) (e : Ending) (more : List ℕ) → further (after_message m (record { messages = ms; ending = e })) more ≡ after_message m (further (record { messages = ms; ending = e }) more)
unfolding further
further_after m ms (unread rest) more = refl
further_after m ms (broken f) more = refl

goes_on_at : (n : ℕ) (bytes more : List ℕ) (o : Next) → ((rest : List ℕ) → length rest ≤ n → reading (rest ++ more) ≡ further (reading_within n rest) more) → first_response bytes ≡ o → length bytes ≤ suc n → reading (bytes ++ more) ≡ further (reading_within (suc n) bytes) more
unfolding reading_within further
goes_on_at n bytes more (gives m rest) same e h =
    let short = gives_shrinks bytes m rest e in
    let r = reading_within n rest in
    let one : reading_within (suc n) bytes ≡ after_message m r = rw (e, reading_within) refl in
    reading_gives (bytes ++ more) m (rest ++ more) (gives_stays bytes more m rest e)
    ∙ ap (after_message m) (same rest (omega arith))
    ∙ sym (further_after m r.messages r.ending more)
    ∙ ap (λ (x : Reading). further x more) (sym one)
goes_on_at n bytes more (faulty f) same e h = reading_faulty (bytes ++ more) f (faulty_stays bytes more f e) ∙ rw (e, reading_within) refl
goes_on_at n bytes more waits same e h = rw (e, reading_within) refl

goes_on : (n : ℕ) (bytes more : List ℕ) → length bytes ≤ n → reading (bytes ++ more) ≡ further (reading_within n bytes) more
unfolding reading_within further
goes_on zero bytes more h = refl
goes_on (suc n) bytes more h = goes_on_at n bytes more (first_response bytes) (λ rest. goes_on n rest more) refl h

-- however a stream is cut, it says the same
pub reading_more : (bytes more : List ℕ) → reading (bytes ++ more) ≡ further (reading bytes) more
unfolding reading
reading_more bytes more = goes_on (length bytes) bytes more (omega arith)

-- ---- what a worker has sent

abbrev pub before : Packet → Sent → Sent
before p s = record { packets = p ∷ s.packets; rest = s.rest }

sent_step_to : (n m : ℕ) (bytes : List ℕ) (o : Option (Packet × List ℕ)) → ((rest : List ℕ) → length rest ≤ n → length rest ≤ m → sent_within n rest ≡ sent_within m rest) → first_request bytes ≡ o → length bytes ≤ suc n → length bytes ≤ suc m → sent_within (suc n) bytes ≡ sent_within (suc m) bytes
unfolding sent_within
sent_step_to n m bytes (Some x) same e a b =
    let short = first_shrinks bytes x.0 x.1 e in
    rw (e, sent_within) (ap (before x.0) (same x.1 (omega arith) (omega arith)))
sent_step_to n m bytes None same e a b = rw (e, sent_within) refl

sent_enough : (n m : ℕ) (bytes : List ℕ) → length bytes ≤ n → length bytes ≤ m → sent_within n bytes ≡ sent_within m bytes
unfolding sent_within
sent_enough zero zero bytes a b = refl
sent_enough zero (suc m) [] a b = rw (first_of_nothing, sent_within) refl
sent_enough zero (suc m) (x ∷ bytes) a b = absurd (omega arith)
sent_enough (suc n) zero [] a b = rw (first_of_nothing, sent_within) refl
sent_enough (suc n) zero (x ∷ bytes) a b = absurd (omega arith)
sent_enough (suc n) (suc m) bytes a b = sent_step_to n m bytes (first_request bytes) (sent_enough n m) refl a b

sent_within_is : (n : ℕ) (bytes : List ℕ) → length bytes ≤ n → sent_within n bytes ≡ sent bytes
unfolding sent
sent_within_is n bytes h = sent_enough n (length bytes) bytes h (omega arith)

pub sent_first : (bytes : List ℕ) (p : Packet) (rest : List ℕ) → first_request bytes ≡ Some (p, rest) → sent bytes ≡ before p (sent rest)
unfolding sent_within
sent_first bytes p rest e =
    let short = first_shrinks bytes p rest e in
    let one : sent_within (suc (length bytes)) bytes ≡ before p (sent_within (length bytes) rest) = rw (e, sent_within) refl in
    sym (sent_within_is (suc (length bytes)) bytes (omega arith)) ∙ one ∙ ap (before p) (sent_within_is (length bytes) rest (omega arith))

abbrev pub after_packets : List Packet → Sent → Sent
after_packets ps s = record { packets = ps ++ s.packets; rest = s.rest }

-- a text of packets says those packets, whatever follows it
pub sent_text : (ps : List Packet) (rest : List ℕ) → AllByRecursion IsSent ps → sent (text_of ps ++ rest) ≡ after_packets ps (sent rest)
sent_text [] rest h = refl
sent_text (p ∷ ps) rest h =
    let regroup : text_of (p ∷ ps) ++ rest ≡ encoding p ++ (text_of ps ++ rest) = append_assoc (encoding p) (text_of ps) rest in
    ap sent regroup ∙ sent_first (encoding p ++ (text_of ps ++ rest)) p (text_of ps ++ rest) (first_found p (text_of ps ++ rest) h.0) ∙ ap (before p) (sent_text ps rest h.1)

pub sent_nothing : sent [] ≡ record { packets = []; rest = [] }
unfolding sent sent_within
sent_nothing = refl

-- a text of packets says those packets
pub sent_all : (ps : List Packet) → AllByRecursion IsSent ps → (sent (text_of ps)).packets ≡ ps
sent_all ps h =
    ap (λ (t : List ℕ). (sent t).packets) (sym (append-nil (text_of ps)))
    ∙ ap (λ (s : Sent). s.packets) (sent_text ps [] h ∙ ap (after_packets ps) sent_nothing)
    ∙ append-nil ps

sent_on_at : (n : ℕ) (bytes more : List ℕ) (o : Option (Packet × List ℕ)) → ((rest : List ℕ) → length rest ≤ n → sent (rest ++ more) ≡ after_packets (sent_within n rest).packets (sent ((sent_within n rest).rest ++ more))) → first_request bytes ≡ o → length bytes ≤ suc n
    → sent (bytes ++ more) ≡ after_packets (sent_within (suc n) bytes).packets (sent ((sent_within (suc n) bytes).rest ++ more))
unfolding sent_within
sent_on_at n bytes more (Some x) same e h =
    let short = first_shrinks bytes x.0 x.1 e in
    let one : sent_within (suc n) bytes ≡ before x.0 (sent_within n x.1) = rw (e, sent_within) refl in
    sent_first (bytes ++ more) x.0 (x.1 ++ more) (first_stays bytes more x.0 x.1 e)
    ∙ ap (before x.0) (same x.1 (omega arith))
    ∙ ap (λ (s : Sent). after_packets s.packets (sent (s.rest ++ more))) (sym one)
sent_on_at n bytes more None same e h = rw (e, sent_within) refl

sent_on : (n : ℕ) (bytes more : List ℕ) → length bytes ≤ n → sent (bytes ++ more) ≡ after_packets (sent_within n bytes).packets (sent ((sent_within n bytes).rest ++ more))
unfolding sent_within
sent_on zero bytes more h = refl
sent_on (suc n) bytes more h = sent_on_at n bytes more (first_request bytes) (λ rest. sent_on n rest more) refl h

pub sent_more : (bytes more : List ℕ) → sent (bytes ++ more) ≡ after_packets (sent bytes).packets (sent ((sent bytes).rest ++ more))
unfolding sent
sent_more bytes more = sent_on (length bytes) bytes more (omega arith)

works_append : (ps qs : List Packet) → filter is_work (ps ++ qs) ≡ filter is_work ps ++ filter is_work qs
works_append [] qs = refl
works_append (p ∷ ps) qs = by (is_work p) (filter is_work (ps ++ qs)) (filter is_work ps) (filter is_work qs) (works_append ps qs)
  where
    by : (b : Bool) (xs ys zs : List Packet) → xs ≡ ys ++ zs → cond b (p ∷ xs) xs ≡ cond b (p ∷ ys) ys ++ zs
    by true xs ys zs h = ap (λ (t : List Packet). p ∷ t) h
    by false xs ys zs h = h

registered_append : (names : List (List ℕ)) (ps qs : List Packet) → registered_by names (ps ++ qs) ≡ registered_by (registered_by names ps) qs
registered_append names [] qs = refl
registered_append names (p ∷ ps) qs = registered_append (register names p) ps qs

pub sent_grows : (text : List ℕ) (p : Packet) → (sent text).rest ≡ [] → IsSent p → (sent (text ++ encoding p)).packets ≡ (sent text).packets ++ p ∷ []
sent_grows text p whole fits =
    let one : sent (encoding p) ≡ record { packets = p ∷ []; rest = [] } = ap sent (sym (append-nil (encoding p))) ∙ sent_first (encoding p ++ []) p [] (first_found p [] fits) ∙ ap (before p) sent_nothing in
    ap (λ (s : Sent). s.packets) (sent_more text (encoding p) ∙ ap (λ (r : List ℕ). after_packets (sent text).packets (sent (r ++ encoding p))) whole ∙ ap (after_packets (sent text).packets) one)

pub grows_by_a_request : GrowsByARequest
grows_by_a_request text p whole fits =
    let e = sent_grows text p whole fits in
    (ap (filter is_work) e ∙ works_append (sent text).packets (p ∷ []), ap (registered_by []) e ∙ registered_append [] (sent text).packets (p ∷ []))

assignments_in_append : (xs ys : List Message) → assignments_in (xs ++ ys) ≡ assignments_in xs ++ assignments_in ys
assignments_in_append [] ys = refl
assignments_in_append (x ∷ xs) ys = by (assignment_of x) (assignments_in (xs ++ ys)) (assignments_in xs) (assignments_in ys) (assignments_in_append xs ys)
  where
    by : (o : Option AssignedJob) (all prefix read_after : List AssignedJob) → all ≡ prefix ++ read_after → cons_option o all ≡ cons_option o prefix ++ read_after
    by None all prefix read_after h = h
    by (Some a) all prefix read_after h = ap (λ (t : List AssignedJob). a ∷ t) h

further_from_nothing : (r : Reading) (piece : List ℕ) → r.ending ≡ unread [] → further r piece ≡ read_after r.messages (reading piece)
unfolding further
further_from_nothing r piece h = rw (h, further) refl

pub grows_by_a_response : GrowsByAResponse
grows_by_a_response text piece m whole said =
    let one : reading piece ≡ record { messages = m ∷ []; ending = unread [] } = reading_gives piece m [] said ∙ ap (after_message m) (reading_waits [] response_of_nothing) in
    ap (λ (r : Reading). assignments_in r.messages) (reading_more text piece ∙ further_from_nothing (reading text) piece whole ∙ ap (read_after (reading text).messages) one)
    ∙ assignments_in_append (reading text).messages (m ∷ [])
