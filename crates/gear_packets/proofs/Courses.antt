-- A reader over all its calls.
use Rattle.std.proofs.Common.{◌≡◌, ℕ, zero, suc, ◌≤◌, List, [], ◌∷◌, ◌++◌, length, refl, sym, ap, ◌∙◌, append_assoc, arith}
use Rattle.std.proofs.lemmas.List.{append-nil}
use Rattle.gear_packets.specs.Response.{Message, Next, gives, faulty, waits, first_response}
use Rattle.gear_packets.specs.Text.{Ending, unread, broken, Reading, after_message, reading_within, reading, read_after, further}
use Rattle.gear_packets.specs.Reading.{nothing_read}
use Rattle.gear_packets.specs.Calls.{Call, fed, gave, stream, responses, Leads, GivesItsStream, LeavesNoPacket}
use Rattle.gear_packets.proofs.Responses.{gives_shrinks, response_of_nothing}
use Rattle.gear_packets.proofs.Texts.{reading_more, reading_waits}

further_after : (ms : List Message) (r : Reading) (piece : List ℕ) → further (read_after ms r) piece ≡ read_after ms (further r piece)
unfolding further
further_after ms r piece = by r.messages r.ending
  where
    by : (ns : List Message) (e : Ending) → further (read_after ms (record { messages = ns; ending = e })) piece ≡ read_after ms (further (record { messages = ns; ending = e }) piece)
    by ns (unread rest) = ap (λ (all : List Message). record { messages = all; ending = (reading (rest ++ piece)).ending }) (append_assoc ms ns (reading (rest ++ piece)).messages)
    by ns (broken f) = refl

leads_on : (bytes : List ℕ) (ms : List Message) (from : Reading) (calls : List Call) (to : Reading) → reading bytes ≡ read_after ms from → Leads from calls to → reading (bytes ++ stream calls) ≡ read_after (ms ++ responses calls) to
leads_on bytes ms from [] to here h =
    ap reading (append-nil bytes) ∙ here ∙ ap (read_after ms) h ∙ ap (λ (all : List Message). read_after all to) (sym (append-nil ms))
leads_on bytes ms from (fed piece ∷ calls) to here h =
    let next : reading (bytes ++ piece) ≡ read_after ms (further from piece) = reading_more bytes piece ∙ ap (λ (r : Reading). further r piece) here ∙ further_after ms from piece in
    ap reading (sym (append_assoc bytes piece (stream calls))) ∙ leads_on (bytes ++ piece) ms (further from piece) calls to next h
leads_on bytes ms from (gave m ∷ calls) to here h =
    let next : reading bytes ≡ read_after (ms ++ m ∷ []) h.0 = here ∙ ap (read_after ms) h.1 ∙ ap (λ (all : List Message). record { messages = all; ending = h.0.ending }) (sym (append_assoc ms (m ∷ []) h.0.messages)) in
    leads_on bytes (ms ++ m ∷ []) h.0 calls to next h.2 ∙ ap (λ (all : List Message). read_after all to) (append_assoc ms (m ∷ []) (responses calls))

pub gives_its_stream : GivesItsStream
gives_its_stream calls reader h = leads_on [] [] nothing_read calls reader (reading_waits [] response_of_nothing) h

waits_at : (n : ℕ) (bytes rest : List ℕ) (o : Next) → ((later : List ℕ) → length later ≤ n → (reading_within n later).ending ≡ unread rest → first_response rest ≡ waits) → first_response bytes ≡ o → length bytes ≤ suc n → (reading_within (suc n) bytes).ending ≡ unread rest → first_response rest ≡ waits
unfolding reading_within
waits_at n bytes rest (gives m next) later e long h =
    let short = gives_shrinks bytes m next e in
    let one : reading_within (suc n) bytes ≡ after_message m (reading_within n next) = rw (e, reading_within) refl in
    later next (omega arith) (ap (λ (r : Reading). r.ending) (sym one) ∙ h)
waits_at n bytes rest (faulty f) later e long h =
    let one : reading_within (suc n) bytes ≡ record { messages = []; ending = broken f } = rw (e, reading_within) refl in
    let wrong : broken f ≡ unread rest = ap (λ (r : Reading). r.ending) (sym one) ∙ h in
    absurd cc
waits_at n bytes rest waits later e long h =
    let one : reading_within (suc n) bytes ≡ record { messages = []; ending = unread bytes } = rw (e, reading_within) refl in
    let same : bytes ≡ rest = unread_is bytes rest (ap (λ (r : Reading). r.ending) (sym one) ∙ h) in
    ap first_response (sym same) ∙ e
  where
    unread_is : (xs ys : List ℕ) → unread xs ≡ unread ys → xs ≡ ys
    unread_is xs ys same = cc

waits_within : (n : ℕ) (bytes rest : List ℕ) → length bytes ≤ n → (reading_within n bytes).ending ≡ unread rest → first_response rest ≡ waits
unfolding reading_within
waits_within zero [] [] long h = response_of_nothing
waits_within zero [] (b ∷ rest) long h = absurd cc
waits_within zero (b ∷ bytes) rest long h = absurd (omega arith)
waits_within (suc n) bytes rest long h = waits_at n bytes rest (first_response bytes) (λ later. waits_within n later rest) refl long h

pub leaves_no_packet : LeavesNoPacket
unfolding reading
leaves_no_packet bytes rest h = waits_within (length bytes) bytes rest (omega arith) h
