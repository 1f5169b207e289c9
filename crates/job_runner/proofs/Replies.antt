-- The packets of an answer.
use Rattle.std.proofs.Common.{◌≡◌, ◌≢◌, ℕ, suc, ◌+◌, ◌-◌, ◌^◌, ◌<◌, Bool, true, false, ◌&&◌, List, [], ◌∷◌, ◌++◌, length, take, drop, map, Some, None, Result, Err, refl, sym, ap, subst, ◌∙◌, arith}
use Rattle.std.specs.Prelude.{nat_lt, get_or}
use Rattle.std.proofs.Math.Seq.{take-suc}
use Rattle.std.proofs.lemmas.List.{map-append, append-nil, append_assoc, length-append, take-append-drop}
use Rattle.std.proofs.lemmas.List.Folds.{list_all-append}
use Rattle.std.specs.List.{list_all, AllByRecursion}
use Rattle.std.proofs.lemmas.Bool.{le-leb}
use Rattle.gear_packets.specs.Frame.{body_limit}
use Rattle.gear_packets.specs.Request.{Packet, work_status, work_complete, work_fail, body_of, names_nul, encoding, IsHandle, IsSent}
use Rattle.gear_packets.specs.Text.{text_of}
use Rattle.gear_packets.specs.PacketRefusals.{refusal_told, request_refusal}
use Rattle.gear_packets.proofs.Sizes.{status_is_sent}
use Rattle.gear_packets.specs.declared.encoding.EncodeError.{EncodeError}
use Rattle.gear_packets.specs.declared.encoding.EncodeError.TheVariants.{TooLarge, NulInArgument, Memory}
use Rattle.job_runner.specs.declared.job.Note.{Note}
use Rattle.job_runner.specs.Told.{Told, Remark, piece, warning, progress, Finish, complete, fail, remark_of, remark_packet, finish_packet, told_packets, can_send, answer_to, end_kind_of, kind_of_answer}
use Rattle.job_runner.proofs.Steps.{all_append, text_append}

all_fit : (ps : List Packet) → AllByRecursion IsSent ps → list_all can_send ps ≡ true
all_fit [] h = refl
all_fit (p ∷ ps) h = rw (le-leb (length (body_of p)) body_limit h.0.fits, all_fit ps h.1) refl

-- what was told is the answer where all its packets are sent
pub answers_told : (handle : List ℕ) (told : Told) → AllByRecursion IsSent (told_packets handle told) → answer_to handle (Some told) ≡ told_packets handle told
unfolding answer_to
answers_told handle told h = rw (all_fit (told_packets handle told) h) refl

-- and WORK_FAIL where one is too large
pub answers_failed : (handle : List ℕ) (told : Told) → list_all can_send (told_packets handle told) ≡ false → answer_to handle (Some told) ≡ answer_to handle None
unfolding answer_to
answers_failed handle told h = rw h refl

-- the same of how it ends
pub kind_told : (handle : List ℕ) (told : Told) → AllByRecursion IsSent (told_packets handle told) → kind_of_answer handle (Some told) ≡ end_kind_of told.finish
unfolding kind_of_answer
kind_told handle told h = rw (all_fit (told_packets handle told) h) refl

pub kind_failed : (handle : List ℕ) (told : Told) → list_all can_send (told_packets handle told) ≡ false → kind_of_answer handle (Some told) ≡ kind_of_answer handle None
unfolding kind_of_answer
kind_failed handle told h = rw h refl

-- ---- note by note

abbrev pub note_packets : List ℕ → List Note → List Packet
note_packets handle notes = map (remark_packet handle) (map remark_of notes)

one_more : (handle : List ℕ) (notes : List Note) (i : ℕ) (n : Note) → i < length notes → n ≡ get_or notes i n
    → note_packets handle (take (i + 1) notes) ≡ note_packets handle (take i notes) ++ remark_packet handle (remark_of n) ∷ []
one_more handle notes i n within is =
    let next : i + 1 ≡ suc i = omega arith in
    let prefix : take (i + 1) notes ≡ take i notes ++ n ∷ [] = ap (λ (k : ℕ). take k notes) next ∙ take-suc notes i n within ∙ ap (λ (x : Note). take i notes ++ x ∷ []) (sym is) in
    ap (note_packets handle) prefix ∙ ap (map (remark_packet handle)) (map-append remark_of (take i notes) (n ∷ [])) ∙ map-append (remark_packet handle) (map remark_of (take i notes)) (remark_of n ∷ [])

-- a note was encoded after those before it
pub note_encoded : (handle : List ℕ) (notes : List Note) (i : ℕ) (n : Note) (old new : List ℕ) (p : Packet) → i < length notes → n ≡ get_or notes i n → p ≡ remark_packet handle (remark_of n)
    → old ≡ text_of (note_packets handle (take i notes)) → AllByRecursion IsSent (note_packets handle (take i notes)) → new ≡ old ++ encoding p → IsSent p
    → (new ≡ text_of (note_packets handle (take (i + 1) notes))) × AllByRecursion IsSent (note_packets handle (take (i + 1) notes))
note_encoded handle notes i n old new p within is same text each more sent =
    let ps = note_packets handle (take i notes) in
    let all : note_packets handle (take (i + 1) notes) ≡ ps ++ p ∷ [] = one_more handle notes i n within is ∙ ap (λ (x : Packet). ps ++ x ∷ []) (sym same) in (
      more ∙ ap (λ (t : List ℕ). t ++ encoding p) text ∙ ap (λ (t : List ℕ). text_of ps ++ t) (sym (append-nil (encoding p))) ∙ sym (text_append ps (p ∷ [])) ∙ ap text_of (sym all),
      subst (AllByRecursion IsSent) (sym all) (all_append IsSent ps (p ∷ []) each (sent, tt)),
    )

-- the end was encoded after all notes
pub end_encoded : (handle : List ℕ) (told : Told) (old new : List ℕ) (p : Packet) → p ≡ finish_packet handle told.finish → old ≡ text_of (map (remark_packet handle) told.remarks) → AllByRecursion IsSent (map (remark_packet handle) told.remarks)
    → new ≡ old ++ encoding p → IsSent p → (new ≡ text_of (told_packets handle told)) × AllByRecursion IsSent (told_packets handle told)
end_encoded handle told old new p same text each more sent =
    let ps = map (remark_packet handle) told.remarks in
    let all : told_packets handle told ≡ ps ++ p ∷ [] = ap (λ (x : Packet). ps ++ x ∷ []) (sym same) in (
      more ∙ ap (λ (t : List ℕ). t ++ encoding p) text ∙ ap (λ (t : List ℕ). text_of ps ++ t) (sym (append-nil (encoding p))) ∙ sym (text_append ps (p ∷ [])) ∙ ap text_of (sym all),
      subst (AllByRecursion IsSent) (sym all) (all_append IsSent ps (p ∷ []) each (sent, tt)),
    )

-- ---- a packet that is too large

remark_nameless : (handle : List ℕ) (r : Remark) → names_nul (remark_packet handle r) ≡ false
remark_nameless handle (piece bytes) = refl
remark_nameless handle (warning bytes) = refl
remark_nameless handle (progress part whole) = refl

finish_nameless : (handle : List ℕ) (f : Finish) → names_nul (finish_packet handle f) ≡ false
finish_nameless handle (complete bytes) = refl
finish_nameless handle fail = refl

no_room : (p : Packet) → nat_lt body_limit (length (body_of p)) ≡ true → can_send p ≡ false
no_room p h = by (can_send p) refl
  where
    by : (b : Bool) → can_send p ≡ b → b ≡ false
    by false e = refl
    by true e = absurd (grind (arith, h, e))

-- a packet without a name is refused for its size alone
refused_for_size : (p : Packet) (e : EncodeError) → refusal_told (let z : Result (Unit {0}) EncodeError = Err e in z) ≡ request_refusal p → e ≢ Memory → names_nul p ≡ false → can_send p ≡ false
refused_for_size p e told other nameless = by (nat_lt body_limit (length (body_of p))) refl e told other
  where
    by : (b : Bool) → nat_lt body_limit (length (body_of p)) ≡ b → (x : EncodeError) → refusal_told (let z : Result (Unit {0}) EncodeError = Err x in z) ≡ request_refusal p → x ≢ Memory → can_send p ≡ false
    by true s x t o = no_room p s
    by false s TooLarge t o = absurd (let clash : Some TooLarge ≡ None = t ∙ rw (s, nameless) refl in cc)
    by false s NulInArgument t o = absurd (let clash : Some NulInArgument ≡ None = t ∙ rw (s, nameless) refl in cc)
    by false s Memory t o = absurd (o refl)

breaks_all : (xs ys : List Packet) (p : Packet) → can_send p ≡ false → list_all can_send (xs ++ p ∷ ys) ≡ false
breaks_all [] ys p h = rw h refl
breaks_all (x ∷ xs) ys p h = rw (breaks_all xs ys p h) (by (can_send x))
  where
    by : (b : Bool) → (b && false) ≡ false
    by true = refl
    by false = refl

-- a note that is too large breaks the whole
pub note_breaks : (handle : List ℕ) (told : Told) (notes : List Note) (i : ℕ) (n : Note) → i < length notes → n ≡ get_or notes i n → told.remarks ≡ map remark_of notes
    → can_send (remark_packet handle (remark_of n)) ≡ false → list_all can_send (told_packets handle told) ≡ false
note_breaks handle told notes i n within is all small =
    let p = remark_packet handle (remark_of n) in
    let ps = note_packets handle (take i notes) in
    let rest = note_packets handle (drop (i + 1) notes) in
    let split : note_packets handle notes ≡ note_packets handle (take (i + 1) notes) ++ rest =
    ap (note_packets handle) (sym (take-append-drop (i + 1) notes)) ∙ ap (map (remark_packet handle)) (map-append remark_of (take (i + 1) notes) (drop (i + 1) notes)) ∙ map-append (remark_packet handle) (map remark_of (take (i + 1) notes)) (map remark_of (drop (i + 1) notes)) in
    let parts : told_packets handle told ≡ ps ++ p ∷ (rest ++ finish_packet handle told.finish ∷ []) =
    ap (λ (rs : List Remark). map (remark_packet handle) rs ++ finish_packet handle told.finish ∷ []) all
    ∙ ap (λ (x : List Packet). x ++ finish_packet handle told.finish ∷ []) (split ∙ ap (λ (x : List Packet). x ++ rest) (one_more handle notes i n within is) ∙ append_assoc ps (p ∷ []) rest)
    ∙ append_assoc ps (p ∷ rest) (finish_packet handle told.finish ∷ []) in
    ap (list_all can_send) parts ∙ breaks_all ps (rest ++ finish_packet handle told.finish ∷ []) p small

pub note_too_large : (handle : List ℕ) (told : Told) (notes : List Note) (i : ℕ) (n : Note) (p : Packet) (e : EncodeError) → i < length notes → n ≡ get_or notes i n → p ≡ remark_packet handle (remark_of n) → told.remarks ≡ map remark_of notes
    → refusal_told (let z : Result (Unit {0}) EncodeError = Err e in z) ≡ request_refusal p → e ≢ Memory → list_all can_send (told_packets handle told) ≡ false
note_too_large handle told notes i n p e within is same all refused other =
    note_breaks handle told notes i n within is all (sym (ap can_send same) ∙ refused_for_size p e refused other (ap names_nul same ∙ remark_nameless handle (remark_of n)))

pub end_too_large : (handle : List ℕ) (told : Told) (p : Packet) (e : EncodeError) → p ≡ finish_packet handle told.finish → refusal_told (let z : Result (Unit {0}) EncodeError = Err e in z) ≡ request_refusal p → e ≢ Memory → list_all can_send (told_packets handle told) ≡ false
end_too_large handle told p e same refused other =
    let small : can_send p ≡ false = refused_for_size p e refused other (ap names_nul same ∙ finish_nameless handle told.finish) in
    let ps = map (remark_packet handle) told.remarks in
    ap (λ (x : Packet). list_all can_send (ps ++ x ∷ [])) (sym same) ∙ breaks_all ps [] p small

-- ---- sizes

-- a packet has room for a handle, its NUL and these bytes where fewer bytes than the rest are asked for
pub room_told : (handle bytes : List ℕ) → IsHandle handle → nat_lt (length bytes) (body_limit - length handle) ≡ can_send (work_complete handle bytes)
room_told handle bytes is = by (nat_lt (length bytes) (body_limit - length handle)) (can_send (work_complete handle bytes)) refl refl
  where
    sizes : length (handle ++ 0 ∷ bytes) ≡ length handle + suc (length bytes)
    sizes = length-append handle (0 ∷ bytes)

    by : (a b : Bool) → nat_lt (length bytes) (body_limit - length handle) ≡ a → can_send (work_complete handle bytes) ≡ b → a ≡ b
    by true true s t = refl
    by false false s t = refl
    by true false s t = absurd (let short = is.short in grind (arith, sizes, short, s, t))
    by false true s t = absurd (let short = is.short in grind (arith, sizes, short, s, t))

-- a packet that breaks no rule can be sent
accepted_fits : (p : Packet) → request_refusal p ≡ None → can_send p ≡ true
accepted_fits p h = by (nat_lt body_limit (length (body_of p))) (can_send p) refl refl
  where
    by : (a b : Bool) → nat_lt body_limit (length (body_of p)) ≡ a → can_send p ≡ b → b ≡ true
    by a true s t = refl
    by true false s t = absurd (let told : request_refusal p ≡ Some TooLarge = rw s refl in let clash : Some TooLarge ≡ None = sym told ∙ h in cc)
    by false false s t = absurd (grind (arith, s, t))

-- two numbers always have room
pub progress_fits : (handle : List ℕ) (part whole : ℕ) → IsHandle handle → part < 2 ^ 32 → whole < 2 ^ 32 → true ≡ can_send (work_status handle part whole)
progress_fits handle part whole is a b = sym (accepted_fits (work_status handle part whole) (status_is_sent handle part whole is a b))

-- and so has a handle alone
pub fail_fits : (handle : List ℕ) → IsHandle handle → true ≡ can_send (work_fail handle)
fail_fits handle is = let short = is.short in sym (le-leb (length handle) body_limit (omega (arith, short)))

-- one note more fits
pub note_fits_too : (handle : List ℕ) (notes : List Note) (i : ℕ) (n : Note) → i < length notes → n ≡ get_or notes i n → list_all can_send (note_packets handle (take i notes)) ≡ true
    → can_send (remark_packet handle (remark_of n)) ≡ true → list_all can_send (note_packets handle (take (i + 1) notes)) ≡ true
note_fits_too handle notes i n within is before fits =
    ap (list_all can_send) (one_more handle notes i n within is) ∙ list_all-append can_send (note_packets handle (take i notes)) (remark_packet handle (remark_of n) ∷ []) ∙ rw (before, fits) refl

and_true : (b : Bool) → (b && true) ≡ b
and_true true = refl
and_true false = refl

-- where all notes fit the end decides
pub end_decides : (handle : List ℕ) (told : Told) → list_all can_send (map (remark_packet handle) told.remarks) ≡ true → can_send (finish_packet handle told.finish) ≡ list_all can_send (told_packets handle told)
end_decides handle told notes =
    let p = finish_packet handle told.finish in
    sym (list_all-append can_send (map (remark_packet handle) told.remarks) (p ∷ []) ∙ rw notes (and_true (can_send p)))
