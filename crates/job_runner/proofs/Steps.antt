-- What an answer adds to what a session wrote.
use Rattle.std.proofs.Common.{◌≡◌, ℕ, ◌<◌, ◌≤◌, Bool, true, false, cond, List, [], ◌∷◌, ◌++◌, length, drop, map, Option, Some, None, refl, sym, ap, ◌∙◌, arith}
use Rattle.std.specs.List.{filter, list_all, AllByRecursion}
use Rattle.std.proofs.lemmas.List.{append-nil, append_assoc, length-drop}
use Rattle.gear_packets.specs.Request.{Packet, can_do, cant_do, pre_sleep, grab_job, set_client_id, work_status, work_complete, work_fail, work_data, work_warning, encoding}
use Rattle.gear_packets.specs.Text.{text_of, is_work, register, registered_by}
use Rattle.job_runner.specs.Told.{Told, Remark, piece, warning, progress, Finish, complete, fail, remark_packet, finish_packet, told_packets, can_send, answer_to, Telling, reply, replies}
use Rattle.job_runner.specs.Course.{asks, OneAtATime, Introduces, MayIntroduce}

-- ---- lists of packets

pub all_append : {X : Type 0} (P : X → Type 0) (xs ys : List X) → AllByRecursion P xs → AllByRecursion P ys → AllByRecursion P (xs ++ ys)
all_append P [] ys a b = b
all_append P (x ∷ xs) ys a b = (a.0, all_append P xs ys a.1 b)

pub text_append : (ps qs : List Packet) → text_of (ps ++ qs) ≡ text_of ps ++ text_of qs
text_append [] qs = refl
text_append (p ∷ ps) qs = ap (λ (t : List ℕ). encoding p ++ t) (text_append ps qs) ∙ sym (append_assoc (encoding p) (text_of ps) (text_of qs))

pub works_append : (ps qs : List Packet) → filter is_work (ps ++ qs) ≡ filter is_work ps ++ filter is_work qs
works_append [] qs = refl
works_append (p ∷ ps) qs = by (is_work p) (filter is_work (ps ++ qs)) (filter is_work ps) (filter is_work qs) (works_append ps qs)
  where
    by : (b : Bool) (xs ys zs : List Packet) → xs ≡ ys ++ zs → cond b (p ∷ xs) xs ≡ cond b (p ∷ ys) ys ++ zs
    by true xs ys zs h = ap (λ (t : List Packet). p ∷ t) h
    by false xs ys zs h = h

pub registered_append : (names : List (List ℕ)) (ps qs : List Packet) → registered_by names (ps ++ qs) ≡ registered_by (registered_by names ps) qs
registered_append names [] qs = refl
registered_append names (p ∷ ps) qs = registered_append (register names p) ps qs

pub one_append : (names : List (List ℕ)) (ps qs : List Packet) → OneAtATime names ps → OneAtATime (registered_by names ps) qs → OneAtATime names (ps ++ qs)
one_append names [] qs a b = b
one_append names (p ∷ ps) qs a b = (a.0, a.1, one_append (register names p) ps qs a.2 b)

pub introduces_append : (worker : List ℕ) (ps qs : List Packet) → Introduces worker ps → Introduces worker (ps ++ qs)
introduces_append worker [] qs h = absurd h
introduces_append worker (p ∷ ps) qs h = h

pub replies_append : (xs bs : List Telling) → replies (xs ++ bs) ≡ replies xs ++ replies bs
replies_append [] bs = refl
replies_append (a ∷ xs) bs = ap (λ (t : List Packet). reply a ++ t) (replies_append xs bs) ∙ sym (append_assoc (reply a) (replies xs) (replies bs))

-- ---- packets that answer

abbrev pub IsWork : Packet → Type 0
IsWork p = is_work p ≡ true

work_registers : (names : List (List ℕ)) (p : Packet) → IsWork p → register names p ≡ names
work_registers names (can_do name) h = absurd cc
work_registers names (cant_do name) h = absurd cc
work_registers names pre_sleep h = refl
work_registers names grab_job h = refl
work_registers names (set_client_id text) h = refl
work_registers names (work_status handle part whole) h = refl
work_registers names (work_complete handle bytes) h = refl
work_registers names (work_fail handle) h = refl
work_registers names (work_data handle bytes) h = refl
work_registers names (work_warning handle bytes) h = refl

work_asks : (p : Packet) → IsWork p → asks p ≡ false
work_asks (can_do name) h = refl
work_asks (cant_do name) h = refl
work_asks pre_sleep h = absurd cc
work_asks grab_job h = absurd cc
work_asks (set_client_id text) h = refl
work_asks (work_status handle part whole) h = refl
work_asks (work_complete handle bytes) h = refl
work_asks (work_fail handle) h = refl
work_asks (work_data handle bytes) h = refl
work_asks (work_warning handle bytes) h = refl

work_kept : (ps : List Packet) → AllByRecursion IsWork ps → filter is_work ps ≡ ps
work_kept [] h = refl
work_kept (p ∷ ps) h = rw h.0 (ap (λ (t : List Packet). p ∷ t) (work_kept ps h.1))

work_registered : (names : List (List ℕ)) (ps : List Packet) → AllByRecursion IsWork ps → registered_by names ps ≡ names
work_registered names [] h = refl
work_registered names (p ∷ ps) h = ap (λ (ns : List (List ℕ)). registered_by ns ps) (work_registers names p h.0) ∙ work_registered names ps h.1

work_one : (names : List (List ℕ)) (ps : List Packet) → length names ≤ 1 → AllByRecursion IsWork ps → OneAtATime names ps
work_one names [] few h = tt
work_one names (p ∷ ps) few h =
    let same = work_registers names p h.0 in
    (rw same few, λ asked. absurd (let no-ask = work_asks p h.0 in cc), rw same (work_one names ps few h.1))

remark_work : (handle : List ℕ) (r : Remark) → IsWork (remark_packet handle r)
remark_work handle (piece bytes) = refl
remark_work handle (warning bytes) = refl
remark_work handle (progress part whole) = refl

finish_work : (handle : List ℕ) (f : Finish) → IsWork (finish_packet handle f)
finish_work handle (complete bytes) = refl
finish_work handle fail = refl

remarks_work : (handle : List ℕ) (rs : List Remark) → AllByRecursion IsWork (map (remark_packet handle) rs)
remarks_work handle [] = tt
remarks_work handle (r ∷ rs) = (remark_work handle r, remarks_work handle rs)

either_work : (b : Bool) (ps qs : List Packet) → AllByRecursion IsWork ps → AllByRecursion IsWork qs → AllByRecursion IsWork (cond b ps qs)
either_work true ps qs a b = a
either_work false ps qs a b = b

pub answer_work : (handle : List ℕ) (o : Option Told) → AllByRecursion IsWork (answer_to handle o)
unfolding answer_to
answer_work handle None = (refl, tt)
answer_work handle (Some told) =
    either_work (list_all can_send (told_packets handle told)) (told_packets handle told) (work_fail handle ∷ [])
    (all_append IsWork (map (remark_packet handle) told.remarks) (finish_packet handle told.finish ∷ []) (remarks_work handle told.remarks) (finish_work handle told.finish, tt))
    (refl, tt)

-- ---- packets that lead on

-- Packets lead from some registered functions to others, with one function at a time, and answer these assignments_in.
pub record Leads (from : List (List ℕ)) (packets : List Packet) (to : List (List ℕ)) (answered : List Telling) : Type 0 where
  pub registered_is : registered_by from packets ≡ to
  pub one : OneAtATime from packets
  pub works : filter is_work packets ≡ replies answered
  pub few : length to ≤ 1

pub may_introduce : (worker : List ℕ) (ps : List Packet) → Introduces worker ps → MayIntroduce worker ps
may_introduce worker [] h = tt
may_introduce worker (p ∷ ps) h = h

-- an answer leads on
pub reply_leads : (registered : List (List ℕ)) (t : Telling) → length registered ≤ 1 → Leads registered (reply t) registered (t ∷ [])
reply_leads registered t few =
    let answer = reply t in
    let work = answer_work t.job.handle t.told in
    record {
      registered_is = work_registered registered answer work;
      one = work_one registered answer few work;
      works = work_kept answer work ∙ sym (append-nil answer);
      few = few;
    }

-- what is left after a prefix
pub left_over : (count : ℕ) (text : List ℕ) → count < length text → 0 < length (drop count text)
left_over count text h = rw (length-drop count text) (omega (arith, h))
