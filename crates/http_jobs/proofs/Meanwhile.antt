-- A request that goes out while its response is read: what was seen, step by step.
use Rattle.std.proofs.Common.{◌≡◌, ◌∙◌, ℕ, ◌+◌, ◌-◌, List, [], ◌∷◌, ◌++◌, length, take, drop, min, Option, None, Result, Ok, Err, sym, refl, ap, subst, inr, true, arith}
use Rattle.std.specs.Prelude.{IfErr, IfOk, MatchResult}
use Rattle.std.proofs.Math.Seq.{take-append-add}
use Rattle.std.proofs.lemmas.Grind.{common_steps}
use Rattle.std.proofs.lemmas.List.{take-append-drop}
use Rattle.http1.specs.declared.client.Client.{Client}
use Rattle.http1.specs.Client.{new_client}
use Rattle.http1.specs.declared.conn.Limits.{Limits}
use Rattle.http1.specs.declared.conn.Reading.TheVariants as Reads
use Rattle.byte_io.specs.Deadline.{is_past}
use Rattle.byte_io.specs.Sides.{HasText, Input, Output, and_then, counted}
use Rattle.byte_io.proofs.Devices.{more_gone, rest_taken, told_twice}
use Rattle.http_jobs.specs.declared.answers.Sent.{Sent}
use Rattle.http_jobs.specs.declared.answers.Went.{Went}
use Rattle.http_jobs.specs.declared.answers.Went.TheVariants.{Whole, Cut}
use Rattle.http_jobs.specs.declared.answers.Answer.{Answer}
use Rattle.http_jobs.specs.declared.answers.Bounds.{Bounds}
use Rattle.http_jobs.specs.declared.answers.Progress.{Progress}
use Rattle.http_jobs.specs.declared.answers.Progress.TheVariants.{Partway, Read}
use Rattle.http_jobs.specs.declared.answers.Received.{Received}
use Rattle.http_jobs.specs.declared.answers.Received.TheVariants as received
use Rattle.http_jobs.specs.declared.fault.Came.{Came}
use Rattle.http_jobs.specs.declared.fault.Unanswered.{Unanswered}
use Rattle.http_jobs.specs.declared.fault.Unanswered.TheVariants as unanswered
use Rattle.http_jobs.specs.declared.fault.Unserved.TheVariants as why
use Rattle.http_jobs.specs.declared.reader.ResponseReader.{ResponseReader}
use Rattle.http_jobs.specs.Clock.{InTime, IsLate, shown_then}
use Rattle.http_jobs.specs.Exchange.{IsAnswerIn, IsReceived}
use Rattle.http_jobs.specs.Meanwhile.{HasGone, HasNone, HasNoRefusal, HasRead, HasReceipt, HasReceived, HasSeen, IsReadTo, Moment, ReadsOn, Shown, came_by, moment}
use Rattle.http_jobs.specs.Reading.{HasAsked}
use Rattle.http_jobs.specs.Reasons.{Seen, came_of}
use Rattle.http_jobs.specs.Response.{is_success}
use Rattle.http_jobs.proofs.Coming.{starts_reader, wants_reader}
use Rattle.http_jobs.proofs.Exchanges.{after_read, in_time_both, late_after, nothing, sees_nothing, sees_read, shown_twice}

-- one read more
pub sees_more : (deadline : Option ℕ) (first : Moment) (seen : Seen) (input new : Input) (shown : Shown) (more : List ℕ) (lulls : ℕ)
    → HasSeen deadline first seen (moment input shown) → new.given ≡ and_then input.given more → new.lulls ≡ counted input.lulls lulls
    → new.failures ≡ input.failures → HasSeen deadline first (after_read seen more lulls) (moment new shown)
sees_more deadline first seen input new shown more lulls h bytes pauses same = record {
  sees = sees_read first.input input new first.shown shown seen more lulls h.sees bytes pauses;
  unfailed = same ∙ h.unfailed;
  in_time = h.in_time;
}

-- so many looks at the clock more
abbrev pub after_looks : Seen → List (Option ℕ) → Seen
after_looks seen times = record { read = seen.read; lulls = seen.lulls; times = seen.times ++ times }

module _ (limits : Limits) (bounds : Bounds) (first : Moment) (input new : Input) (shown later : Shown) (times : List (Option ℕ))
    (same : new ≡ input) (e : later ≡ shown_then shown times) where
  sees_later : (seen : Seen) → HasSeen bounds.deadline first seen (moment input shown) → InTime bounds.deadline times
      → HasSeen bounds.deadline first (after_looks seen times) (moment new later)
  sees_later seen h in_time = record {
    sees = (
      ap (λ (i : Input). i.given) same ∙ h.sees.0,
      ap (λ (i : Input). i.lulls) same ∙ h.sees.1,
      e ∙ ap (λ (o : Shown). shown_then o times) h.sees.2 ∙ shown_twice first.shown seen.times times,
    );
    unfailed = ap (λ (i : Input). i.failures) same ∙ h.unfailed;
    in_time = in_time_both bounds.deadline seen.times times h.in_time in_time;
  }

  -- the clock was looked at, in time
  pub read_later : (seen : Seen) (r : ResponseReader) → HasRead limits bounds.deadline first seen (moment input shown) r → InTime bounds.deadline times
      → HasRead limits bounds.deadline first (after_looks seen times) (moment new later) r
  read_later seen r h in_time =
      record { has_seen = sees_later seen h.has_seen in_time; partway = h.partway; wants = h.wants; came = h.came }

  pub read_to_later : (p : Progress) → IsReadTo limits bounds first (moment input shown) p → InTime bounds.deadline times → IsReadTo limits bounds first (moment new later) p
  read_to_later (Partway r) h in_time = (after_looks h.0 times, read_later h.0 r h.1 in_time)
  read_to_later (Read receipt) h in_time =
      record { seen = after_looks h.seen times; has_seen = sees_later h.seen h.has_seen in_time; received = h.received; came = h.came }

  late_in : (seen : Seen) (came : Came) → HasSeen bounds.deadline first seen (moment input shown) → came ≡ came_of seen.read → IsLate bounds.deadline times
      → HasNone limits bounds first (moment new later) (unanswered.Unserved why.Late came)
  late_in seen came h is late = record {
    seen = after_looks seen times;
    sees = (
      ap (λ (i : Input). i.given) same ∙ h.sees.0,
      ap (λ (i : Input). i.lulls) same ∙ h.sees.1,
      e ∙ ap (λ (o : Shown). shown_then o times) h.sees.2 ∙ shown_twice first.shown seen.times times,
    );
    why = (late_after bounds.deadline seen.times times h.in_time late, is);
  }

  -- the deadline came
  pub late_to : (p : Progress) → IsReadTo limits bounds first (moment input shown) p → IsLate bounds.deadline times
      → HasNone limits bounds first (moment new later) (unanswered.Unserved why.Late (came_by p))
  late_to (Partway r) h late = late_in h.0 r.came h.1.has_seen h.1.came late
  late_to (Read receipt) h late = late_in h.seen receipt.came h.has_seen h.came late

-- one look is late
pub late_once : (deadline time : Option ℕ) → is_past deadline time ≡ true → IsLate deadline (time ∷ [])
late_once deadline time late = ([], time, refl, tt, late)

-- nothing was read yet
pub read_nothing : (limits : Limits) (old client : Client) (deadline : Option ℕ) (first : Moment) (r : ResponseReader)
    → old ≡ new_client limits → HasAsked old.limits client → client.reading ≡ old.reading → r.client ≡ client → r.unread.items ≡ [] → r.at ≡ 0
    → r.status ≡ None → r.body.items ≡ [] → r.came ≡ came_of [] → HasRead limits deadline first nothing first r
read_nothing limits old client deadline first r new asked reads same unread at status body came =
    let is : client.reading ≡ Reads.Head = reads ∙ ap (λ (c : Client). c.reading) new in
    record {
      has_seen = record { sees = sees_nothing first.input first.shown; unfailed = refl; in_time = tt };
      partway = starts_reader limits client r same unread at status body is (subst (λ (l : Limits). HasAsked l client) (ap (λ (c : Client). c.limits) new) asked);
      wants = wants_reader limits client r same is;
      came = came;
    }

-- a response of success refuses no request of which a write failed
pub success_refuses_none : (limits : Limits) (bounds : Bounds) (first now : Moment) (answer : Answer) (came : Came) (e : Unanswered)
    → HasReceipt limits bounds first now (record { received = received.Whole answer; came = came }) → e ≡ unanswered.Unserved why.Write came
    → is_success answer.status ≡ true → HasNoRefusal limits bounds first now e
success_refuses_none limits bounds first now answer came e h is ok =
    subst (λ (x : Unanswered). HasNoRefusal limits bounds first now x) (sym is) (record {
      seen = h.seen;
      sees = h.has_seen.sees;
      why = inr (inr (h.received.response, h.received.rest, h.received.answers, ap is_success (sym h.received.status) ∙ ok));
      came = h.came;
    })

-- ---- what went out

module _ (old mid new : Output) (text : List ℕ) (count : ℕ) (before : HasText old (take count text) mid) where
  -- a prefix, and a prefix of what is left
  pub prefix_after : (more : ℕ) → new.got ≡ and_then mid.got (take more (take (length text - count) (drop count text)))
      → new.got ≡ and_then old.got (take (count + more) text)
  prefix_after more e = e ∙ ap (λ (t : List ℕ). and_then mid.got (take more t)) (rest_taken count text)
      ∙ ap (λ (o : Option (List ℕ)). and_then o (take more (drop count text))) before.0 ∙ more_gone old.got text count more

  -- a prefix, and all that is left
  pub gone_after : (went : Went) → HasGone went (take (length text - count) (drop count text)) mid new → HasGone went text old new
  gone_after Whole h = (
    h.0 ∙ ap (and_then mid.got) (rest_taken count text) ∙ ap (λ (o : Option (List ℕ)). and_then o (drop count text)) before.0
        ∙ told_twice old.got (take count text) (drop count text) ∙ ap (and_then old.got) (take-append-drop count text),
    h.1 ∙ before.1,
  )
  gone_after Cut h = ((count + h.0.0, prefix_after h.0.0 h.0.1), h.1 ∙ ap (λ (n : ℕ). n + 1) before.1)

module _ (old mid new : Output) (text rest : List ℕ) (before : HasText old text mid) where
  pub prefix_then : (more : ℕ) → new.got ≡ and_then mid.got (take more rest) → new.got ≡ and_then old.got (take (length text + more) (text ++ rest))
  prefix_then more e = e ∙ ap (λ (o : Option (List ℕ)). and_then o (take more rest)) before.0 ∙ told_twice old.got text (take more rest)
      ∙ ap (and_then old.got) (sym (take-append-add text rest more))

  -- one text, and then another
  pub gone_then : (went : Went) → HasGone went rest mid new → HasGone went (text ++ rest) old new
  gone_then Whole h = (h.0 ∙ ap (λ (o : Option (List ℕ)). and_then o rest) before.0 ∙ told_twice old.got text rest, h.1 ∙ before.1)
  gone_then Cut h = ((length text + h.0.0, prefix_then h.0.0 h.0.1), h.1 ∙ ap (λ (n : ℕ). n + 1) before.1)

-- a prefix of a text is one of that text and what comes after
pub prefix_first : (old new : Output) (text rest : List ℕ) (count : ℕ) → new.got ≡ and_then old.got (take count text)
    → (n : ℕ) × (new.got ≡ and_then old.got (take n (text ++ rest)))
prefix_first old new text rest count e = (min count (length text), e ∙ ap (and_then old.got) shorter)
  where
    shorter : take count text ≡ take (min count (length text)) (text ++ rest)
    shorter = grind (arith, common_steps)

-- what refuses a request of which a write failed, by a whole response
pub refusal_by : (r : Result Received Unanswered) (answer : Answer) (came : Came)
    → IfOk r (λ got. (limits : Limits) (max : ℕ) (read : List ℕ) → IsAnswerIn limits read answer → IsReceived limits max read got)
    → IfErr r (λ e. (e ≡ unanswered.Unserved why.Write came) × (is_success answer.status ≡ true))
    → (limits : Limits) (bounds : Bounds) (first now : Moment) → HasReceipt limits bounds first now (record { received = received.Whole answer; came = came })
    → MatchResult r (HasReceived limits bounds first now) (HasNoRefusal limits bounds first now)
refusal_by (Ok got) answer came ok err limits bounds first now h =
    record { seen = h.seen; has_seen = h.has_seen; is = ok limits bounds.max_body h.seen.read h.received }
refusal_by (Err e) answer came ok err limits bounds first now h = success_refuses_none limits bounds first now answer came e h err.0 err.1

-- what a read leaves is how far the response was read
pub read_to : (limits : Limits) (bounds : Bounds) (first : Moment) (seen : Seen) (now : Moment) (p : Progress) → ReadsOn limits bounds first seen now (Ok p) → IsReadTo limits bounds first now p
read_to limits bounds first seen now (Partway r) h = (_, h.3)
read_to limits bounds first seen now (Read receipt) h = h

-- the same of what was sent after a prefix
pub sent_after : (r : Result Sent Unanswered) (old mid new : Output) (text : List ℕ) (count : ℕ) → HasText old (take count text) mid
    → IfOk r (λ sent. HasGone sent.went (take (length text - count) (drop count text)) mid new) → IfOk r (λ sent. HasGone sent.went text old new)
sent_after (Ok sent) old mid new text count before h = gone_after old mid new text count before sent.went h
sent_after (Err e) old mid new text count before h = tt

-- the same of what was sent after a text
pub sent_then : (r : Result Sent Unanswered) (old mid new : Output) (text rest : List ℕ) → HasText old text mid
    → IfOk r (λ sent. HasGone sent.went rest mid new) → IfOk r (λ sent. HasGone sent.went (text ++ rest) old new)
sent_then (Ok sent) old mid new text rest before h = gone_then old mid new text rest before sent.went h
sent_then (Err e) old mid new text rest before h = tt
