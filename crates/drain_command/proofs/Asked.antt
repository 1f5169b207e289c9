-- The request for a drain, and what comes of it.
use Rattle.std.proofs.Common.{◌≡◌, ℕ, Bool, true, false, List, [], ◌∷◌, ◌++◌, codes, count_by, take, Option, Some, None, Result, Ok, Err, refl, ap, sym, subst, ◌∙◌, inl, inr, append_assoc}
use Rattle.std.proofs.lemmas.List.{append-nil}
use Rattle.std.specs.Prelude.{IfOk, MatchResult, Vec}
use Rattle.std.specs.List.{list_all}
use Rattle.std.specs.declared.alloc.Global.{Global}
use Rattle.httparse.specs.Grammar.{is_token_byte}
use Rattle.http1.specs.Text.{eq_ignore_case}
use Rattle.http1.specs.Fields.{is_named}
use Rattle.http1.specs.Head.{is_header}
use Rattle.byte_io.specs.Sides.{and_then}
use Rattle.job_runner.specs.Run.{Link}
use Rattle.http_jobs.specs.Exchange.{Explains, IsReceived, Refuses, Sends}
use Rattle.http_jobs.specs.Post.{AreOrdinary, CanBeSent}
use Rattle.http_jobs.specs.Reasons.{Seen}
use Rattle.http_jobs.specs.Response.{head_limits, is_success}
use Rattle.http_jobs.specs.Serving.{DialCall, IsNew, closed, opened, then_called}
use Rattle.http_jobs.specs.declared.answers.Answer.{Answer}
use Rattle.http_jobs.specs.declared.answers.Received.{Received}
use Rattle.http_jobs.specs.declared.answers.Received.TheVariants as received
use Rattle.http_jobs.specs.declared.fault.NotDone.{NotDone}
use Rattle.http_jobs.specs.declared.fault.NotDone.TheVariants.{Unserved as Not, Memory as NoMemory}
use Rattle.http_jobs.specs.declared.fault.Unserved.TheVariants as why
use Rattle.plan_commands.specs.declared.fault.Fault.{Fault}
use Rattle.plan_commands.specs.declared.fault.Fault.TheVariants as fault
use Rattle.plan_commands.specs.declared.fault.PageError.{PageError}
use Rattle.plan_commands.specs.declared.fault.PageError.TheVariants as page
use Rattle.drain_command.specs.Drain.{drain_target, drain_headers, drain_request, most_totals, Carried, IsUnanswered, IsToldIn, IsNotToldIn, ComesTo, TakesAnswer, TakesWhatCame, as_fault, came_to, is_last, AfterTries}

-- ---- HTTP allows the request

valid_headers : list_all is_header drain_headers ≡ true
unfolding is_token_byte
valid_headers = refl

one_host : count_by (is_named (codes "host")) drain_headers ≡ 1
unfolding eq_ignore_case
one_host = refl

ordinary_headers : AreOrdinary drain_headers
unfolding eq_ignore_case
ordinary_headers = (record { framing = refl; upgrade = refl }, (record { framing = refl; upgrade = refl }, tt))

pub can_be_sent : CanBeSent drain_target drain_headers
can_be_sent = record { aimed = refl; valid = valid_headers; hosted = one_host; ordinary = ordinary_headers }

-- ---- what comes of it

abbrev pub Came : Type 0
Came = Result (Vec ℕ Global) Fault

module _ (before after : Link) (seen : Seen) (deadline : Option ℕ) (fresh : IsNew before) (back : after.input.given ≡ and_then before.input.given seen.read)
    (count : ℕ) (part : after.output.got ≡ and_then before.output.got (take count drain_request)) where
  carried : Carried (take count drain_request) seen.read before after
  carried = record { fresh = fresh; out = part; back = back }

  unanswered_by : (e : NotDone) → TakesWhatCame (Err e) (Err (fault.Page page.Unanswered)) → Explains most_totals deadline seen before after e → IsUnanswered after
  unanswered_by (Not (why.Unreachable reason)) t h = absurd h
  unanswered_by (Not why.Write) t h = (before, count, deadline, seen, carried, inl (why.Write, h))
  unanswered_by (Not why.Read) t h = (before, count, deadline, seen, carried, inl (why.Read, h))
  unanswered_by (Not why.Ended) t h = (before, count, deadline, seen, carried, inl (why.Ended, h))
  unanswered_by (Not why.Late) t h = (before, count, deadline, seen, carried, inl (why.Late, h))
  unanswered_by (Not (why.NoResponse e)) t h = (before, count, deadline, seen, carried, inl (why.NoResponse e, h))
  unanswered_by (Not (why.Status status)) t h = cc
  unanswered_by (Not why.Endless) t h = (before, count, deadline, seen, carried, inl (why.Endless, h))
  unanswered_by NoMemory t h = cc

  by_error : (e : NotDone) (came : Came) → TakesWhatCame (Err e) came → Explains most_totals deadline seen before after e → ComesTo after came
  by_error (Not (why.Status status)) came t h = subst (ComesTo after) (sym t) (before, count, seen.read, carried, inr h)
  by_error NoMemory came t h = subst (ComesTo after) (sym t) tt
  by_error (Not (why.Unreachable reason)) came t h = absurd h
  by_error (Not why.Write) came t h = subst (ComesTo after) (sym t) (unanswered_by (Not why.Write) refl h)
  by_error (Not why.Read) came t h = subst (ComesTo after) (sym t) (unanswered_by (Not why.Read) refl h)
  by_error (Not why.Ended) came t h = subst (ComesTo after) (sym t) (unanswered_by (Not why.Ended) refl h)
  by_error (Not why.Late) came t h = subst (ComesTo after) (sym t) (unanswered_by (Not why.Late) refl h)
  by_error (Not (why.NoResponse e)) came t h = subst (ComesTo after) (sym t) (unanswered_by (Not (why.NoResponse e)) refl h)
  by_error (Not why.Endless) came t h = subst (ComesTo after) (sym t) (unanswered_by (Not why.Endless) refl h)

  abbrev Sent : Received → Type 0
  Sent received = Sends drain_request before.output after.output (Refuses received)

  -- a response of status 200 is no refusal
  sent_whole : (answer : Answer) → answer.status ≡ 200 → Sent (received.Whole answer) → after.output.got ≡ and_then before.output.got drain_request
  sent_whole answer ok (sent, got, inl (is, none)) = got ∙ ap (and_then before.output.got) is
  sent_whole answer ok (sent, got, inr (part, one, refused)) =
      let no : true ≡ false = sym (ap is_success ok) ∙ refused.0 in cc

  by_answer : (answer : Answer) (taken : Result (Vec ℕ Global) PageError) → Sent (received.Whole answer)
      → TakesAnswer answer taken → IsReceived head_limits most_totals seen.read (received.Whole answer) → ComesTo after (as_fault taken)
  by_answer answer (Ok totals) sent t h = record {
    before = before;
    read = seen.read;
    rest = h.rest;
    response = h.response;
    carried = record { fresh = fresh; out = sent_whole answer t.0 sent; back = back };
    answers = h.answers;
    status = sym h.status ∙ t.0;
    bounded = sym h.ends ∙ t.1;
    body = ap (λ (v : Vec ℕ Global). v.items) t.2 ∙ h.body;
  }
  by_answer answer (Err page.Unanswered) sent t h =
      (before, count, deadline, seen, carried, inr (inr (h.response, h.rest, h.answers, sym h.ends ∙ t.1)))
  by_answer answer (Err (page.Refused status)) sent t h =
      (before, count, seen.read, carried, inl (h.response, h.rest, h.answers, sym h.status ∙ sym t.1, (λ e. t.0 (sym t.1 ∙ e))))
  by_answer answer (Err page.Unreached) sent t h = absurd t

  pub comes : (r : Result Received NotDone) (came : Came) → IfOk r Sent
      → TakesWhatCame r came → MatchResult r (IsReceived head_limits most_totals seen.read) (Explains most_totals deadline seen before after) → ComesTo after came
  comes (Ok (received.Whole answer)) came sent t h = subst (ComesTo after) (sym t.2) (by_answer answer t.0 sent t.1 h)
  comes (Ok received.TooLarge) came sent t h =
      subst (ComesTo after) (sym t) (before, count, deadline, seen, carried, inr (inl h))
  comes (Err e) came sent t h = by_error e came t h

-- ---- one try

abbrev pub only : Link → List DialCall
only after = opened ∷ closed after ∷ []

pub once : (after : Link) (came : Came) → ComesTo after came → MatchResult came (λ totals. IsToldIn (only after) totals.items) (IsNotToldIn (only after))
once after (Ok totals) h = (after, ([], refl), h)
once after (Err (fault.Page page.Unanswered)) h = (after, ([], refl), h)
once after (Err (fault.Page (page.Refused status))) h = (after, ([], refl), h)
once after (Err fault.Memory) h = tt
once after (Err (fault.Page page.Unreached)) h = absurd h
once after (Err (fault.Settings e)) h = absurd h
once after (Err (fault.Services e)) h = absurd h
once after (Err (fault.UnknownWorker e)) h = absurd h
once after (Err (fault.Status e)) h = absurd h
once after (Err (fault.Report e)) h = absurd h
once after (Err (fault.BadCommand e)) h = absurd h
once after (Err (fault.File file e)) h = absurd h
once after (Err fault.TooLong) h = absurd h
once after (Err fault.ReadFault) h = absurd h
once after (Err fault.WriteFault) h = absurd h

-- ---- tries one after the other

-- one more that is not answered
one_more : (was_there : Bool) (calls more : List DialCall) → AfterTries was_there calls → IsNotToldIn more (fault.Page page.Unanswered) → AfterTries true (calls ++ more)
one_more false calls more none h = subst (λ (x : List DialCall). AfterTries true (x ++ more)) (sym none) h
one_more true calls more (after, (rest, e), un) h = (after, (rest ++ more, ap (λ (x : List DialCall). x ++ more) e), un)

-- the same of one after which another comes
pub still : (was_there : Bool) (calls more : List DialCall) (came : Came) → AfterTries was_there calls → is_last came ≡ false
    → MatchResult came (λ totals. IsToldIn more totals.items) (IsNotToldIn more) → AfterTries true (calls ++ more)
still was_there calls more (Ok totals) tries e h = cc
still was_there calls more (Err (fault.Page page.Unreached)) tries e h = cc
still was_there calls more (Err (fault.Page page.Unanswered)) tries e h = one_more was_there calls more tries h
still was_there calls more (Err (fault.Page (page.Refused status))) tries e h = cc
still was_there calls more (Err fault.Memory) tries e h = cc
still was_there calls more (Err (fault.Settings x)) tries e h = cc
still was_there calls more (Err (fault.Services x)) tries e h = cc
still was_there calls more (Err (fault.UnknownWorker x)) tries e h = cc
still was_there calls more (Err (fault.Status x)) tries e h = cc
still was_there calls more (Err (fault.Report x)) tries e h = cc
still was_there calls more (Err (fault.BadCommand x)) tries e h = cc
still was_there calls more (Err (fault.File file x)) tries e h = cc
still was_there calls more (Err fault.TooLong) tries e h = cc
still was_there calls more (Err fault.ReadFault) tries e h = cc
still was_there calls more (Err fault.WriteFault) tries e h = cc

-- the last one
pub the_last : (was_there : Bool) (calls more : List DialCall) (came : Came) → AfterTries was_there calls
    → MatchResult came (λ totals. IsToldIn more totals.items) (IsNotToldIn more)
    → MatchResult (came_to was_there came) (λ totals. IsToldIn (calls ++ more) totals.items) (IsNotToldIn (calls ++ more))
the_last false calls more came none h =
    subst (λ (x : List DialCall). MatchResult (came_to false came) (λ totals. IsToldIn (x ++ more) totals.items) (IsNotToldIn (x ++ more))) (sym none) (as_it_is came h)
  where
    as_it_is : (r : Came) → MatchResult r (λ totals. IsToldIn more totals.items) (IsNotToldIn more)
        → MatchResult (came_to false r) (λ totals. IsToldIn more totals.items) (IsNotToldIn more)
    as_it_is r m = m
the_last true calls more (Ok totals) tries (after, (prefix, e), told) =
    (after, (calls ++ prefix, ap (λ (x : List DialCall). calls ++ x) e ∙ sym (append_assoc calls prefix _)), told)
the_last true calls more (Err (fault.Page page.Unreached)) (after, (rest, e), un) h = (after, (rest ++ more, ap (λ (x : List DialCall). x ++ more) e), un)
the_last true calls more (Err (fault.Page page.Unanswered)) (after, (rest, e), un) h = (after, (rest ++ more, ap (λ (x : List DialCall). x ++ more) e), un)
the_last true calls more (Err (fault.Page (page.Refused status))) tries (after, (prefix, e), refused) =
    (after, (calls ++ prefix, ap (λ (x : List DialCall). calls ++ x) e ∙ sym (append_assoc calls prefix _)), refused)
the_last true calls more (Err fault.Memory) tries h = tt
the_last true calls more (Err (fault.Settings e)) tries h = absurd h
the_last true calls more (Err (fault.Services e)) tries h = absurd h
the_last true calls more (Err (fault.UnknownWorker e)) tries h = absurd h
the_last true calls more (Err (fault.Status e)) tries h = absurd h
the_last true calls more (Err (fault.Report e)) tries h = absurd h
the_last true calls more (Err (fault.BadCommand e)) tries h = absurd h
the_last true calls more (Err (fault.File file e)) tries h = absurd h
the_last true calls more (Err fault.TooLong) tries h = absurd h
the_last true calls more (Err fault.ReadFault) tries h = absurd h
the_last true calls more (Err fault.WriteFault) tries h = absurd h

-- ---- calls

abbrev pub Calls : Type 0
Calls = Option (List DialCall)

pub called_twice : (o : Calls) (a b : List DialCall) → then_called (then_called o a) b ≡ then_called o (a ++ b)
called_twice None a b = refl
called_twice (Some calls) a b = ap Some (append_assoc calls a b)

pub called_nothing : (o : Calls) → o ≡ then_called o []
called_nothing None = refl
called_nothing (Some calls) = ap Some (sym (append-nil calls))
