-- What attempts do with links, one after the other.
use Rattle.std.proofs.Common.{◌≡◌, ◌+◌, ℕ, List, [], ◌∷◌, ◌++◌, Bool, true, false, length, map, refl, inl, inr, ap, sym, subst, ◌∙◌, arith, append_assoc, length-append, Option, Some, None, Ok, Err}
use Rattle.std.specs.Prelude.{◌≢◌, ◌<◌, Result, IfErr}
use Rattle.std.specs.List.{flat_map, AllByRecursion, AllPairs}
use Rattle.std.proofs.lemmas.List.{append-nil, map-append}
use Rattle.gear_status.specs.Status.{Line}
use Rattle.pool_settings.specs.Settings.{Settings}
use Rattle.pool_settings.specs.Slots.{slots}
use Rattle.pool_supervisor.specs.declared.attempt.Attempt.{Attempt}
use Rattle.pool_supervisor.specs.Asking.{Asks, IsNotTaken, Tells}
use Rattle.job_runner.specs.declared.end.SessionEnd.{SessionEnd}
use Rattle.job_runner.specs.Run.{Link}
use Rattle.worker_state.specs.declared.slot.WorkerName.{WorkerName}
use Rattle.pool_supervisor.specs.Dials.{DialCall, closed, then_called}
use Rattle.pool_supervisor.specs.EndCounts.{with_cause}
use Rattle.pool_supervisor.specs.declared.run_end.RunEnd.{RunEnd}
use Rattle.pool_supervisor.specs.Joined.{Joins}
use Rattle.pool_supervisor.specs.Sessions.{Counts, no_counts, counts_of, counted, PastSession, past_session, AllHad, HasEnded, IsPast, Covers, closing_of}
use Rattle.pool_supervisor.specs.declared.attempts.Until.{Until}
use Rattle.pool_supervisor.specs.declared.attempts.Until.TheVariants.{Rounds, Ended}
use Rattle.pool_supervisor.specs.Tries.{Rule, Look, slot_of, dials_of, IsOneDial, DialsOnce, FillFrom, FillsOne, Fills, IsLook, LookAt, FillsBy, FillsThese, Try, calls_of, joined_of, joined_by, lines_of}
use Rattle.pool_supervisor.specs.Tries.{LooksBy, IsTry, AttemptsBy, Attempts, DialsBy}
use Rattle.pool_supervisor.proofs.Sessions.{all_covered, are_sums, counted_both, counted_none, same_counts}
use Rattle.pool_supervisor.proofs.Called.{called_none, called_both, flat_map_both}

-- ---- lists

all_of_both : {A : Type 0} (P : A → Type 0) (xs ys : List A) → AllByRecursion P xs → AllByRecursion P ys → AllByRecursion P (xs ++ ys)
all_of_both P [] ys all more = more
all_of_both P (x ∷ xs) ys all more = (all.0, all_of_both P xs ys all.1 more)

-- ---- slots

-- a slot for which nothing was dialled
pub fills_none : (allows : Rule) (slot : ℕ) (before : Option (List DialCall)) → FillsOne allows slot before before
fills_none allows slot before = record { dials = []; calls = sym (called_none before); fills = inl refl }

-- a slot that may have a worker, for which one dial was made
pub fills_once : (allows : Rule) (slot : ℕ) (before now : Option (List DialCall)) (dials : List DialCall) → IsOneDial dials → allows slot true ≡ true
    → now ≡ then_called before dials → FillsOne allows slot before now
fills_once allows slot before now dials one allowed calls = record { dials = dials; calls = calls; fills = inr (allowed, one) }

fill_one_more : (allows : Rule) (first slot : ℕ) (looks : List Look) (dials : List DialCall) → slot ≡ first + length looks → FillFrom allows first looks
    → DialsOnce (allows slot) dials → FillFrom allows first (looks ++ record { slot = slot; dials = dials } ∷ [])
fill_one_more allows first slot [] dials at all fills = (omega (arith, at), subst (λ (k : ℕ). DialsOnce (allows k) dials) (omega (arith, at)) fills, tt)
fill_one_more allows first slot (l ∷ looks) dials at all fills = (all.0, all.1, fill_one_more allows (first + 1) slot looks dials (omega (arith, at)) all.2 fills)

pub no_slots : (allows : Rule) (before : Option (List DialCall)) → Fills allows 0 before before
no_slots allows before = record { looks = []; calls = sym (called_none before); all = refl; each = tt }

-- the calls of these looks, and of one more
one_look_more : (looks : List Look) (look : Look) (before between now : Option (List DialCall)) → between ≡ then_called before (flat_map dials_of looks)
    → now ≡ then_called between look.dials → now ≡ then_called before (flat_map dials_of (looks ++ look ∷ []))
one_look_more looks look before between now first then =
    called_both before between now (flat_map dials_of looks) look.dials first then
    ∙ ap (λ l. then_called before l) (ap (λ l. flat_map dials_of looks ++ l) (sym (append-nil look.dials)) ∙ sym (flat_map_both dials_of looks (look ∷ [])))

pub one_slot_more : (allows : Rule) (count : ℕ) (before between now : Option (List DialCall)) → Fills allows count before between
    → FillsOne allows count between now → Fills allows (count + 1) before now
one_slot_more allows count before between now f one =
    let look : Look = record { slot = count; dials = one.dials } in
    record {
      looks = f.looks ++ look ∷ [];
      calls = one_look_more f.looks look before between now f.calls one.calls;
      all = omega (arith, length-append f.looks (look ∷ []), f.all);
      each = fill_one_more allows 0 count f.looks one.dials (omega (arith, f.all)) f.each one.fills;
    }

-- every slot, once and in order
pub fills_in_order : (until : Until) (rounds : ℕ) (settings : Settings) (allows : Rule) (before now : Option (List DialCall)) → until ≡ Rounds rounds
    → Fills allows (slots settings) before now → FillsBy until settings allows before now
fills_in_order until rounds settings allows before now is fills =
    subst (λ (u : Until). FillsBy u settings allows before now) (sym is) (record { looks = fills.looks; calls = fills.calls; each = (fills.all, fills.each) })

-- ---- slots in turn

pub these_none : (settings : Settings) (allows : Rule) (before : Option (List DialCall)) → FillsThese settings allows [] before before
these_none settings allows before = record { looks = []; calls = sym (called_none before); slots_are = refl; each = tt }

pub these_more : (settings : Settings) (allows : Rule) (these : List ℕ) (slot : ℕ) (before between now : Option (List DialCall)) → FillsThese settings allows these before between
    → slot < slots settings → FillsOne allows slot between now → FillsThese settings allows (these ++ slot ∷ []) before now
these_more settings allows these slot before between now f within one =
    let look : Look = record { slot = slot; dials = one.dials } in
    record {
      looks = f.looks ++ look ∷ [];
      calls = one_look_more f.looks look before between now f.calls one.calls;
      slots_are = map-append slot_of f.looks (look ∷ []) ∙ ap (λ (l : List ℕ). l ++ slot ∷ []) f.slots_are;
      each = all_of_both (IsLook settings allows) f.looks (look ∷ []) f.each ((within, one.fills), tt);
    }

-- slots that came in turn, none of them twice
pub these_once : (settings : Settings) (allows : Rule) (these : List ℕ) (before now : Option (List DialCall)) → FillsThese settings allows these before now
    → AllPairs (λ one other. one ≢ other) these → FillsBy Ended settings allows before now
these_once settings allows these before now f once = record {
  looks = f.looks;
  calls = f.calls;
  each = (subst (λ (l : List ℕ). AllPairs (λ one other. one ≢ other) l) (sym f.slots_are) once, f.each);
}

-- ---- sessions

pub no_joins : (settings : Settings) (had_jobs : PastSession → Type 0) (counts : Counts) (before : Option (List DialCall)) → Joins settings had_jobs counts counts before before
no_joins settings had_jobs counts before = record { sessions = []; ended = tt; jobs = tt; counts = sym (counted_none counts); calls = sym (called_none before) }

-- one session was joined
pub one_join : (settings : Settings) (had_jobs : PastSession → Type 0) (worker : WorkerName) (end : SessionEnd) (link : Link) (old new : Counts) (before now : Option (List DialCall))
    → IsPast settings had_jobs worker end link → new.grabbed ≡ old.grabbed + end.grabbed → new.reported ≡ old.reported + end.reported
    → new.ends ≡ with_cause end.cause old.ends → now ≡ then_called before (closed link ∷ []) → Joins settings had_jobs old new before now
one_join settings had_jobs worker end link old new before now past grabs reports ends calls = record {
  sessions = past_session worker end link past.0 ∷ [];
  ended = (past.1, tt);
  jobs = (past.2, tt);
  counts = same_counts new (counted old (past_session worker end link past.0 ∷ [])) (omega (arith, grabs)) (omega (arith, reports)) ends;
  calls = calls;
}

pub more_joins : (settings : Settings) (had_jobs : PastSession → Type 0) (old mid new : Counts) (before between now : Option (List DialCall)) → Joins settings had_jobs old mid before between
    → Joins settings had_jobs mid new between now → Joins settings had_jobs old new before now
more_joins settings had_jobs old mid new before between now first then = record {
  sessions = first.sessions ++ then.sessions;
  ended = all_of_both (HasEnded settings) first.sessions then.sessions first.ended then.ended;
  jobs = all_of_both (λ (s : PastSession). ∥ had_jobs s ∥₁) first.sessions then.sessions first.jobs then.jobs;
  counts = counted_both old mid new first.sessions then.sessions first.counts then.counts;
  calls = called_both before between now (map closing_of first.sessions) (map closing_of then.sessions) first.calls then.calls
      ∙ ap (λ l. then_called before l) (sym (map-append closing_of first.sessions then.sessions));
}

-- the same, told by the end of a run
pub same_joins : (settings : Settings) (had_jobs : PastSession → Type 0) (old new : Counts) (run : RunEnd) (before now : Option (List DialCall)) → Joins settings had_jobs old new before now
    → run.totals.grabbed ≡ new.grabbed → run.totals.reported ≡ new.reported → run.ends ≡ new.ends → Joins settings had_jobs old (counts_of run) before now
same_joins settings had_jobs old new run before now joins grabs reports ends =
    record { sessions = joins.sessions; ended = joins.ended; jobs = joins.jobs; counts = same_counts (counts_of run) new grabs reports ends ∙ joins.counts; calls = joins.calls }

-- ---- lines

-- the pool did not take the load
pub tells_not_taken : (load : List Line) (line : Attempt) (before now : Option (List DialCall)) → Asks (Ok load) before now → IsNotTaken line → Tells line before now
tells_not_taken load line before now asks not_taken =
    subst (λ (l : Attempt). Tells l before now) (sym not_taken.1) (record { asked = asks.asked; calls = asks.calls; follows = (load, asks.answers) })

pub tells_if_not_taken : (load : List Line) (before now : Option (List DialCall)) (r : Result (Unit {0}) Attempt) → Asks (Ok load) before now
    → IfErr r IsNotTaken → IfErr r (λ line. Tells line before now)
tells_if_not_taken load before now (Ok x) asks not_taken = tt
tells_if_not_taken load before now (Err line) asks not_taken = tells_not_taken load line before now asks not_taken

-- ---- attempts

pub no_attempts : (until : Until) (settings : Settings) (allows : Rule) (had_jobs : PastSession → Type 0) (lines : List Attempt) (counts : Counts) (before : Option (List DialCall)) → Attempts until settings allows had_jobs lines lines counts counts before before
no_attempts until settings allows had_jobs lines counts before = record { tries = []; lines = sym (append-nil lines); counts = sym (counted_none counts); calls = sym (called_none before); each = tt }

-- the looks of an attempt
looked : (until : Until) (settings : Settings) (allows : Rule) (try : Try) (line : Attempt) → try.line ≡ Some line → LookAt until settings allows try.looks
    → LooksBy until settings allows try
looked (Rounds rounds) settings allows try line is looks = (looks, line, is)
looked Ended settings allows try line is looks = looks

pub one_attempt : (until : Until) (settings : Settings) (allows : Rule) (had_jobs : PastSession → Type 0) (line : Attempt) (old mid new : Counts) (before joined filled now : Option (List DialCall)) → Joins settings had_jobs old mid before joined
    → new ≡ mid → FillsBy until settings allows joined filled → Tells line filled now → Attempts until settings allows had_jobs [] (line ∷ []) old new before now
one_attempt until settings allows had_jobs line old mid new before joined filled now joins same fills tells =
    let try : Try = record { joined = joins.sessions; looks = fills.looks; asked = tells.asked; line = Some line } in
    let after = called_both joined filled now (flat_map dials_of fills.looks) tells.asked fills.calls tells.calls in
    let all = called_both before joined now (map closing_of joins.sessions) (flat_map dials_of fills.looks ++ tells.asked) joins.calls after in
    record {
      tries = try ∷ [];
      lines = refl;
      counts = same ∙ (joins.counts ∙ ap (λ l. counted old l) (sym (append-nil joins.sessions)));
      calls = all ∙ ap (λ l. then_called before l) (sym (append-nil (calls_of try)));
      each = (record { ended = joins.ended; jobs = joins.jobs; fills = looked until settings allows try line refl fills.each; follows = tells.follows }, tt);
    }

-- what is done between two attempts
pub one_refill : (until : Until) (settings : Settings) (allows : Rule) (had_jobs : PastSession → Type 0) (old mid new : Counts) (before joined now : Option (List DialCall)) → until ≡ Ended
    → Joins settings had_jobs old mid before joined → new ≡ mid → FillsBy Ended settings allows joined now → Attempts until settings allows had_jobs [] [] old new before now
one_refill until settings allows had_jobs old mid new before joined now ended joins same fills =
    let try : Try = record { joined = joins.sessions; looks = fills.looks; asked = []; line = None } in
    let dials = flat_map dials_of fills.looks in
    let all = called_both before joined now (map closing_of joins.sessions) dials joins.calls fills.calls in
    let made : Attempts Ended settings allows had_jobs [] [] old new before now =
    record {
      tries = try ∷ [];
      lines = refl;
      counts = same ∙ (joins.counts ∙ ap (λ l. counted old l) (sym (append-nil joins.sessions)));
      calls = all ∙ (ap (λ l. then_called before (map closing_of joins.sessions ++ l)) (sym (append-nil dials)) ∙ ap (λ l. then_called before l) (sym (append-nil (calls_of try))));
      each = (record { ended = joins.ended; jobs = joins.jobs; fills = fills.each; follows = refl }, tt);
    } in
    subst (λ (u : Until). Attempts u settings allows had_jobs [] [] old new before now) (sym ended) made

-- the same attempts, after other lines
pub attempts_after : (looking : Try → Type 0) (settings : Settings) (had_jobs : PastSession → Type 0) (lines more : List Attempt) (old new : Counts) (before now : Option (List DialCall)) → AttemptsBy looking settings had_jobs [] more old new before now
    → AttemptsBy looking settings had_jobs lines (lines ++ more) old new before now
attempts_after looking settings had_jobs lines more old new before now made = record { tries = made.tries; lines = ap (λ (l : List Attempt). lines ++ l) made.lines; counts = made.counts; calls = made.calls; each = made.each }

pub more_attempts : (looking : Try → Type 0) (settings : Settings) (had_jobs : PastSession → Type 0) (old mid new : List Attempt) (c d e : Counts) (before between now : Option (List DialCall)) → AttemptsBy looking settings had_jobs old mid c d before between
    → AttemptsBy looking settings had_jobs mid new d e between now → AttemptsBy looking settings had_jobs old new c e before now
more_attempts looking settings had_jobs old mid new c d e before between now first then = record {
  tries = first.tries ++ then.tries;
  lines = then.lines ∙ (ap (λ (l : List Attempt). l ++ flat_map lines_of then.tries) first.lines ∙ (append_assoc old (flat_map lines_of first.tries) (flat_map lines_of then.tries) ∙ ap (λ (l : List Attempt). old ++ l) (sym (flat_map_both lines_of first.tries then.tries))));
  counts = counted_both c d e (flat_map joined_of first.tries) (flat_map joined_of then.tries) first.counts then.counts
      ∙ ap (λ l. counted c l) (sym (flat_map_both joined_of first.tries then.tries));
  calls = called_both before between now (flat_map calls_of first.tries) (flat_map calls_of then.tries) first.calls then.calls
      ∙ ap (λ l. then_called before l) (sym (flat_map_both calls_of first.tries then.tries));
  each = all_of_both (IsTry settings looking had_jobs) first.tries then.tries first.each then.each;
}

-- attempts, and then what is done between two, which adds no line
pub more_refills : (looking : Try → Type 0) (settings : Settings) (had_jobs : PastSession → Type 0) (old new : List Attempt) (c d e : Counts) (before between now : Option (List DialCall)) → AttemptsBy looking settings had_jobs old new c d before between
    → AttemptsBy looking settings had_jobs [] [] d e between now → AttemptsBy looking settings had_jobs old new c e before now
more_refills looking settings had_jobs old new c d e before between now first then =
    let after = attempts_after looking settings had_jobs new [] d e between now then in
    let same = subst (λ (l : List Attempt). AttemptsBy looking settings had_jobs new l d e between now) (append-nil new) after in
    more_attempts looking settings had_jobs old new new c d e before between now first same

joined_ended : (looking : Try → Type 0) (settings : Settings) (had_jobs : PastSession → Type 0) (tries : List Try) → AllByRecursion (IsTry settings looking had_jobs) tries
    → AllByRecursion (HasEnded settings) (flat_map joined_of tries)
joined_ended looking settings had_jobs [] all = tt
joined_ended looking settings had_jobs (try ∷ tries) all =
    let one = all.0 in all_of_both (HasEnded settings) try.joined (flat_map joined_of tries) one.ended (joined_ended looking settings had_jobs tries all.1)

joined_had : (looking : Try → Type 0) (settings : Settings) (had_jobs : PastSession → Type 0) (tries : List Try) → AllByRecursion (IsTry settings looking had_jobs) tries
    → AllHad had_jobs (flat_map joined_of tries)
joined_had looking settings had_jobs [] all = tt
joined_had looking settings had_jobs (try ∷ tries) all =
    let one = all.0 in all_of_both (λ (s : PastSession). ∥ had_jobs s ∥₁) try.joined (flat_map joined_of tries) one.jobs (joined_had looking settings had_jobs tries all.1)

-- a whole run
pub dials_of_run : (looking : Try → Type 0) (settings : Settings) (had_jobs : PastSession → Type 0) (old new : List Attempt) (first middle : Counts) (run : RunEnd) (before between now : Option (List DialCall))
    → first ≡ no_counts → AttemptsBy looking settings had_jobs old new first middle before between → Joins settings had_jobs middle (counts_of run) between now
    → DialsBy looking settings had_jobs old new run before now
dials_of_run looking settings had_jobs old new first middle run before between now none attempts last =
    let from_none = subst (λ (c : Counts). AttemptsBy looking settings had_jobs old new c middle before between) none attempts in
    let ended = all_of_both (HasEnded settings) (flat_map joined_of from_none.tries) last.sessions (joined_ended looking settings had_jobs from_none.tries from_none.each) last.ended in
    let counts = counted_both no_counts middle (counts_of run) (flat_map joined_of from_none.tries) last.sessions from_none.counts last.counts in
    record {
      middle = middle;
      between = between;
      attempts = from_none;
      last = last;
      sums = are_sums settings (joined_by from_none.tries last.sessions) run ended counts;
      jobs = all_of_both (λ (s : PastSession). ∥ had_jobs s ∥₁) (flat_map joined_of from_none.tries) last.sessions
          (joined_had looking settings had_jobs from_none.tries from_none.each) last.jobs;
    }

-- the same run, by how long it made attempts
pub dials_until : (until other : Until) (settings : Settings) (allows : Rule) (had_jobs : PastSession → Type 0) (old new : List Attempt) (run : RunEnd) (before now : Option (List DialCall)) → until ≡ other
    → DialsBy (LooksBy until settings allows) settings had_jobs old new run before now → DialsBy (LooksBy other settings allows) settings had_jobs old new run before now
dials_until until other settings allows had_jobs old new run before now is dials =
    subst (λ (u : Until). DialsBy (LooksBy u settings allows) settings had_jobs old new run before now) is dials

-- ---- what is said of jobs

tries_covered : (looking : Try → Type 0) (settings : Settings) (wide narrow : PastSession → Type 0) (tries : List Try) → Covers wide narrow
    → AllByRecursion (IsTry settings looking narrow) tries → AllByRecursion (IsTry settings looking wide) tries
tries_covered looking settings wide narrow [] covers all = tt
tries_covered looking settings wide narrow (try ∷ tries) covers all =
    let one = all.0 in (
      record { ended = one.ended; jobs = all_covered wide narrow try.joined covers one.jobs; fills = one.fills; follows = one.follows },
      tries_covered looking settings wide narrow tries covers all.1,
    )

pub dials_covered : (looking : Try → Type 0) (settings : Settings) (wide narrow : PastSession → Type 0) (old new : List Attempt) (run : RunEnd) (before now : Option (List DialCall)) → Covers wide narrow
    → DialsBy looking settings narrow old new run before now → DialsBy looking settings wide old new run before now
dials_covered looking settings wide narrow old new run before now covers dials =
    let made = dials.attempts in
    let last = dials.last in
    record {
      middle = dials.middle;
      between = dials.between;
      attempts = record { tries = made.tries; lines = made.lines; counts = made.counts; calls = made.calls; each = tries_covered looking settings wide narrow made.tries covers made.each };
      last = record { sessions = last.sessions; ended = last.ended; jobs = all_covered wide narrow last.sessions covers last.jobs; counts = last.counts; calls = last.calls };
      sums = dials.sums;
      jobs = all_covered wide narrow (joined_by made.tries last.sessions) covers dials.jobs;
    }
