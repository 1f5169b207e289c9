-- Sessions that have ended, and their sums.
use Rattle.std.proofs.Common.{◌≡◌, ◌⊎◌, ◌+◌, ◌<◌, ℕ, List, [], ◌∷◌, ◌++◌, Option, Some, None, refl, subst, sym, ap, ◌∙◌, arith, inl, inr}
use Rattle.std.proofs.Math.Logic.{∥∥₁_elim, ∥∥₁_prop}
use Rattle.std.specs.List.{AllByRecursion}
use Rattle.std.proofs.lemmas.List.Sums.{sum_by-append}
use Rattle.byte_io.specs.Sides.{and_then}
use Rattle.gear_packets.specs.Response.{AssignedJob}
use Rattle.worker_state.specs.declared.slot.WorkerName.{WorkerName}
use Rattle.std.specs.Prelude.{sum_by, IfSome, IfNone}
use Rattle.pool_settings.specs.Settings.{Settings}
use Rattle.pool_settings.specs.Slots.{slots}
use Rattle.job_runner.specs.declared.end.SessionEnd.{SessionEnd}
use Rattle.job_runner.specs.declared.jobs.NotDone.{NotDone}
use Rattle.job_runner.specs.Book.{Ledger}
use Rattle.job_runner.specs.Course.{session_of}
use Rattle.job_runner.specs.Loop.{duty_of}
use Rattle.job_runner.specs.Run.{Link, Served, EndTold}
use Rattle.job_runner.specs.Told.{ArePrepared, Told, Telling, AreTold, IsMeant}
use Rattle.worker_state.specs.OrderParts.{OrderParts}
use Rattle.pool_supervisor.specs.Dials.{IsNew}
use Rattle.pool_supervisor.specs.EndCounts.{with_cause}
use Rattle.pool_supervisor.specs.declared.ends.EndCounts.{EndCounts}
use Rattle.pool_supervisor.specs.declared.run_end.RunEnd.{RunEnd}
use Rattle.pool_supervisor.specs.Published.{AreSeen}
use Rattle.pool_supervisor.specs.Sessions.{Counts, no_counts, counts_of, counted, ends_after, PastSession, past_session, turned_away, HasEnded, HadJobs, HadNamedJobs, IsPast, AllHad, AreSums, Covers}

-- a session of a worker of the run, by what its run promises
pub is_past : {L F : Type 0} (see : L → Link) (tells : F → F → AssignedJob → Option Told → Type 0) (fails : F → F → AssignedJob → NotDone → Type 0)
    (prepares : F → F → Type 0) (gives : WorkerName → F → Type 0) (denies : WorkerName → Type 0) (had_jobs : PastSession → Type 0)
    (settings own : Settings) (worker : WorkerName) (end : SessionEnd) (seen : List OrderParts) (old new : L)
    → Covers had_jobs (HadJobs tells fails prepares gives denies) → own ≡ settings → worker.slot < slots settings → IsNew (see old)
    → (denies worker × (new ≡ old) × (end ≡ turned_away))
    ⊎ ((read bytes : List ℕ) × (told : List Telling) × (book : Ledger) × (first last : F) × gives worker first × ((see new).input.given ≡ and_then (see old).input.given read)
    × ((see new).output.got ≡ and_then (see old).output.got bytes) × EndTold tells fails prepares first last end.cause told
    × Served (session_of (duty_of own worker) (see old).output.got read) told bytes (see old) (see new) book end × AreSeen seen book.orders)
    → IsPast settings had_jobs worker end (see new)
is_past see tells fails prepares gives denies had_jobs settings own worker end seen old new covers same known fresh (inl away) =
    let session = past_session worker end (see new) None in (
      None,
      record { known = known; served = tt; away = (away.2, subst (λ link. IsNew (see link)) (sym away.1) fresh) },
      covers session (record { given = tt; denied = away.0 }),
    )
is_past see tells fails prepares gives denies had_jobs settings own worker end seen old new covers same known fresh (inr ran) =
    let session = past_session worker end (see new) (Some ran.2) in (
      Some ran.2,
      record {
        known = known;
        served = record {
          first = see old;
          fresh = fresh;
          read = ran.0;
          bytes = ran.1;
          book = ran.3;
          reads = ran.7;
          writes = ran.8;
          served = subst (λ (s : Settings). Served (session_of (duty_of s worker) (see old).output.got ran.0) ran.2 ran.1 (see old) (see new) ran.3 end) same ran.10;
        };
        away = tt;
      },
      covers session (record { given = (ran.4, ran.5, ran.6, ran.9); denied = tt }),
    )

-- ---- what they counted

abbrev counts : ℕ → ℕ → EndCounts → Counts
counts grabbed reported ends = record { grabbed = grabbed; reported = reported; ends = ends }

pub same_counts : (one other : Counts) → one.grabbed ≡ other.grabbed → one.reported ≡ other.reported → one.ends ≡ other.ends → one ≡ other
same_counts one other grabs reports ends =
    ap (λ (g : ℕ). counts g one.reported one.ends) grabs
    ∙ (ap (λ (r : ℕ). counts other.grabbed r one.ends) reports ∙ ap (λ (e : EndCounts). counts other.grabbed other.reported e) ends)

pub counted_none : (before : Counts) → counted before [] ≡ before
counted_none before = same_counts (counted before []) before (omega arith) (omega arith) refl

ends_both : (before : EndCounts) (xs ys : List PastSession) → ends_after (ends_after before xs) ys ≡ ends_after before (xs ++ ys)
ends_both before [] ys = refl
ends_both before (x ∷ xs) ys = ends_both (with_cause x.end.cause before) xs ys

-- what some sessions counted, and then more
pub counted_both : (before between now : Counts) (xs ys : List PastSession) → between ≡ counted before xs → now ≡ counted between ys → now ≡ counted before (xs ++ ys)
counted_both before between now xs ys first then =
    let grabs : now.grabbed ≡ before.grabbed + sum_by (λ (s : PastSession). s.end.grabbed) (xs ++ ys)
    = omega (arith, ap (λ (c : Counts). c.grabbed) first, ap (λ (c : Counts). c.grabbed) then, sum_by-append (λ (s : PastSession). s.end.grabbed) xs ys) in
    let reports : now.reported ≡ before.reported + sum_by (λ (s : PastSession). s.end.reported) (xs ++ ys)
    = omega (arith, ap (λ (c : Counts). c.reported) first, ap (λ (c : Counts). c.reported) then, sum_by-append (λ (s : PastSession). s.end.reported) xs ys) in
    let ends : now.ends ≡ ends_after before.ends (xs ++ ys)
    = ap (λ (c : Counts). c.ends) then ∙ (ap (λ (c : Counts). ends_after c.ends ys) first ∙ ends_both before.ends xs ys) in
    same_counts now (counted before (xs ++ ys)) grabs reports ends

-- the sums of sessions, where none was counted before
pub are_sums : (settings : Settings) (sessions : List PastSession) (run : RunEnd) → AllByRecursion (HasEnded settings) sessions → counts_of run ≡ counted no_counts sessions
    → AreSums settings sessions run
are_sums settings sessions run ended counts = record {
  ended = ended;
  grabs = omega (arith, ap (λ (c : Counts). c.grabbed) counts);
  reports = omega (arith, ap (λ (c : Counts). c.reported) counts);
  causes = ap (λ (c : Counts). c.ends) counts;
}

-- ---- jobs by name

abbrev by_name : {J : Type 0} → (J → List ℕ → List ℕ → Option Told) → J → J → AssignedJob → Option Told → Type 0
by_name meaning before after job told = (after ≡ before) × (told ≡ meaning before job.function job.payload)

-- what stays as it is to get ready
abbrev same : {J : Type 0} → J → J → Type 0
same before after = after ≡ before

are_same : {J : Type 0} (first last : J) (between : List J) → ArePrepared same first last between → last ≡ first
are_same first last [] e = e
are_same first last (next ∷ more) h = are_same next last more h.1 ∙ h.0

told_so : {J : Type 0} (meaning : J → List ℕ → List ℕ → Option Told) (source first last : J) (told : List Telling) → first ≡ source
    → AreTold (by_name meaning) same first last told → AllByRecursion (IsMeant (meaning source)) told
told_so meaning source first last [] from all = tt
told_so meaning source first last (t ∷ ts) from all =
    let ready = are_same first all.0 all.2.0 all.2.1 ∙ from in (
      all.3.1 ∙ ap (λ j. meaning j t.job.function t.job.payload) ready,
      told_so meaning source all.1 last ts (all.3.0 ∙ ready) all.4,
    )

named_or_not : {J : Type 0} (source : J) (meaning : J → List ℕ → List ℕ → Option Told) (fails : J → J → AssignedJob → NotDone → Type 0) (session : PastSession) (told : Option (List Telling))
    → session.told ≡ told → HadJobs (by_name meaning) fails same (λ (w : WorkerName) (j : J). j ≡ source) (λ (w : WorkerName). ⊥) session → ∥ HadNamedJobs (meaning source) session ∥₁
named_or_not source meaning fails session None is had = absurd (subst (λ (o : Option (List Telling)). IfNone o ⊥) is had.denied)
named_or_not {J} source meaning fails session (Some told) is had =
    let given = subst (λ (o : Option (List Telling)). IfSome o (λ (ts : List Telling). (first last : J) × (first ≡ source) × EndTold (by_name meaning) fails same first last session.end.cause ts)) is had.given in
    ∣ (told, is, told_so meaning source given.0 given.3.0 told given.2 given.3.1) ∣₁

-- the jobs of a source that gives each session the same jobs by name
pub named : {J : Type 0} (source : J) (meaning : J → List ℕ → List ℕ → Option Told) (fails : J → J → AssignedJob → NotDone → Type 0)
    → Covers (HadNamedJobs (meaning source)) (HadJobs (by_name meaning) fails same (λ (w : WorkerName) (j : J). j ≡ source) (λ (w : WorkerName). ⊥))
named source meaning fails session had = named_or_not source meaning fails session session.told refl had

pub all_covered : (wide narrow : PastSession → Type 0) (sessions : List PastSession) → Covers wide narrow → AllHad narrow sessions → AllHad wide sessions
all_covered wide narrow [] covers all = tt
all_covered wide narrow (session ∷ sessions) covers all = (∥∥₁_elim all.0 ∥∥₁_prop (λ had. covers session had), all_covered wide narrow sessions covers all.1)
