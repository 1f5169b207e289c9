-- Jobs that are handed out, and what the state says of them ever after.
use Rattle.std.proofs.Common.{◌≡◌, ℕ, ◌+◌, ◌-◌, Bool, true, false, cond, List, [], ◌∷◌, ◌++◌, length, None, Some, inl, inr, refl, sym, ap, subst, ◌∙◌, arith}
use Rattle.std.specs.Prelude.{slice_get, ◌==◌}
use Rattle.pool_settings.specs.Settings.{AreSettings}
use Rattle.worker_state.specs.Slots.{is_open}
use Rattle.pool_core.specs.declared.event.Job.{Job}
use Rattle.pool_core.specs.declared.event.Forgotten.{Forgotten}
use Rattle.pool_core.specs.Machine.{State, job_at, standing_in}
use Rattle.pool_core.specs.Kept.{IsSoundState}
use Rattle.pool_core.specs.Book.{Book}
use Rattle.pool_core.specs.Laws.{ExtendsState, Called, Outcome, Leaves, AllCalled, last_of, all_forgotten, AreNext, JobsAreHandedOutOnce}
use Rattle.pool_core.proofs.Sound.{sound_after}
use Rattle.pool_core.proofs.Grabbers.{got_prefix}
use Rattle.pool_core.proofs.Lasting.{same_jobs, same_slots, extends_after, extends_trans, chapter_sound}

prefix_by : {X : Type 0} (xs ys : List X) (i : ℕ) (x : X) (b : Bool) → cond b None (slice_get xs i) ≡ Some x → cond b None (slice_get (xs ++ ys) i) ≡ Some x
prefix_by xs ys i x true is = absurd (cc)
prefix_by xs ys i x false is = got_prefix xs ys i x is

-- a job stays where more are grabbed
job_stays : (old new : State) (k : ℕ) (x : Job) → ExtendsState old new → job_at old.jobs k ≡ Some x → job_at new.jobs k ≡ Some x
job_stays old new k x h is = ap (λ (xs : List Job). job_at xs k) h.jobs.1 ∙ prefix_by old.jobs h.jobs.0 (k - 1) x (k == 0) is

-- a call leaves the state, or one that extends it, and it stays sound
record Goes (old new : Book) : Type 0 where
  settings : new.settings ≡ old.settings
  sound : IsSoundState new.settings new.state
  extends : ExtendsState old.state new.state

goes_same : (old new : Book) → IsSoundState old.settings old.state → new.settings ≡ old.settings → new.state ≡ old.state → Goes old new
goes_same old new h e f =
    record {
      settings = e;
      sound = rw (e, f) h;
      extends = subst (ExtendsState old.state) (sym f) (same_jobs old.state old.state refl (λ k x is closed. is) (same_slots old.state));
    }

goes_called : (old new : Book) → AreSettings old.settings → IsSoundState old.settings old.state → Called old new → Goes old new
goes_called old new r h c =
    elim c [
      | inl e ↦ goes_same old new h (ap (λ (b : Book). b.settings) e) (ap (λ (b : Book). b.state) e)
      | inr t ↦ record {
        settings = t.1.settings;
        sound = rw (t.1.settings, t.1.state) (sound_after old.settings t.0 old.state r h t.1.possible);
        extends = subst (ExtendsState old.state) (sym t.1.state) (extends_after old.settings t.0 old.state h t.1.possible);
      }
    ]

goes_call : (old : Book) (new : Outcome) → AreSettings old.settings → IsSoundState old.settings old.state → Leaves old new → Goes old new.book
goes_call old new r h c =
    elim c [
      | inl t ↦ goes_called old new.book r h t.0
      | inr c' ↦
          elim c' [
            | inl t ↦ goes_same old new.book h (ap (λ (b : Book). b.settings) t.0) (ap (λ (b : Book). b.state) t.0)
            | inr t ↦ goes_same old new.book h (ap (λ (b : Book). b.settings) t.1.3) (ap (λ (b : Book). b.state) t.1.3)
          ]
    ]

goes_all : (book : Book) (calls : List Outcome) → AreSettings book.settings → IsSoundState book.settings book.state → AllCalled book calls → ExtendsState book.state (last_of book calls).state
goes_all book [] r h c = same_jobs book.state book.state refl (λ k x is closed. is) (same_slots book.state)
goes_all book (next ∷ rest) r h c =
    let t = goes_call book next r h c.0 in
    extends_trans book.state next.book.state (last_of next.book rest).state t.extends
    (goes_all next.book rest (subst AreSettings (sym t.settings) r) t.sound c.1)

called_keeps : (old new : Book) → Called old new → new.forgotten ≡ old.forgotten
called_keeps old new c = elim c [ inl e ↦ ap (λ (b : Book). b.forgotten) e | inr t ↦ t.1.forgotten ]

abbrev Said : ℕ → List Forgotten → Book → Type 0
Said n fs last = AreNext n fs last.state × (last.forgotten ≡ n + length fs)

-- a call that hands out no job
said_none : (n m : ℕ) (gs fs : List Forgotten) (last : Book) → m ≡ n → gs ≡ [] → Said m fs last → Said n (gs ++ fs) last
said_none n m gs fs last e none h = subst (λ (k : ℕ). Said k (gs ++ fs) last) e (subst (λ (g : List Forgotten). Said m (g ++ fs) last) (sym none) h)

-- a call that hands out one
said_one : (n m : ℕ) (f : Forgotten) (gs fs : List Forgotten) (old : State) (last : Book) → m ≡ n + 1 → gs ≡ f ∷ [] → ExtendsState old last.state
    → f.ticket ≡ n + 1 → job_at old.jobs f.ticket ≡ Some f.job → standing_in old.standings f.ticket ≡ Some f.standing → is_open f.standing ≡ false → Said m fs last → Said n (gs ++ fs) last
said_one n m f gs fs old last e one h ticket job is_some_and closed rest =
    subst (λ (g : List Forgotten). Said n (g ++ fs) last) (sym one) (
      (ticket, job_stays old last.state f.ticket f.job h job, h.closed f.ticket f.standing is_some_and closed, closed, subst (λ (k : ℕ). AreNext k fs last.state) e rest.0),
      omega (arith, e, rest.1),
    )

handed_all : (book : Book) (calls : List Outcome) → AreSettings book.settings → IsSoundState book.settings book.state → AllCalled book calls → Said book.forgotten (all_forgotten calls) (last_of book calls)
handed_all book [] r h c = (tt, omega arith)
handed_all book (next ∷ rest) r h c =
    let t = goes_call book next r h c.0 in
    let r' = subst AreSettings (sym t.settings) r in
    let last = last_of next.book rest in
    let later = handed_all next.book rest r' t.sound c.1 in
    let all = goes_all next.book rest r' t.sound c.1 in
    elim c.0 [
      | inl u ↦ said_none book.forgotten next.book.forgotten next.forgotten (all_forgotten rest) last (called_keeps book next.book u.0) u.2 later
      | inr c' ↦
          elim c' [
            | inl u ↦ said_none book.forgotten next.book.forgotten next.forgotten (all_forgotten rest) last (ap (λ (b : Book). b.forgotten) u.0) u.2 later
            | inr u ↦
                said_one book.forgotten next.book.forgotten u.0 next.forgotten (all_forgotten rest) book.state last (ap (λ (b : Book). b.forgotten) u.1.3) u.3
                (extends_trans book.state next.book.state last.state t.extends all) u.1.0.0 u.1.0.1 u.1.1.0 u.1.1.1 later
          ]
    ]

pub jobs_are_handed_out_once_lem : JobsAreHandedOutOnce
jobs_are_handed_out_once_lem book calls r k c = handed_all book calls r (chapter_sound book r k) c
