-- The attempts of a run, by the calls of what dials.
use Rattle.std.specs.Prelude.{◌≡◌, ◌≢◌, ◌⊎◌, ◌+◌, ◌<◌, ℕ, List, [], ◌∷◌, ◌++◌, Bool, true, length, map, Option, None, Some, ⊤}
use Rattle.std.specs.List.{flat_map, AllByRecursion, AllPairs}
use Rattle.std.specs.Option.{option_to_list}
use Rattle.pool_supervisor.specs.declared.run_end.RunEnd.{RunEnd}
use Rattle.pool_settings.specs.Settings.{Settings}
use Rattle.pool_settings.specs.Slots.{slots}
use Rattle.pool_supervisor.specs.declared.attempt.Attempt.{Attempt}
use Rattle.pool_supervisor.specs.declared.attempts.Until.{Until}
use Rattle.pool_supervisor.specs.declared.attempts.Until.TheVariants.{Rounds, Ended}
use Rattle.slot_turns.specs.Turns.{HaveCome}
use Rattle.pool_supervisor.specs.Asking.{Follows}
use Rattle.pool_supervisor.specs.Dials.{DialCall, failed, opened, then_called}
use Rattle.pool_supervisor.specs.Joined.{Joins}
use Rattle.pool_supervisor.specs.Sessions.{Counts, PastSession, AllHad, HasEnded, AreSums, closing_of, counted, counts_of, no_counts}

-- a look at a slot: the dials that were made for it
pub record Look : Type 0 where
  pub slot : ℕ
  pub dials : List DialCall

abbrev pub slot_of : Look → ℕ
slot_of look = look.slot

abbrev pub dials_of : Look → List DialCall
dials_of look = look.dials

-- whether it may be said of a slot that it may have a worker, or that it may not
abbrev pub Rule : Type 0
Rule = ℕ → Bool → Bool

-- one dial, opened or failed
abbrev pub IsOneDial : List DialCall → Type 0
IsOneDial dials = (dials ≡ opened ∷ []) ⊎ (dials ≡ failed ∷ [])

-- No dial; or one dial, if it may be said that the slot may have a worker.
abbrev pub DialsOnce : (Bool → Bool) → List DialCall → Type 0
DialsOnce allows dials = (dials ≡ []) ⊎ ((allows true ≡ true) × IsOneDial dials)

-- looks at slots in order, of which the first has this number
abbrev pub FillFrom : Rule → ℕ → List Look → Type 0
FillFrom allows slot [] = ⊤
FillFrom allows slot (look ∷ looks) = (look.slot ≡ slot) × DialsOnce (allows slot) look.dials × FillFrom allows (slot + 1) looks

-- one slot was looked at
pub record FillsOne (allows : Rule) (slot : ℕ) (before now : Option (List DialCall)) : Type 0 where
  pub dials : List DialCall
  pub calls : now ≡ then_called before dials
  pub fills : DialsOnce (allows slot) dials

-- the first so many slots were looked at, each once and in order
pub record Fills (allows : Rule) (count : ℕ) (before now : Option (List DialCall)) : Type 0 where
  pub looks : List Look
  pub calls : now ≡ then_called before (flat_map dials_of looks)
  pub all : length looks ≡ count
  pub each : FillFrom allows 0 looks

-- a look at a slot of these settings
abbrev pub IsLook : Settings → Rule → Look → Type 0
IsLook settings allows look = (look.slot < slots settings) × DialsOnce (allows look.slot) look.dials

-- Every slot was looked at, once and in order.
abbrev pub AreInOrder : Settings → Rule → List Look → Type 0
AreInOrder settings allows looks = (length looks ≡ slots settings) × FillFrom allows 0 looks

-- Slots were looked at, none of them twice.
abbrev pub AreLooks : Settings → Rule → List Look → Type 0
AreLooks settings allows looks = AllPairs (λ one other. one ≢ other) (map slot_of looks) × AllByRecursion (IsLook settings allows) looks

-- How slots are looked at: in order, every one, in a run of so many attempts, and some of them in one that goes on until its watch ends
-- it.
abbrev pub LookAt : Until → Settings → Rule → List Look → Type 0
LookAt (Rounds rounds) settings allows looks = AreInOrder settings allows looks
LookAt Ended settings allows looks = AreLooks settings allows looks

-- slots were looked at so
pub record FillsBy (until : Until) (settings : Settings) (allows : Rule) (before now : Option (List DialCall)) : Type 0 where
  pub looks : List Look
  pub calls : now ≡ then_called before (flat_map dials_of looks)
  pub each : LookAt until settings allows looks

-- The slot whose turn it is was looked at. If no slot has turns nothing was done.
abbrev pub LooksNext : Settings → Rule → List ℕ → List ℕ → Option (List DialCall) → Option (List DialCall) → Type 0
LooksNext settings allows turns next before now =
    ((length turns ≡ 0) × (next ≡ turns) × (now ≡ before))
    ⊎ ((slot : ℕ) × HaveCome (slot ∷ []) turns next × (slot < slots settings) × FillsOne allows slot before now)

-- these slots were looked at, in this order
pub record FillsThese (settings : Settings) (allows : Rule) (these : List ℕ) (before now : Option (List DialCall)) : Type 0 where
  pub looks : List Look
  pub calls : now ≡ then_called before (flat_map dials_of looks)
  pub slots_are : map slot_of looks ≡ these
  pub each : AllByRecursion (IsLook settings allows) looks

-- An attempt, or what is done between two: the sessions that were joined, the looks at slots, the calls for the load, and the line, if it
-- is an attempt.
pub record Try : Type 0 where
  pub joined : List PastSession
  pub looks : List Look
  pub asked : List DialCall
  pub line : Option Attempt

abbrev pub calls_of : Try → List DialCall
calls_of try = map closing_of try.joined ++ (flat_map dials_of try.looks ++ try.asked)

abbrev pub joined_of : Try → List PastSession
joined_of try = try.joined

abbrev pub lines_of : Try → List Attempt
lines_of try = option_to_list try.line

-- It is an attempt, and every slot was looked at, once and in order.
abbrev pub InOrder : Settings → Rule → Try → Type 0
InOrder settings allows try = AreInOrder settings allows try.looks × (line : Attempt) × (try.line ≡ Some line)

-- So it is in a run of so many attempts. In one that goes on until its watch ends it some slots were looked at, none of them twice.
abbrev pub LooksBy : Until → Settings → Rule → Try → Type 0
LooksBy (Rounds rounds) settings allows = InOrder settings allows
LooksBy Ended settings allows = λ try. AreLooks settings allows try.looks

-- The line follows from the calls for the load. Between two attempts nothing is asked.
abbrev pub FollowsIf : List DialCall → Option Attempt → Type 0
FollowsIf asked (Some line) = Follows asked line
FollowsIf asked None = asked ≡ []

-- Each session that was joined was one by these settings, and had such jobs.
pub record IsTry (settings : Settings) (looking : Try → Type 0) (had_jobs : PastSession → Type 0) (try : Try) : Type 0 where
  pub ended : AllByRecursion (HasEnded settings) try.joined
  pub jobs : AllHad had_jobs try.joined
  pub fills : looking try
  pub follows : FollowsIf try.asked try.line

-- Attempts were made one after the other: their lines were added, and what the sessions counted that they joined, and these calls were
-- made.
pub record AttemptsBy (looking : Try → Type 0) (settings : Settings) (had_jobs : PastSession → Type 0) (old new : List Attempt)
    (first last : Counts) (before now : Option (List DialCall)) : Type 0 where
  pub tries : List Try
  pub lines : new ≡ old ++ flat_map lines_of tries
  pub counts : last ≡ counted first (flat_map joined_of tries)
  pub calls : now ≡ then_called before (flat_map calls_of tries)
  pub each : AllByRecursion (IsTry settings looking had_jobs) tries

-- Attempts were made so of a run that makes them for so long.
abbrev pub Attempts : Until → Settings → Rule → (PastSession → Type 0) → List Attempt → List Attempt → Counts → Counts
    → Option (List DialCall) → Option (List DialCall) → Type 0
Attempts until settings allows had_jobs old new first last before now =
    AttemptsBy (LooksBy until settings allows) settings had_jobs old new first last before now

-- the sessions that attempts joined, and these
abbrev pub joined_by : List Try → List PastSession → List PastSession
joined_by tries last = flat_map joined_of tries ++ last

-- What a run does with links: attempts, one after the other, and then the sessions that are left are joined. What the run came to has the
-- sums of what just these sessions counted, each of which was joined once and had such jobs.
pub record DialsBy (looking : Try → Type 0) (settings : Settings) (had_jobs : PastSession → Type 0) (old new : List Attempt) (run : RunEnd)
    (before now : Option (List DialCall)) : Type 0 where
  pub middle : Counts
  pub between : Option (List DialCall)
  pub attempts : AttemptsBy looking settings had_jobs old new no_counts middle before between
  pub last : Joins settings had_jobs middle (counts_of run) between now
  pub sums : AreSums settings (joined_by attempts.tries last.sessions) run
  pub jobs : AllHad had_jobs (joined_by attempts.tries last.sessions)

-- the same of a run of so many attempts, each of which looks at every slot, once and in order
abbrev pub Dials : Settings → Rule → (PastSession → Type 0) → List Attempt → List Attempt → RunEnd → Option (List DialCall)
    → Option (List DialCall) → Type 0
Dials settings allows had_jobs old new run before now = DialsBy (InOrder settings allows) settings had_jobs old new run before now

-- of each slot it is said that it may have a worker
abbrev pub all_slots : Rule
all_slots slot may = may
