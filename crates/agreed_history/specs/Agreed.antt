-- What the holders of a history know, as views of one cell.
use Rattle.std.specs.Prelude.{◌≡◌, ℕ, ◌+◌, ◌-◌, length, ◌==◌, ◌||◌, ◌&&◌, Bool, not, true, false, List, [], ◌∷◌, ◌++◌, map}
use Rattle.std.specs.Prelude.{if◌then◌else◌, ⊤}
use Rattle.std.specs.List.{AllByRecursion, filter}
use mathlib.Core.Option.{some}
use lib.ListN.{get_elem?}
use Rattle.atomic_table.specs.Seated.{TableId}
use Rattle.worker_state.specs.declared.slot.WorkerName.{WorkerName}
use Rattle.pool_core.specs.declared.event.Event.{Event}
use Rattle.pool_core.specs.declared.event.Event.TheVariants as event
use Rattle.worker_state.specs.declared.cause.Cause.{Cause}
use Rattle.worker_state.specs.declared.cause.Cause.TheVariants as cause
use Rattle.agreed_history.specs.declared.known.Entry.{Entry}
use Rattle.agreed_history.specs.declared.known.Entry.TheVariants.{Happened, ChapterEnd}
use Rattle.agreed_history.specs.declared.known.Past.{Past}
use Rattle.agreed_history.specs.declared.known.View.{View}

abbrev pub no_event : Event
no_event = event.Join 0

abbrev pub no_worker : WorkerName
no_worker = record { slot = 0; generation = 0 }

abbrev pub no_name : TableId
no_name = record { words = 0; slots = 0; views_name = 0; atom = 0; block = 0; offset = 0; slot_names = [] }

abbrev pub is_same : WorkerName → WorkerName → Bool
is_same a b = (a.slot == b.slot) && (a.generation == b.generation)

-- the worker's job took too long: this the pool finds, and no session
abbrev pub is_late : Cause → Bool
is_late cause.Late = true
is_late other = false

-- the event is one that the worker's session makes
abbrev pub is_own : WorkerName → Event → Bool
is_own who (event.Join slot) = false
is_own who (event.Load load) = false
is_own who (event.Round answer) = false
is_own who (event.Grab worker handle function now) = is_same who worker
is_own who (event.Begin worker ticket) = is_same who worker
is_own who (event.Reported worker ticket end) = is_same who worker
is_own who (event.Lost worker cause) = is_same who worker && not (is_late cause)

-- the entry is an event that the worker's session makes
abbrev pub is_of : WorkerName → Entry → Bool
is_of who (Happened e) = is_own who e
is_of who ChapterEnd = false

-- the events of a history, all chapters of it
abbrev pub events_in : List Entry → List Event
events_in [] = []
events_in (Happened e ∷ xs) = e ∷ events_in xs
events_in (ChapterEnd ∷ xs) = events_in xs

-- what the session of this worker did in the history
abbrev pub did_by : WorkerName → List Entry → List Event
did_by who log = filter (is_own who) (events_in log)

abbrev pub past : WorkerName → List Event → Past
past who did = record { who = who; did = did }

abbrev pub name_of : Past → WorkerName
name_of p = p.who

-- the name stands in the list
abbrev pub has : WorkerName → List WorkerName → Bool
has k [] = false
has k (x ∷ xs) = is_same k x || has k xs

-- the list without the first that is this name
abbrev pub without : WorkerName → List WorkerName → List WorkerName
without k [] = []
without k (x ∷ xs) = if is_same k x then xs else x ∷ without k xs

-- no name stands twice
abbrev pub AreOnce : List WorkerName → Type 0
AreOnce [] = ⊤
AreOnce (x ∷ xs) = (has x xs ≡ false) × AreOnce xs

abbrev pub view : Bool → List Entry → List WorkerName → Bool → ℕ → List Past → Bool → WorkerName → List Event → View
view keeps log born rules count known tells who did =
    record { keeps = keeps; log = log; born = born; rules = rules; count = count; known = known; tells = tells; who = who; did = did }

-- who keeps and rules, when nothing has happened
abbrev pub alone : View
alone = view true [] [] true 0 [] false no_worker []

-- who keeps this history, in which these names were given
abbrev pub keeper : List Entry → List WorkerName → View
keeper log born = view true log born false 0 [] false no_worker []

-- who has the roster: how many sessions go on, and those that have ended
abbrev pub ruler : ℕ → List Past → View
ruler count known = view false [] [] true count known false no_worker []

-- who tells of a session
abbrev pub teller : WorkerName → List Event → View
teller who did = view false [] [] false 0 [] true who did

-- who knows nothing
abbrev pub nobody : View
nobody = view false [] [] false 0 [] false no_worker []

-- who keeps and rules
abbrev pub chief : List Entry → List WorkerName → ℕ → List Past → View
chief log born count known = view true log born true count known false no_worker []

-- who keeps, and tells of a session
abbrev pub writer : List Entry → List WorkerName → WorkerName → List Event → View
writer log born who did = view true log born false 0 [] true who did

abbrev pub keeper_of : View → View
keeper_of v = view v.keeps v.log v.born false 0 [] false no_worker []

abbrev pub ruler_of : View → View
ruler_of v = view false [] [] v.rules v.count v.known false no_worker []

abbrev pub teller_of : View → View
teller_of v = view false [] [] false 0 [] v.tells v.who v.did

abbrev pub with_ruler : View → View → View
with_ruler v w = view v.keeps v.log v.born w.rules w.count w.known false no_worker []

abbrev pub with_teller : View → View → View
with_teller v w = view v.keeps v.log v.born false 0 [] w.tells w.who w.did

-- a session joins
abbrev pub with_session : WorkerName → View → View
with_session who v =
    view v.keeps (v.log ++ Happened (event.Join who.slot) ∷ []) (who ∷ v.born) v.rules (v.count + 1) v.known false no_worker []

-- a session has ended
abbrev pub with_past : View → View → View
with_past v w = view v.keeps v.log v.born v.rules (v.count - 1) (v.known ++ past w.who w.did ∷ []) false no_worker []

-- an entry is added
abbrev pub with_entry : Entry → View → View
with_entry e v = view v.keeps (v.log ++ e ∷ []) v.born v.rules v.count v.known v.tells v.who (v.did ++ did_by v.who (e ∷ []))

-- What one session did that has ended is what the history says of it, and it goes on no longer.
abbrev pub IsPast : List Entry → List WorkerName → Past → Type 0
IsPast log live p = (p.did ≡ did_by p.who log) × (has p.who live ≡ false)

-- Sessions go on, each once; those that have ended are others, each once; the history has nothing of any other session; and each of them
-- was given its name.
pub record Sound (log : List Entry) (born live : List WorkerName) (known : List Past) : Type 0 where
  pub once : AreOnce live
  pub ended : AllByRecursion (IsPast log live) known
  pub apart : AreOnce (map name_of known)
  pub others : (k : WorkerName) → has k live ≡ false → has k (map name_of known) ≡ false → did_by k log ≡ []
  pub named : (k : WorkerName) → has k born ≡ false → (has k live ≡ false) × (has k (map name_of known) ≡ false)

-- what the rule says of one view
abbrev pub Fits : ℕ → ℕ → (WorkerName → ℕ) → List Entry → List WorkerName → List WorkerName → List Past → ℕ → View → Type 0
Fits keeps rules seat log born live known by v =
    (v.keeps ≡ true → (by ≡ keeps) × (v.log ≡ log) × (v.born ≡ born))
    × (v.rules ≡ true → (by ≡ rules) × (v.count ≡ length live) × (v.known ≡ known))
    × (v.tells ≡ true → (by ≡ seat v.who) × (has v.who live ≡ true) × (v.did ≡ did_by v.who log))

-- One at most keeps the history, one at most has the roster, one at most tells of each session; and all speak of one history.
abbrev pub Agree : List ℕ → List View → Type 0
Agree words views =
    (keeps rules : ℕ) × (seat : WorkerName → ℕ) × (log : List Entry) × (born live : List WorkerName) × (known : List Past)
    × Sound log born live known
    × ((by : ℕ) (v : View) → get_elem? views by ≡ some v → Fits keeps rules seat log born live known by v)

-- what is found by who keeps and rules
abbrev pub Finds : View → List ℕ → List ℕ → View → Type 0
Finds v before after w =
    (w ≡ v) × (v.keeps ≡ true → v.rules ≡ true → (live : List WorkerName) × (v.count ≡ length live) × Sound v.log v.born live v.known)

-- the entry is of a session whose teller this is, or of none
abbrev pub MayAdd : Entry → View → Type 0
MayAdd e v = (v.keeps ≡ true) × ((k : WorkerName) → is_of k e ≡ true → (v.tells ≡ true) × (k ≡ v.who))

-- what the roster has
pub record Listed : Type 0 where
  pub count : ℕ
  pub known : List Past

abbrev pub listed : View → Listed
listed v = record { count = v.count; known = v.known }

-- a history so far, and the names that were given in it
pub record Kept : Type 0 where
  pub entries : List Entry
  pub born : List WorkerName

abbrev pub kept : View → Kept
kept v = record { entries = v.log; born = v.born }

-- the history of a run, and what each of its sessions did
pub record Story : Type 0 where
  pub entries : List Entry
  pub sessions : List Past

abbrev pub story : List Entry → List Past → Story
story entries sessions = record { entries = entries; sessions = sessions }

abbrev pub closed_of : View → Story
closed_of v = record { entries = v.log; sessions = v.known }

-- What each session did is what the history says of it, no session stands there twice, and the history has nothing of any other.
pub record IsClosed (all : Story) : Type 0 where
  pub told : AllByRecursion (λ p. p.did ≡ did_by p.who all.entries) all.sessions
  pub once : AreOnce (map name_of all.sessions)
  pub others : (k : WorkerName) → has k (map name_of all.sessions) ≡ false → did_by k all.entries ≡ []
