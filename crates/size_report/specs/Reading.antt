-- What the text of a size means: its size, or its first fault.
use Rattle.std.specs.Prelude.{ℕ, ◌+◌, ◌==◌, ◌&&◌, List, [], ◌∷◌, ◌++◌, length, replicate, Bool, true, false, not, nat_lt, nat_le}
use Rattle.std.specs.Prelude.{Option, Some, None, option_map, unwrap_or, Result, Ok, Err, if◌then◌else◌}
use Rattle.std.specs.List.{slice_split}
use Rattle.std.specs.Option.{option_map_or}
use Rattle.plan_sizing.specs.declared.size.Obstacle.{Obstacle}
use Rattle.plan_sizing.specs.declared.size.Obstacle.TheVariants.{AboveMost, NoMachine}
use Rattle.plan_sizing.specs.declared.size.Size.{Size}
use Rattle.plan_sizing.specs.declared.size.Size.TheVariants.{Enough, Never, TooMany}
use Rattle.pool_report.specs.Lines.{ReportLine, task, short, needed, last}
use Rattle.pool_report.specs.declared.error.ReadError.{ReadError}
use Rattle.pool_report.specs.declared.error.ReadError.TheVariants as error
use Rattle.pool_report.specs.declared.stage.Misread.{Misread}
use Rattle.pool_report.specs.declared.stage.Misread.TheVariants as misread
use Rattle.pool_settings.specs.Names.{place_of}
use Rattle.pool_settings.specs.Settings.{Settings}
use Rattle.size_report.specs.Grown.{grown_slot_named}
use Rattle.size_report.specs.Lines.{SizeLine, first, level, add, on, above_most, no_machine, too_many, shared, size_line_of}
use Rattle.size_report.specs.declared.stage.Kind.{Kind}
use Rattle.size_report.specs.declared.stage.Kind.TheVariants as kind
use Rattle.size_report.specs.declared.stage.Stage.{Stage}
use Rattle.size_report.specs.declared.stage.Stage.TheVariants as stage
use Rattle.text_pieces.specs.Lines.{is_line_feed}

-- what the lines so far have said
pub record Draft : Type 0 where
  pub stage : Stage
  pub kind : Kind
  -- the machines of the added workers
  pub machines : List ℕ
  pub entries : List (ℕ × Option ℕ)
  -- none before the line `short`
  pub set : Option (List ℕ)
  -- the least numbers that the next machine, worker and function of the set may have
  pub next_machine : ℕ
  pub next_slot : ℕ
  pub next_function : ℕ

abbrev pub start : Draft
start = record {
  stage = stage.Start;
  kind = kind.Enough;
  machines = [];
  entries = [];
  set = None;
  next_machine = 0;
  next_slot = 0;
  next_function = 0;
}

abbrev pub is_start : Stage → Bool
is_start stage.Start = true
is_start _ = false

abbrev pub at_level : Stage → Bool
at_level stage.Level = true
at_level _ = false

abbrev pub at_verdict : Stage → Bool
at_verdict stage.Verdict = true
at_verdict _ = false

abbrev pub is_added : Stage → Bool
is_added stage.Added = true
is_added _ = false

abbrev pub is_set : Stage → Bool
is_set stage.Set = true
is_set _ = false

abbrev pub is_done : Stage → Bool
is_done stage.Done = true
is_done _ = false

-- the line of a worker may come
abbrev pub before_tasks : Stage → Bool
before_tasks stage.Added = true
before_tasks stage.Tasks = true
before_tasks _ = false

-- the line `short` may come
abbrev pub before_set : Stage → Bool
before_set stage.Added = true
before_set stage.Tasks = true
before_set stage.Beyond = true
before_set _ = false

-- the line `end` may come
abbrev pub is_complete : Stage → Bool
is_complete stage.Added = true
is_complete stage.Tasks = true
is_complete stage.Set = true
is_complete stage.Barred = true
is_complete _ = false

-- at another stage, and of this kind
abbrev pub moved : Stage → Kind → Draft → Draft
moved s k d = record {
  stage = s;
  kind = k;
  machines = d.machines;
  entries = d.entries;
  set = d.set;
  next_machine = d.next_machine;
  next_slot = d.next_slot;
  next_function = d.next_function;
}

abbrev pub with_machines : ℕ → ℕ → Draft → Draft
with_machines machine many d = record {
  stage = d.stage;
  kind = d.kind;
  machines = d.machines ++ replicate many machine;
  entries = d.entries;
  set = d.set;
  next_machine = machine + 1;
  next_slot = d.next_slot;
  next_function = d.next_function;
}

abbrev pub with_entry : ℕ → ℕ → Draft → Draft
with_entry slot function d = record {
  stage = stage.Tasks;
  kind = d.kind;
  machines = d.machines;
  entries = d.entries ++ (slot, Some function) ∷ [];
  set = d.set;
  next_machine = d.next_machine;
  next_slot = slot + 1;
  next_function = d.next_function;
}

abbrev pub with_set : Draft → Draft
with_set d = record {
  stage = stage.Set;
  kind = d.kind;
  machines = d.machines;
  entries = d.entries;
  set = Some [];
  next_machine = d.next_machine;
  next_slot = d.next_slot;
  next_function = d.next_function;
}

abbrev pub with_needed : ℕ → Draft → Draft
with_needed f d = record {
  stage = d.stage;
  kind = d.kind;
  machines = d.machines;
  entries = d.entries;
  set = option_map (λ set. set ++ f ∷ []) d.set;
  next_machine = d.next_machine;
  next_slot = d.next_slot;
  next_function = f + 1;
}

-- a line out of place is bad; a name that is unknown to the settings, or to the addition, is unknown
abbrev pub in_place : Bool → Result Draft Misread → Result Draft Misread
in_place holds next = if holds then next else Err misread.Bad

abbrev pub if_known : Option ℕ → (ℕ → Result Draft Misread) → Result Draft Misread
if_known found next = option_map_or next found (Err misread.Unknown)

-- the machine is above the one before, and gets somebody, and no more than 4,096 workers are added
abbrev pub is_next_machine : Draft → ℕ → ℕ → Bool
is_next_machine d machine many =
    not (nat_lt machine d.next_machine) && (nat_lt 0 many && nat_le (length d.machines + many) 4096)

abbrev pub place_first : Draft → Result Draft Misread
place_first d = in_place (is_start d.stage) (Ok (moved stage.Level d.kind d))

abbrev pub place_level : Draft → Result Draft Misread
place_level d = in_place (at_level d.stage) (Ok (moved stage.Verdict d.kind d))

abbrev pub place_add : Draft → Result Draft Misread
place_add d = in_place (at_verdict d.stage) (Ok (moved stage.Added d.kind d))

abbrev pub place_too_many : ℕ → Draft → Result Draft Misread
place_too_many many d = in_place (at_verdict d.stage) (Ok (moved stage.Beyond (kind.TooMany many) d))

abbrev pub place_short : Draft → Result Draft Misread
place_short d = in_place (before_set d.stage) (Ok (with_set d))

abbrev pub place_last : Draft → Result Draft Misread
place_last d = in_place (is_complete d.stage) (Ok (moved stage.Done d.kind d))

abbrev pub place_on : Settings → List ℕ → ℕ → Draft → Result Draft Misread
place_on settings name many d =
    in_place (is_added d.stage)
    (if_known (place_of settings.machines name) (λ m. in_place (is_next_machine d m many) (Ok (with_machines m many d))))

abbrev pub place_function : Settings → List ℕ → ℕ → Draft → Result Draft Misread
place_function settings name slot d = if_known (place_of settings.functions name) (λ f. Ok (with_entry slot f d))

abbrev pub place_task : Settings → List ℕ → Option (List ℕ) → Draft → Result Draft Misread
place_task settings worker None d = Err misread.Bad
place_task settings worker (Some function) d =
    in_place (before_tasks d.stage)
    (if_known (grown_slot_named settings d.machines worker) (λ slot. in_place (not (nat_lt slot d.next_slot))
    (place_function settings function slot d)))

abbrev pub place_needed : Settings → List ℕ → Draft → Result Draft Misread
place_needed settings name d =
    in_place (is_set d.stage)
    (if_known (place_of settings.functions name) (λ f. in_place (not (nat_lt f d.next_function)) (Ok (with_needed f d))))

-- the line of an obstacle of the function of a name
abbrev pub place_obstacle : Settings → List ℕ → (ℕ → Obstacle) → Draft → Result Draft Misread
place_obstacle settings name obstacle d =
    in_place (at_verdict d.stage)
    (if_known (place_of settings.functions name) (λ f. Ok (moved stage.Barred (kind.Never (obstacle f)) d)))

-- what has been said after one more line that a report has too
abbrev pub place_shared : Settings → Draft → ReportLine → Result Draft Misread
place_shared settings d (task worker function) = place_task settings worker function d
place_shared settings d short = place_short d
place_shared settings d (needed name) = place_needed settings name d
place_shared settings d last = place_last d
place_shared settings d _ = Err misread.Bad

-- what has been said after one more line
abbrev pub place : Settings → Draft → SizeLine → Result Draft Misread
place settings d first = place_first d
place settings d level = place_level d
place settings d add = place_add d
place settings d (on machine many) = place_on settings machine many d
place settings d (above_most name need most) = place_obstacle settings name (λ f. AboveMost f need most) d
place settings d (no_machine name need) = place_obstacle settings name (λ f. NoMachine f need) d
place settings d (too_many many) = place_too_many many d
place settings d (shared line) = place_shared settings d line

abbrev pub place_line : Settings → Draft → List ℕ → Result Draft Misread
place_line settings d line = option_map_or (place settings d) (size_line_of line) (Err misread.Bad)

abbrev pub size_with : Kind → Draft → Size
size_with kind.Enough d = Enough d.machines d.entries d.set
size_with (kind.Never obstacle) d = Never obstacle
size_with (kind.TooMany many) d = TooMany many (unwrap_or d.set [])

abbrev pub size_of : Draft → Size
size_of d = size_with d.kind d

-- the fault of line n, or what the lines after it say
abbrev pub and_read_on : ℕ → Result Draft Misread → (Draft → Result Size ReadError) → Result Size ReadError
and_read_on n (Ok d) next = next d
and_read_on n (Err misread.Bad) next = Err (error.BadLine n)
and_read_on n (Err misread.Unknown) next = Err (error.UnknownName n)
and_read_on n (Err misread.Memory) next = Err error.Memory

-- after the last line feed: nothing may follow the line feed of `end`
abbrev pub at_rest : ℕ → Draft → List ℕ → Result Size ReadError
at_rest n d rest =
    if is_done d.stage then (if length rest == 0 then Ok (size_of d) else Err (error.BadLine n))
    else Err error.Truncated

-- The parts of a text between its line feeds, from line n on.
abbrev pub meaning_from : Settings → ℕ → Draft → List (List ℕ) → Result Size ReadError
meaning_from settings n d [] = Err error.Truncated
meaning_from settings n d (line ∷ []) = at_rest n d line
meaning_from settings n d (line ∷ next ∷ rest) =
    and_read_on n (place_line settings d line) (λ more. meaning_from settings (n + 1) more (next ∷ rest))

-- the size that a text means, or its first fault
abbrev pub size_meaning : Settings → List ℕ → Result Size ReadError
size_meaning settings text = meaning_from settings 1 start (slice_split is_line_feed text)
