-- What a report's text means: the answer that it gives, or its first fault.
use Rattle.std.specs.Prelude.{ℕ, ◌+◌, ◌==◌, List, [], ◌∷◌, ◌++◌, length, Bool, true, false, not, nat_lt, Option, Some}
use Rattle.std.specs.Prelude.{None, option_map, unwrap_or, Result, Ok, Err, if◌then◌else◌}
use Rattle.std.specs.List.{slice_split}
use Rattle.std.specs.Option.{option_map_or}
use Rattle.plan_model.specs.declared.answer.Answer.{Answer}
use Rattle.plan_model.specs.declared.answer.Answer.TheVariants.{Planned, NoPlan}
use Rattle.pool_report.specs.Lines.{ReportLine, head, backlog, no_plan, task, short, needed, stranded, last, line_of}
use Rattle.pool_settings.specs.Names.{place_of}
use Rattle.pool_settings.specs.Settings.{Settings}
use Rattle.pool_settings.specs.Slots.{slot_named}
use Rattle.pool_report.specs.declared.stage.Stage.{Stage}
use Rattle.pool_report.specs.declared.stage.Stage.TheVariants as stage
use Rattle.pool_report.specs.declared.stage.Misread.{Misread}
use Rattle.pool_report.specs.declared.stage.Misread.TheVariants as misread
use Rattle.pool_report.specs.declared.error.ReadError.{ReadError}
use Rattle.pool_report.specs.declared.error.ReadError.TheVariants as error
use Rattle.text_pieces.specs.Lines.{is_line_feed}

-- what the lines so far have said
pub record Draft : Type 0 where
  pub stage : Stage
  -- none after `noplan`
  pub backlog : Option ℕ
  pub entries : List (ℕ × Option ℕ)
  -- none before the line `short`
  pub set : Option (List ℕ)
  -- the least numbers that the next worker, function of the set and stranded function may have
  pub next_slot : ℕ
  pub next_function : ℕ
  pub next_stranded : ℕ

abbrev pub start : Draft
start = record { stage = stage.Start; backlog = None; entries = []; set = None; next_slot = 0; next_function = 0; next_stranded = 0 }

abbrev pub is_start : Stage → Bool
is_start stage.Start = true
is_start _ = false

abbrev pub at_verdict : Stage → Bool
at_verdict stage.Verdict = true
at_verdict _ = false

abbrev pub is_tasks : Stage → Bool
is_tasks stage.Tasks = true
is_tasks _ = false

abbrev pub is_set : Stage → Bool
is_set stage.Set = true
is_set _ = false

abbrev pub is_done : Stage → Bool
is_done stage.Done = true
is_done _ = false

-- the line `short` may come
abbrev pub before_set : Stage → Bool
before_set stage.Tasks = true
before_set stage.Bare = true
before_set _ = false

-- the lines `stranded` and `end` may come
abbrev pub is_complete : Stage → Bool
is_complete stage.Tasks = true
is_complete stage.Set = true
is_complete stage.Leftovers = true
is_complete _ = false

abbrev pub moved : Stage → Draft → Draft
moved s d = record {
  stage = s;
  backlog = d.backlog;
  entries = d.entries;
  set = d.set;
  next_slot = d.next_slot;
  next_function = d.next_function;
  next_stranded = d.next_stranded;
}

abbrev pub with_backlog : ℕ → Draft → Draft
with_backlog k d = record {
  stage = stage.Tasks;
  backlog = Some k;
  entries = d.entries;
  set = d.set;
  next_slot = d.next_slot;
  next_function = d.next_function;
  next_stranded = d.next_stranded;
}

abbrev pub with_entry : ℕ → Option ℕ → Draft → Draft
with_entry slot function d = record {
  stage = d.stage;
  backlog = d.backlog;
  entries = d.entries ++ (slot, function) ∷ [];
  set = d.set;
  next_slot = slot + 1;
  next_function = d.next_function;
  next_stranded = d.next_stranded;
}

abbrev pub with_set : Draft → Draft
with_set d = record {
  stage = stage.Set;
  backlog = d.backlog;
  entries = d.entries;
  set = Some [];
  next_slot = d.next_slot;
  next_function = d.next_function;
  next_stranded = d.next_stranded;
}

abbrev pub with_needed : ℕ → Draft → Draft
with_needed f d = record {
  stage = d.stage;
  backlog = d.backlog;
  entries = d.entries;
  set = option_map (λ set. set ++ f ∷ []) d.set;
  next_slot = d.next_slot;
  next_function = f + 1;
  next_stranded = d.next_stranded;
}

abbrev pub with_stranded : ℕ → Draft → Draft
with_stranded f d = record {
  stage = stage.Leftovers;
  backlog = d.backlog;
  entries = d.entries;
  set = d.set;
  next_slot = d.next_slot;
  next_function = d.next_function;
  next_stranded = f + 1;
}

-- a line out of place is bad; a name that the settings do not have is unknown
abbrev pub in_place : Bool → Result Draft Misread → Result Draft Misread
in_place holds next = if holds then next else Err misread.Bad

abbrev pub if_known : Option ℕ → (ℕ → Result Draft Misread) → Result Draft Misread
if_known found next = option_map_or next found (Err misread.Unknown)

abbrev pub place_function : Settings → ℕ → Option (List ℕ) → Draft → Result Draft Misread
place_function settings slot None d = Ok (with_entry slot None d)
place_function settings slot (Some name) d = if_known (place_of settings.functions name) (λ f. Ok (with_entry slot (Some f) d))

abbrev pub place_task : Settings → List ℕ → Option (List ℕ) → Draft → Result Draft Misread
place_task settings worker function d =
    in_place (is_tasks d.stage)
    (if_known (slot_named settings worker) (λ slot. in_place (not (nat_lt slot d.next_slot)) (place_function settings slot function d)))

abbrev pub place_needed : Settings → List ℕ → Draft → Result Draft Misread
place_needed settings name d =
    in_place (is_set d.stage)
    (if_known (place_of settings.functions name) (λ f. in_place (not (nat_lt f d.next_function)) (Ok (with_needed f d))))

abbrev pub place_stranded : Settings → List ℕ → Draft → Result Draft Misread
place_stranded settings name d =
    in_place (is_complete d.stage)
    (if_known (place_of settings.functions name) (λ f. in_place (not (nat_lt f d.next_stranded)) (Ok (with_stranded f d))))

-- what is said after one more line
abbrev pub place : Settings → Draft → ReportLine → Result Draft Misread
place settings d head = in_place (is_start d.stage) (Ok (moved stage.Verdict d))
place settings d (backlog k) = in_place (at_verdict d.stage) (Ok (with_backlog k d))
place settings d no_plan = in_place (at_verdict d.stage) (Ok (moved stage.Bare d))
place settings d (task worker function) = place_task settings worker function d
place settings d short = in_place (before_set d.stage) (Ok (with_set d))
place settings d (needed name) = place_needed settings name d
place settings d (stranded name) = place_stranded settings name d
place settings d last = in_place (is_complete d.stage) (Ok (moved stage.Done d))

abbrev pub place_line : Settings → Draft → List ℕ → Result Draft Misread
place_line settings d line = option_map_or (place settings d) (line_of line) (Err misread.Bad)

abbrev pub answer_of : Draft → Answer
answer_of d = option_map_or (λ k. Planned d.entries k d.set) d.backlog (NoPlan (unwrap_or d.set []))

-- the fault of line n, or what the lines after it say
abbrev pub and_read_on : ℕ → Result Draft Misread → (Draft → Result Answer ReadError) → Result Answer ReadError
and_read_on n (Ok d) next = next d
and_read_on n (Err misread.Bad) next = Err (error.BadLine n)
and_read_on n (Err misread.Unknown) next = Err (error.UnknownName n)
and_read_on n (Err misread.Memory) next = Err error.Memory

-- after the last line feed: nothing may come after the line feed of `end`
abbrev pub at_rest : ℕ → Draft → List ℕ → Result Answer ReadError
at_rest n d rest =
    if is_done d.stage then (if length rest == 0 then Ok (answer_of d) else Err (error.BadLine n))
    else Err error.Truncated

-- The parts of a text between its line feeds, from line n on.
abbrev pub meaning_from : Settings → ℕ → Draft → List (List ℕ) → Result Answer ReadError
meaning_from settings n d [] = Err error.Truncated
meaning_from settings n d (line ∷ []) = at_rest n d line
meaning_from settings n d (line ∷ next ∷ rest) =
    and_read_on n (place_line settings d line) (λ more. meaning_from settings (n + 1) more (next ∷ rest))

-- the answer that a text gives, or its first fault
abbrev pub meaning : Settings → List ℕ → Result Answer ReadError
meaning settings text = meaning_from settings 1 start (slice_split is_line_feed text)
