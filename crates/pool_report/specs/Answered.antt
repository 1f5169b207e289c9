-- What a report says of an answer: the settings' names, and the needs and workers of the set, by the planning model.
use Rattle.std.specs.Prelude.{ℕ, ◌-◌, List, map, filter, option_map, slice_index, sum_by}
use Rattle.plan_model.specs.Planning.{Assignment, Instance, assigned, functions, is_stranded, machines_of}
use Rattle.plan_model.specs.Planning.{may_do, need, neighbours, top_level}
use Rattle.plan_model.specs.declared.answer.Answer.{Answer}
use Rattle.plan_model.specs.declared.answer.Answer.TheVariants.{Planned, NoPlan}
use Rattle.pool_report.specs.Report.{Needed, Short, Stranded, Finding, Worker, no_plan, planned, report}
use Rattle.pool_settings.specs.Names.{name_at}
use Rattle.pool_settings.specs.Settings.{Settings}
use Rattle.pool_settings.specs.Slots.{first_slot}

abbrev pub reported_worker : Settings → Assignment → ℕ × ℕ → Worker
reported_worker settings plan worker = record {
  machine = name_at settings.machines worker.1;
  number = worker.0 - first_slot settings worker.1;
  function = option_map (name_at settings.functions) (plan worker.0);
}

abbrev pub needed_at : Settings → Instance → ℕ → ℕ → Needed
needed_at settings i level f = record { function = name_at settings.functions f; need = need i level f }

abbrev pub short_at : Settings → Instance → ℕ → List ℕ → Short
short_at settings i level set = record {
  need = sum_by (need i level) set;
  have = neighbours (may_do i) (machines_of i) set;
  functions = map (needed_at settings i level) set;
}

abbrev pub stranded_at : Settings → Instance → ℕ → Stranded
stranded_at settings i f = record { function = name_at settings.functions f; waiting = slice_index i.waiting f }

abbrev pub stranded_all : Settings → Instance → List Stranded
stranded_all settings i = map (stranded_at settings i) (filter (is_stranded i) (functions i))

abbrev pub finding : Settings → Instance → Answer → Finding
finding settings i (Planned entries backlog short) =
    planned backlog (map (reported_worker settings (assigned entries)) i.live) (option_map (short_at settings i (backlog - 1)) short)
finding settings i (NoPlan short) = no_plan (short_at settings i top_level short)

-- the text of a report
abbrev pub report_text : Settings → Instance → Answer → List ℕ
report_text settings i answer = report (finding settings i answer) (stranded_all settings i)
