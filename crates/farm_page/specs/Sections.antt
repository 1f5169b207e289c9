-- The parts of a page that say what the farm is.
use Rattle.std.specs.Prelude.{ℕ, ◌≡◌, List, [], ◌∷◌, ◌++◌, Bool, false, not, ◌||◌, nat_lt, codes, if◌then◌else◌}
use Rattle.std.specs.List.{flat_map}
use Rattle.std.specs.Option.{option_map_or}
use Rattle.farm_page.specs.Escaping.{page_text}
use Rattle.farm_page.specs.Rows.{end_row, failure_rows, function_row, host_row}
use Rattle.farm_page.specs.declared.condition.Condition.{Condition}
use Rattle.farm_page.specs.declared.condition.Condition.TheVariants.{Bad, Watch, Well}
use Rattle.farm_page.specs.declared.sections.Share.{Share}
use Rattle.farm_page.specs.declared.sections.Share.TheVariants.{Busy, Quiet}
use Rattle.farm_page.specs.declared.view.EndView.{EndView}
use Rattle.farm_page.specs.declared.view.FailureView.{FailureView}
use Rattle.farm_page.specs.declared.view.FunctionView.{FunctionView}
use Rattle.farm_page.specs.declared.view.HostView.{HostView}
use Rattle.farm_page.specs.declared.view.JobEnds.{JobEnds}

-- a part of a text
pub record Holds (text part : List ℕ) : Type 0 where
  pub before : List ℕ
  pub after : List ℕ
  pub is : text ≡ before ++ part ++ after

-- the tag that says how the farm is
abbrev pub body_tag : Condition → List ℕ
body_tag Well = codes "<body class=\"well\">\n"
body_tag Watch = codes "<body class=\"watch\">\n"
body_tag Bad = codes "<body class=\"bad\">\n"

abbrev pub server_words : List ℕ → List ℕ
server_words server = codes "<header><p>poolman at job server " ++ page_text server ++ codes "</p>\n"

abbrev pub headline : List ℕ → List ℕ
headline words = codes "<h1><span class=\"mark\"></span>" ++ page_text words ++ codes ".</h1>\n"

abbrev pub has_faults : JobEnds → Bool
has_faults jobs = nat_lt 0 jobs.failed || nat_lt 0 jobs.lost

abbrev pub lacks_workers : FunctionView → Bool
lacks_workers f = option_map_or (λ workers. nat_lt workers f.least) f.workers false

-- jobs wait, or there are fewer workers than there are to be, or jobs failed or were lost
abbrev pub is_busy : FunctionView → Bool
is_busy f =
    option_map_or (λ waiting. nat_lt 0 waiting) f.waiting false
    || (lacks_workers f || option_map_or has_faults f.jobs false)

abbrev pub is_of : Share → FunctionView → Bool
is_of Busy f = is_busy f
is_of Quiet f = not (is_busy f)

abbrev pub row_if : Share → ℕ → FunctionView → List ℕ
row_if share all f = if is_of share f then function_row all f else []

-- the rows of the functions that are busy, or of those that are not, in a farm of so many workers
abbrev pub function_rows : Share → ℕ → List FunctionView → List ℕ
function_rows share all functions = flat_map (row_if share all) functions

abbrev pub host_rows : List HostView → List ℕ
host_rows hosts = flat_map host_row hosts

abbrev pub end_rows : List EndView → List ℕ
end_rows ends = flat_map end_row ends

-- a row for each job that was not completed, or that there is none
abbrev pub failures_part : List FailureView → List ℕ
failures_part [] = codes "<p>No job has failed or been lost.</p>"
failures_part (newest ∷ older) = failure_rows (newest ∷ older)
