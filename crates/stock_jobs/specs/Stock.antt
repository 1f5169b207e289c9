-- The jobs that the program's workers can do.
use Rattle.std.specs.Prelude.{ℕ, Bool, List, [], ◌∷◌, length, reverse, codes, Option}
use Rattle.std.specs.Fmt.{decimal}
use Rattle.std.specs.List.{list_any}
use Rattle.std.specs.Str.{bytes_eq}
use Rattle.job_runner.specs.Table.{told_by}
use Rattle.job_runner.specs.Told.{Told, complete}
use Rattle.stock_jobs.specs.declared.stock.StockJob.{StockJob}
use Rattle.stock_jobs.specs.declared.stock.StockJob.TheVariants.{Reverse, Length, Echo}

abbrev pub stock_name : StockJob → List ℕ
stock_name Reverse = codes "reverse"
stock_name Length = codes "length"
stock_name Echo = codes "echo"

-- the input's bytes from the last to the first, their number in decimal, or the input
abbrev pub result_of : StockJob → List ℕ → List ℕ
result_of Reverse input = reverse input
result_of Length input = decimal (length input)
result_of Echo input = input

-- a job reports its result, and nothing before it
abbrev pub told_by_job : StockJob → List ℕ → Told
told_by_job job input = record { remarks = []; finish = complete (result_of job input) }

abbrev pub all_jobs : List StockJob
all_jobs = Reverse ∷ Length ∷ Echo ∷ []

-- whether one of the jobs has the name
abbrev pub is_stock : List ℕ → Bool
is_stock name = list_any (λ job. bytes_eq (stock_name job) name) all_jobs

-- what the job of a name reports for an input, and none if no job has the name
abbrev pub told_by_name : List ℕ → List ℕ → Option Told
told_by_name = told_by stock_name told_by_job all_jobs
