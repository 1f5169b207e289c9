-- The table of the stock jobs.
use Rattle.std.proofs.Common.{◌≡◌, ◌∙◌, ap, sym, ℕ, List, [], ◌∷◌, Bool, true, false, Vec, Global, map, refl}
use Rattle.std.specs.List.{AllByRecursion}
use Rattle.std.specs.Str.{bytes_eq}
use Rattle.job_runner.specs.Table.{told_by}
use Rattle.stock_jobs.specs.Stock.{stock_name, told_by_job, told_by_name}
use Rattle.stock_jobs.specs.declared.stock.StockJob.{StockJob}
use Rattle.stock_jobs.specs.declared.stock.StockJob.TheVariants.{Reverse, Length, Echo}

-- entries that have the names of their jobs tell as the jobs
pub same_jobs : (entries : List (Vec ℕ Global × StockJob)) → AllByRecursion (λ e. e.0.items ≡ stock_name e.1) entries
    → (name input : List ℕ)
    → told_by (λ e. e.0.items) (λ e. told_by_job e.1) entries name input ≡ told_by stock_name told_by_job (map (λ e. e.1) entries) name input
same_jobs [] named name input = refl
same_jobs (e ∷ es) (same, rest) name input = by (bytes_eq (stock_name e.1) name) refl (same_jobs es rest name input)
  where
    by : (b : Bool) → bytes_eq (stock_name e.1) name ≡ b
        → told_by (λ f. f.0.items) (λ f. told_by_job f.1) es name input ≡ told_by stock_name told_by_job (map (λ f. f.1) es) name input
        → told_by (λ f. f.0.items) (λ f. told_by_job f.1) (e ∷ es) name input ≡ told_by stock_name told_by_job (map (λ f. f.1) (e ∷ es)) name input
    by true is others = rw (ap (λ t. bytes_eq t name) same ∙ is, is) refl
    by false is others = rw (ap (λ t. bytes_eq t name) same ∙ is, is) others

-- the entry of a job under its name
abbrev pub IsNamed : StockJob → Vec ℕ Global × StockJob → Type 0
IsNamed job entry = (entry.0.items ≡ stock_name job) × (entry.1 ≡ job)

own_name : (job : StockJob) (entry : Vec ℕ Global × StockJob) → IsNamed job entry → entry.0.items ≡ stock_name entry.1
own_name job entry named = named.0 ∙ ap stock_name (sym named.1)

-- the three entries tell what the jobs are said to tell
pub three_jobs : (a b c : Vec ℕ Global × StockJob) → IsNamed Reverse a → IsNamed Length b → IsNamed Echo c
    → (name input : List ℕ) → told_by (λ e. e.0.items) (λ e. told_by_job e.1) (a ∷ b ∷ c ∷ []) name input ≡ told_by_name name input
three_jobs a b c first second third name input =
    same_jobs (a ∷ b ∷ c ∷ []) (own_name Reverse a first, (own_name Length b second, (own_name Echo c third, tt))) name input
    ∙ rw (first.1, second.1, third.1) refl
