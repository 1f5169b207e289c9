-- The jobs that services of a farm left unserved lately. In a list of them the one that was left last stands at the end.
use Rattle.std.specs.Prelude.{ℕ, ◌≤◌, ◌+◌, ◌-◌, ◌*◌, ◌^◌, min, max, nat_lt, Bool, false, not, ◌&&◌, ◌==◌, if◌then◌else◌}
use Rattle.std.specs.Prelude.{Option, Some, None, is_some, List, [], ◌∷◌, ◌++◌, length, count_by, find, fold, remove, slice_set}
use Rattle.std.specs.List.{position_or_len}
use Rattle.std.specs.Option.{option_and_then, option_map_or}
use Rattle.std.specs.Str.{bytes_eq}
use Rattle.worker_state.specs.declared.slot.WorkerName.{WorkerName}
use Rattle.unserved_jobs.specs.declared.job.UnservedJob.{UnservedJob}

-- it is the job of this handle
abbrev pub is_of : List ℕ → UnservedJob → Bool
is_of job left = bytes_eq left.handle job

-- It was left within the last 10 minutes. What has its handle later is another job.
abbrev pub is_recent : ℕ → UnservedJob → Bool
is_recent now_ms left = nat_lt (now_ms - left.last_ms) 600000

-- the two are one worker
abbrev pub is_same_worker : WorkerName → WorkerName → Bool
is_same_worker one other = (one.slot == other.slot) && (one.generation == other.generation)

-- a worker holds it
abbrev pub is_held : UnservedJob → Bool
is_held left = is_some left.held_by

-- nobody holds it
abbrev pub is_free : UnservedJob → Bool
is_free left = not (is_held left)

-- the holder is this worker, if there is a holder
abbrev pub is_holder : WorkerName → Option WorkerName → Bool
is_holder worker None = false
is_holder worker (Some holder) = is_same_worker holder worker

-- this worker holds it
abbrev pub is_held_by : WorkerName → UnservedJob → Bool
is_held_by worker left = is_holder worker left.held_by

-- how many of the jobs are held
abbrev pub held_count : List UnservedJob → ℕ
held_count jobs = count_by is_held jobs

-- what is known of a job
abbrev pub known : List ℕ → List UnservedJob → Option UnservedJob
known job jobs = find (is_of job) jobs

-- how often a job was left that is left now, this time included, by what was known of it
abbrev pub times_now : ℕ → Option UnservedJob → ℕ
times_now now_ms None = 1
times_now now_ms (Some left) = if is_recent now_ms left then min (left.times + 1) (2 ^ 32 - 1) else 1

-- who holds it, if anything is known of it and somebody does
abbrev pub holder_of : Option UnservedJob → Option WorkerName
holder_of None = None
holder_of (Some left) = left.held_by

-- a job that is left now, by what was known of it
abbrev pub left_now : List ℕ → ℕ → Option UnservedJob → UnservedJob
left_now job now_ms before = record { handle = job; times = times_now now_ms before; last_ms = now_ms; held_by = holder_of before }

-- the jobs without this one
abbrev pub without : List ℕ → List UnservedJob → List UnservedJob
without job jobs = remove jobs (position_or_len (is_of job) jobs)

-- The jobs with room for one more. If there are 256, the one that was left longest ago gives way, of those that nobody holds.
abbrev pub with_room : List UnservedJob → List UnservedJob
with_room jobs = if nat_lt (length jobs) 256 then jobs else remove jobs (position_or_len is_free jobs)

-- the jobs once this one is left now
abbrev pub after_left : List ℕ → ℕ → List UnservedJob → List UnservedJob
after_left job now_ms jobs = with_room (without job jobs) ++ left_now job now_ms (known job jobs) ∷ []

-- no job is there twice
abbrev pub EachOnce : List UnservedJob → Type 0
EachOnce jobs = (job : List ℕ) → count_by (is_of job) jobs ≤ 1

-- What is so of each table: it has 256 jobs at most, 64 of them are held at most, and none is there twice.
pub record IsTable (jobs : List UnservedJob) : Type 0 where
  pub few : length jobs ≤ 256
  pub few_held : held_count jobs ≤ 64
  pub each_once : EachOnce jobs

-- for how many milliseconds a job is held that was left so often, if it is held
abbrev pub hold_ms : ℕ → Option ℕ
hold_ms times = if nat_lt times 2 then None else Some (min (50 * 2 ^ (times - 2)) 60000)

-- the same of a job, if nobody holds it
abbrev pub free_hold_ms : UnservedJob → Option ℕ
free_hold_ms left = if is_held left then None else hold_ms left.times

-- for how many milliseconds one more worker holds this job, if it does: 64 jobs are held at most
abbrev pub next_hold_ms : List ℕ → List UnservedJob → Option ℕ
next_hold_ms job jobs = if nat_lt (held_count jobs) 64 then option_and_then free_hold_ms (known job jobs) else None

-- the jobs with another in the place of this one
abbrev pub with_job : List ℕ → UnservedJob → List UnservedJob → List UnservedJob
with_job job left jobs = slice_set jobs (position_or_len (is_of job) jobs) left

-- the jobs once this worker holds that one, if it is among them
abbrev pub once_held : WorkerName → List ℕ → List UnservedJob → List UnservedJob
once_held worker job jobs = option_map_or (λ left. with_job job (record left { held_by = Some worker }) jobs) (known job jobs) jobs

-- for how many milliseconds this worker holds a job, if it holds one
abbrev pub own_hold_ms : WorkerName → List UnservedJob → Option ℕ
own_hold_ms worker jobs = option_and_then (λ left. hold_ms left.times) (find (is_held_by worker) jobs)

-- the job once this worker holds none
abbrev pub given_back : WorkerName → UnservedJob → UnservedJob
given_back worker left = if is_held_by worker left then record left { held_by = None } else left

-- how often a job was left, if it was left within the last 10 minutes
abbrev pub recent_times : ℕ → UnservedJob → ℕ
recent_times now_ms left = if is_recent now_ms left then left.times else 0

-- The most times that one of the jobs was left that were left within the last 10 minutes, and 0 if there is none.
abbrev pub most_times : ℕ → List UnservedJob → ℕ
most_times now_ms jobs = fold (λ most left. max (recent_times now_ms left) most) 0 jobs
