-- A farm: the settings of its pool, and the services of its machines.
use Rattle.std.specs.Prelude.{◌≡◌, ◌⊎◌, ℕ, List, [], ◌∷◌, length, slice_get, slice_index, slice_index_or}
use Rattle.std.specs.Prelude.{Bool, true, if◌then◌else◌, Option, IfSome, None, Some, Ok, Err, option_and_then, option_map}
use Rattle.std.specs.Option.{option_map_or}
use Rattle.http_jobs.specs.Service.{address_of}
use Rattle.http_jobs.specs.Serving.{DialCall, opened}
use Rattle.http_jobs.specs.declared.service.Service.{Service}
use Rattle.http_jobs.specs.declared.service_jobs.JobTerms.{JobTerms}
use Rattle.http_jobs.specs.declared.service_jobs.Resend.{Resend}
use Rattle.http_jobs.specs.declared.service_jobs.Resend.TheVariants.{Never, Once}
use Rattle.plan_commands.specs.Mistake.{Reads}
use Rattle.plan_commands.specs.ServicesMistake.{ReadsServices}
use Rattle.plan_commands.specs.declared.fault.Fault.{Fault}
use Rattle.pool_settings.specs.Names.{place_of}
use Rattle.pool_settings.specs.Reading.{reading}
use Rattle.pool_settings.specs.Settings.{Settings}
use Rattle.pool_settings.specs.Slots.{machine_of, worker_text}
use Rattle.service_settings.specs.Reading as services
use Rattle.service_settings.specs.Services.{Services, Url}
use Rattle.worker_state.specs.declared.slot.WorkerName.{WorkerName}

pub record Farm : Type 0 where
  pub settings : Settings
  pub services : Services

-- Each machine has a URL, and each function a time.
pub record IsWhole (settings : Settings) (services : Services) : Type 0 where
  pub machines : length services.urls ≡ length settings.machines
  pub functions : length services.timeouts ≡ length settings.functions

-- The first text means these settings, and beside them the second means these services.
abbrev pub IsOf : List ℕ → List ℕ → Settings → Services → Type 0
IsOf settings_text services_text settings served =
    (reading settings_text ≡ Ok settings) × (services.reading settings services_text ≡ Ok served)

-- Why the texts are refused: the first mistake of the settings, or of the services beside them if the settings have none. Or memory is
-- refused.
abbrev pub IsRefused : List ℕ → List ℕ → Fault → Type 0
IsRefused settings_text services_text f =
    Reads settings_text (Err f)
    ⊎ ((settings : Settings) × (reading settings_text ≡ Ok settings) × ReadsServices settings services_text (Err f))

-- how long a job of this function may take: what the services say, if the settings have the function
abbrev pub timeout_in : Farm → List ℕ → ℕ
timeout_in farm name = option_map_or (λ f. slice_index farm.services.timeouts f) (place_of farm.settings.functions name)
    farm.settings.job_timeout_ms

-- whether a job of this function is sent once more that the kept connection cut off: what the services say, if the settings have it
abbrev pub resends_in : Farm → List ℕ → Bool
resends_in farm name = option_map_or (λ f. slice_index_or farm.services.resends f true) (place_of farm.settings.functions name) true

abbrev pub resend_in : Farm → List ℕ → Resend
resend_in farm name = if resends_in farm name then Once else Never

-- the terms of a job of this function: its time, and whether it is sent once more
abbrev pub terms_in : Farm → List ℕ → JobTerms
terms_in farm name = record { timeout_ms = timeout_in farm name; resend = resend_in farm name }

-- how many times a job of this function that services leave unserved comes again before it fails, if that is bounded
abbrev pub retries_in : Farm → List ℕ → Option ℕ
retries_in farm name = option_and_then (λ f. slice_index_or farm.services.retries f None) (place_of farm.settings.functions name)

-- the host and port in the URL of the slot's machine
pub record IsHostOf (farm : Farm) (slot : ℕ) (host : List ℕ) : Type 0 where
  pub url : Url
  pub own : slice_get farm.services.urls (machine_of farm.settings slot) ≡ Some url
  pub is_its : host ≡ url.host

-- The service is that of the worker's machine, and is asked in the worker's name.
pub record IsServiceOf (farm : Farm) (worker : WorkerName) (service : Service) : Type 0 where
  pub url : Url
  pub own : slice_get farm.services.urls (machine_of farm.settings worker.slot) ≡ Some url
  pub asks : address_of service
      ≡ record { host = url.host; path = url.path; worker = worker_text farm.settings worker.slot worker.generation }

-- If what dials says which host it dials, that is the host of the worker's machine. If it shows its calls, there was one, a dial that
-- opened a connection.
pub record HasDialled (farm : Farm) (worker : WorkerName) (named : Option (List ℕ)) (calls : Option (List DialCall)) : Type 0 where
  pub host : List ℕ
  pub own : IsHostOf farm worker.slot host
  pub leads : IfSome named (λ named. named ≡ host)
  pub once : calls ≡ option_map (λ _. opened ∷ []) calls
