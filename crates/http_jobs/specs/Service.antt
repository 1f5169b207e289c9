-- Where a service is, and who asks it.
use Rattle.std.specs.Prelude.{ℕ, List, string_bytes}
use Rattle.http_jobs.specs.declared.service.Service.{Service}

-- Where the requests of a worker go, and the worker's name.
pub record Address : Type 0 where
  -- as `10.0.0.5:8000`
  pub host : List ℕ
  -- under which the functions are, as `/jobs`
  pub path : List ℕ
  -- as `north/0#3`
  pub worker : List ℕ

abbrev pub address_of : Service → Address
address_of s = record { host = string_bytes s.host; path = string_bytes s.path; worker = string_bytes s.worker }
