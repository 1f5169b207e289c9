-- The settings, apart from how they are kept.
use Rattle.std.specs.Prelude.{◌≡◌, ℕ, ◌<◌, ◌≤◌, ◌^◌, List, length, sum, All, IsTrue}
use Rattle.std.specs.List.Sorted.{IsStrictlyIncreasing}
use Rattle.pool_settings.specs.Names.{IsInByteOrder, is_machine_name, is_name}

-- Functions and machines are numbered from 0 by name in byte order.
pub record Settings : Type 0 where
  -- the job server, dialled as host:port
  pub server : List ℕ
  -- how long a worker may take for a job
  pub job_timeout_ms : ℕ
  -- the runs after which a worker is replaced
  pub max_runs : ℕ
  -- the pause between two rounds
  pub round_ms : ℕ
  -- how long a read waits before it times out
  pub lull_ms : ℕ
  -- the most events that are kept
  pub history : ℕ
  -- the functions' names
  pub functions : List (List ℕ)
  -- for each function the least number of its workers
  pub least : List ℕ
  -- for each function the greatest number of its workers
  pub most : List ℕ
  -- the machines' names
  pub machines : List (List ℕ)
  -- for each machine the number of its workers
  pub workers : List ℕ
  -- for each machine the functions that its workers may do, in rising order
  pub may : List (List ℕ)

-- What all settings keep.
pub record AreSettings (settings : Settings) : Type 0 where
  pub server_some : 1 ≤ length settings.server
  pub server_few : length settings.server ≤ 255
  pub job_timeout_some : 1 ≤ settings.job_timeout_ms
  pub job_timeout_few : settings.job_timeout_ms < 2 ^ 32
  pub max_runs_some : 1 ≤ settings.max_runs
  pub max_runs_few : settings.max_runs < 2 ^ 32
  pub round_some : 1 ≤ settings.round_ms
  pub round_few : settings.round_ms ≤ 3600000
  pub lull_some : 1 ≤ settings.lull_ms
  pub lull_few : settings.lull_ms ≤ 3600000
  pub history_some : 1 ≤ settings.history
  pub history_few : settings.history ≤ 1048576
  pub functions_rise : IsInByteOrder settings.functions
  pub functions_named : All (λ name. IsTrue (is_name name)) settings.functions
  pub functions_few : length settings.functions ≤ 1024
  pub least_paired : length settings.least ≡ length settings.functions
  pub least_few : All (λ n. n ≤ 4096) settings.least
  pub most_paired : length settings.most ≡ length settings.functions
  pub most_few : All (λ n. n ≤ 4096) settings.most
  pub machines_rise : IsInByteOrder settings.machines
  pub machines_named : All (λ name. IsTrue (is_machine_name name)) settings.machines
  pub machines_few : length settings.machines ≤ 256
  pub workers_paired : length settings.workers ≡ length settings.machines
  pub workers_few : sum settings.workers ≤ 4096
  pub may_paired : length settings.may ≡ length settings.machines
  pub may_rise : All IsStrictlyIncreasing settings.may
  pub may_within : All (λ row. All (λ f. f < length settings.functions) row) settings.may
