-- The services of a farm, apart from how they are kept.
use Rattle.std.specs.Prelude.{◌≡◌, ℕ, ◌≤◌, Bool, List, Option, length, true}
use Rattle.std.specs.Char.{is_ascii_graphic}
use Rattle.std.specs.List.{list_all}

-- Where the jobs of a machine go: a job of the function F to PATH/F at the host.
pub record Url : Type 0 where
  -- a name or an address, a colon and a port
  pub host : List ℕ
  -- empty, or what begins with a slash
  pub path : List ℕ

-- What each URL keeps: it can be sent in a request.
pub record IsSendable (url : Url) : Type 0 where
  pub host_some : 1 ≤ length url.host
  pub host_visible : list_all is_ascii_graphic url.host ≡ true
  pub path_visible : list_all is_ascii_graphic url.path ≡ true

-- The page of a farm.
pub record Page : Type 0 where
  -- the address and the port that it is at
  pub listen : List ℕ
  -- further names under which it is asked for
  pub hosts : List (List ℕ)
  -- how many jobs may wait for each worker of a function, if the page is to say how many workers are missing
  pub backlog : Option ℕ

-- Machines and functions are numbered as in the settings.
pub record Services : Type 0 where
  -- for each key of the top table its number, and 0 where it has none
  pub numbers : List ℕ
  -- for each machine where its jobs go
  pub urls : List Url
  -- for each function how long a job may take
  pub timeouts : List ℕ
  -- for each function how many times a job that services leave unserved comes again before it fails, if that is bounded
  pub retries : List (Option ℕ)
  -- for each function whether a job that a kept connection cut off is sent once more
  pub resends : List Bool
  -- the page, if there is one
  pub page : Option Page
