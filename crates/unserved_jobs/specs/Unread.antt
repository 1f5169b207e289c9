-- Workers of a farm that ended lately since a packet of their job server could not be read.
use Rattle.std.specs.Prelude.{ℕ, ◌+◌, ◌-◌, ◌^◌, min, nat_lt, if◌then◌else◌, Option, None}
use Rattle.unserved_jobs.specs.Unserved.{hold_ms}

-- What is known of the workers that ended so.
pub record Unread : Type 0 where
  -- how many ended so, each less than 10 minutes after the one before
  pub times : ℕ
  -- when the last one did, in milliseconds
  pub last_ms : ℕ
  -- how many of their links are held
  pub held : ℕ

-- none ended so yet
abbrev pub none_unread : Unread
none_unread = record { times = 0; last_ms = 0; held = 0 }

-- how many ended so, each less than 10 minutes after the one before, if the last one did less than 10 minutes ago, and else 0
abbrev pub times_lately : ℕ → Unread → ℕ
times_lately now_ms unread = if nat_lt (now_ms - unread.last_ms) 600000 then unread.times else 0

-- the same with one that ends so now
abbrev pub unread_times : ℕ → Unread → ℕ
unread_times now_ms before = min (times_lately now_ms before + 1) (2 ^ 32 - 1)

-- For how many milliseconds the link is held of a worker that ends so now, if it is: the first as a job that was left twice, each further
-- one twice as long, and 16 at once at most.
abbrev pub unread_hold_ms : ℕ → Unread → Option ℕ
unread_hold_ms now_ms before = if nat_lt before.held 16 then hold_ms (min (unread_times now_ms before + 1) (2 ^ 32 - 1)) else None
