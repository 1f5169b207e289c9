-- What a job server was told last over a link, and for how long it has been silent since.
use Rattle.std.specs.Prelude.{ℕ, ◌≡◌, ◌+◌, ◌-◌, ◌^◌, ◌≤◌, min, List, ◌∷◌, [], ◌++◌, drop, length, Bool, true, false}
use Rattle.std.specs.Prelude.{Option, Some, None, Result, Ok, Err}
use Rattle.byte_io.specs.declared.device.Took.{Took}
use Rattle.byte_io.specs.declared.device.Took.TheVariants as took
use Rattle.byte_io.specs.declared.device.DeviceFault.{DeviceFault}
use Rattle.gear_packets.specs.Request.{encoding, grab_job}

-- The last twelve bytes given; how many timeouts there were since; whether anything else came since; when the first read since began; and
-- when that was, or when the last timeout was, if one came. Times are in milliseconds, and None if the clock did not show one.
pub record Talk : Type 0 where
  pub last : List ℕ
  pub timeouts : ℕ
  pub is_answered : Bool
  pub began_ms : Option ℕ
  pub looked_ms : Option ℕ

-- before anything is given, as if twelve zero bytes had been
abbrev pub first_talk : Talk
first_talk = record {
  last = 0 ∷ 0 ∷ 0 ∷ 0 ∷ 0 ∷ 0 ∷ 0 ∷ 0 ∷ 0 ∷ 0 ∷ 0 ∷ 0 ∷ [];
  timeouts = 0;
  is_answered = false;
  began_ms = None;
  looked_ms = None;
}

-- after these bytes more are given
abbrev pub told : Talk → List ℕ → Talk
told talk more =
    record { last = drop (length more) (talk.last ++ more); timeouts = 0; is_answered = false; began_ms = None; looked_ms = None }

-- the new time if no read has begun, and else the one that is kept
abbrev pub at_first : Option ℕ → Option ℕ → Option ℕ → Option ℕ
at_first None new kept = new
at_first (Some began) new kept = kept

-- a read begins at this time, which is kept if it is the first since something was given
abbrev pub begun : Talk → Option ℕ → Talk
begun talk now =
    record talk { began_ms = at_first talk.began_ms now talk.began_ms; looked_ms = at_first talk.began_ms now talk.looked_ms }

-- a timeout at this time; 2^32 - 1 of them are counted at most
abbrev pub waited : Talk → Option ℕ → Talk
waited talk now = record talk { timeouts = min (talk.timeouts + 1) (2 ^ 32 - 1); looked_ms = now }

-- something else than a timeout
abbrev pub answered : Talk → Talk
answered talk = record talk { is_answered = true }

-- What a read of the link makes of a talk: a timeout is one, and whatever else the read brings is an answer, bytes or not.
abbrev pub HasHeard : Talk → Result Took DeviceFault → Talk → Type 0
HasHeard old (Ok took.Lull) new = new ≡ waited (begun old new.began_ms) new.looked_ms
HasHeard old (Ok (took.Bytes n)) new = new ≡ answered (begun old new.began_ms)
HasHeard old (Ok took.Ended) new = new ≡ answered (begun old new.began_ms)
HasHeard old (Err fault) new = new ≡ answered (begun old new.began_ms)

-- What was given last is a request for a job, and nothing came since.
abbrev pub OwesAnAnswer : Talk → Type 0
OwesAnAnswer talk = (talk.last ≡ encoding grab_job) × (talk.is_answered ≡ false)

-- so many milliseconds lie between two times, or one of them is not known
abbrev pub HasPassed : ℕ → Option ℕ → Option ℕ → Type 0
HasPassed milliseconds (Some first) (Some second) = first + milliseconds ≤ second
HasPassed milliseconds None second = Unit {0}
HasPassed milliseconds (Some first) None = Unit {0}

-- The server has owed the answer to a request for a job for 65 timeouts, and for ten seconds if the clock shows them.
abbrev pub IsSilent : Talk → Type 0
IsSilent talk = OwesAnAnswer talk × (65 ≤ talk.timeouts) × HasPassed 10000 talk.began_ms talk.looked_ms

-- "status" and a line feed
abbrev pub status_request : List ℕ
status_request = 115 ∷ 116 ∷ 97 ∷ 116 ∷ 117 ∷ 115 ∷ 10 ∷ []

-- What was given last is the request for the status.
abbrev pub AsksForStatus : Talk → Type 0
AsksForStatus talk = drop 5 talk.last ≡ status_request

-- The last timeout, or the first read since something was given, was a second ago or longer.
abbrev pub WasLongAgo : Option ℕ → Option ℕ → Type 0
WasLongAgo (Some looked) (Some now) = looked + 1000 ≤ now
WasLongAgo None now = ⊥
WasLongAgo (Some looked) None = ⊥
