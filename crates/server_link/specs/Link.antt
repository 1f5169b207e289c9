-- A link to a job server, and what it reports.
use Rattle.std.specs.Prelude.{ℕ, ◌≡◌, ◌+◌, Bool, false, IsErr, Result, Ok}
use Rattle.byte_io.specs.declared.device.Took.{Took}
use Rattle.byte_io.specs.declared.device.Took.TheVariants as took
use Rattle.byte_io.specs.declared.device.DeviceFault.{DeviceFault}
use Rattle.byte_io.specs.Sides.{Input, Output, counted}
use Rattle.server_link.specs.Talk.{Talk, AsksForStatus, HasHeard, WasLongAgo}

-- What the link under it reports; what was said over it; how often it failed by itself, as the server was silent; how many timeouts it
-- answered by itself; and whether its last read found the end.
pub record Linked : Type 0 where
  pub input : Input
  pub output : Output
  pub talk : Talk
  pub silences : ℕ
  pub looks : ℕ
  pub has_ended : Bool

-- as the link under it, with its own timeouts and failures
abbrev pub input_of : Linked → Input
input_of l = record {
  given = l.input.given;
  lulls = counted l.input.lulls l.looks;
  failures = l.input.failures + l.silences;
  has_ended = l.has_ended;
}

-- A read fails by itself, and the link under it is not read.
abbrev pub GivesUp : Linked → Result Took DeviceFault → Linked → Type 0
GivesUp old result new = IsErr result × (new ≡ record old { silences = old.silences + 1; has_ended = false })

-- A read answers a timeout by itself, a second or more after the last one, and not in a status. The link under it is not read.
abbrev pub LooksUp : Linked → Result Took DeviceFault → Linked → Type 0
LooksUp old result new =
    (result ≡ Ok took.Lull) × (¬ AsksForStatus old.talk) × WasLongAgo old.talk.looked_ms new.talk.looked_ms
    × (new ≡ record old { talk = record old.talk { looked_ms = new.talk.looked_ms }; looks = old.looks + 1; has_ended = false })

-- A read is one of the link under it.
abbrev pub Listens : Linked → Result Took DeviceFault → Linked → Type 0
Listens old result new = (new.silences ≡ old.silences) × (new.looks ≡ old.looks) × HasHeard old.talk result new.talk
