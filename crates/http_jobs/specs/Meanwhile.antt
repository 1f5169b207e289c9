-- A request that goes out while its response is read.
use Rattle.std.specs.Prelude.{◌≡◌, ℕ, ◌+◌, ◌≤◌, List, ◌++◌, length, take, Option, Result, Ok, Err}
use Rattle.http1.specs.declared.conn.Limits.{Limits}
use Rattle.byte_io.specs.Sides.{Input, Output, HasText, and_then}
use Rattle.http_jobs.specs.declared.answers.Bounds.{Bounds}
use Rattle.http_jobs.specs.declared.answers.Progress.{Progress}
use Rattle.http_jobs.specs.declared.answers.Progress.TheVariants.{Partway, Read}
use Rattle.http_jobs.specs.declared.answers.Receipt.{Receipt}
use Rattle.http_jobs.specs.declared.answers.Received.{Received}
use Rattle.http_jobs.specs.declared.answers.Went.{Went}
use Rattle.http_jobs.specs.declared.answers.Went.TheVariants.{Whole, Cut}
use Rattle.http_jobs.specs.declared.fault.Came.{Came}
use Rattle.http_jobs.specs.declared.fault.Unanswered.{Unanswered}
use Rattle.http_jobs.specs.declared.reader.ResponseReader.{ResponseReader}
use Rattle.http_jobs.specs.Clock.{InTime}
use Rattle.http_jobs.specs.Exchange.{IsReceived, Sees}
use Rattle.http_jobs.specs.Reading.{IsPartway, Wants}
use Rattle.http_jobs.specs.Reasons.{HasCame, NotRefused, NothingReceived, Seen, came_of, why_of}

-- the times that a clock has shown, if it shows them
abbrev pub Shown : Type 0
Shown = Option (List (Option ℕ))

-- what a source and a clock show at one moment
pub record Moment : Type 0 where
  pub input : Input
  pub shown : Shown

abbrev pub moment : Input → Shown → Moment
moment input shown = record { input = input; shown = shown }

-- From one moment to another this was seen, no read failed, and the deadline had not come.
pub record HasSeen (deadline : Option ℕ) (first : Moment) (seen : Seen) (now : Moment) : Type 0 where
  pub sees : Sees first.input first.shown seen now.input now.shown
  pub unfailed : now.input.failures ≡ first.input.failures
  pub in_time : InTime deadline seen.times

-- The same, and what was read of the response is no whole one.
pub record HasRead
    (limits : Limits) (deadline : Option ℕ) (first : Moment) (seen : Seen) (now : Moment) (reader : ResponseReader) : Type 0 where
  pub has_seen : HasSeen deadline first seen now
  pub partway : IsPartway limits seen.read reader
  pub wants : Wants limits seen.read reader
  pub came : reader.came ≡ came_of seen.read

-- A whole response was read, or each that begins so has a body above the bound.
pub record HasReceipt (limits : Limits) (bounds : Bounds) (first now : Moment) (receipt : Receipt) : Type 0 where
  pub seen : Seen
  pub has_seen : HasSeen bounds.deadline first seen now
  pub received : IsReceived limits bounds.max_body seen.read receipt.received
  pub came : receipt.came ≡ came_of seen.read

-- None was read, for this reason.
pub record HasNone (limits : Limits) (bounds : Bounds) (first now : Moment) (e : Unanswered) : Type 0 where
  pub seen : Seen
  pub sees : Sees first.input first.shown seen now.input now.shown
  pub why : NothingReceived limits bounds.deadline seen first.input now.input e

-- what a read leaves, before which this was seen
abbrev pub ReadsOn : Limits → Bounds → Moment → Seen → Moment → Result Progress Unanswered → Type 0
ReadsOn limits bounds first seen now (Ok (Partway reader)) =
    (more : List ℕ) × (lulls : ℕ) × (1 ≤ length more + lulls)
    × HasRead limits bounds.deadline first (record { read = seen.read ++ more; lulls = seen.lulls + lulls; times = seen.times }) now reader
ReadsOn limits bounds first seen now (Ok (Read receipt)) = HasReceipt limits bounds first now receipt
ReadsOn limits bounds first seen now (Err e) = HasNone limits bounds first now e

-- how far a response was read since the first moment
abbrev pub IsReadTo : Limits → Bounds → Moment → Moment → Progress → Type 0
IsReadTo limits bounds first now (Partway reader) = (seen : Seen) × HasRead limits bounds.deadline first seen now reader
IsReadTo limits bounds first now (Read receipt) = HasReceipt limits bounds first now receipt

-- whether anything came of it
abbrev pub came_by : Progress → Came
came_by (Partway reader) = reader.came
came_by (Read receipt) = receipt.came

-- a reader that has read no whole response yet, whatever it has read
abbrev pub IsReading : ResponseReader → Type 0
IsReading r = (r.at ≤ length r.unread.items) × ((limits : Limits) × (read : List ℕ) × IsPartway limits read r × Wants limits read r)

abbrev pub IsReadingIn : Progress → Type 0
IsReadingIn (Partway reader) = IsReading reader
IsReadingIn (Read receipt) = Unit {0}

-- a text went to a sink, all of it, or a prefix, after which a write failed
abbrev pub HasGone : Went → List ℕ → Output → Output → Type 0
HasGone Whole text old new = HasText old text new
HasGone Cut text old new = ((count : ℕ) × (new.got ≡ and_then old.got (take count text))) × (new.failures ≡ old.failures + 1)

-- A whole response was read, or one that is too large.
pub record HasReceived (limits : Limits) (bounds : Bounds) (first now : Moment) (received : Received) : Type 0 where
  pub seen : Seen
  pub has_seen : HasSeen bounds.deadline first seen now
  pub is : IsReceived limits bounds.max_body seen.read received

-- Nothing was read that refuses a request of which a write failed, for this reason.
pub record HasNoRefusal (limits : Limits) (bounds : Bounds) (first now : Moment) (e : Unanswered) : Type 0 where
  pub seen : Seen
  pub sees : Sees first.input first.shown seen now.input now.shown
  pub why : NotRefused limits bounds.max_body bounds.deadline seen first.input now.input (why_of e)
  pub came : HasCame (came_of seen.read) e
