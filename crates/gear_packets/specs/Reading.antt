-- What a reader holds, and what its calls do.
use Rattle.std.specs.Prelude.{◌≡◌, ℕ, List, [], Option, Some, None, Result, Ok, Err}
use Rattle.gear_packets.specs.declared.fault.StreamFault.{StreamFault}
use Rattle.gear_packets.specs.declared.fault.FeedError.{FeedError}
use Rattle.gear_packets.specs.declared.fault.FeedError.TheVariants.{Fault, Memory}
use Rattle.gear_packets.specs.declared.response.Assignment.{Assignment}
use Rattle.gear_packets.specs.declared.response.Response.{Response}
use Rattle.gear_packets.specs.declared.response.Response.TheVariants as response
use Rattle.gear_packets.specs.Response.{AssignedJob, Message, noop, no_job, assign, server_error, other}
use Rattle.gear_packets.specs.Text.{Ending, unread, broken, Reading, further}

-- an assignment without where it lies in memory
abbrev pub job_of : Assignment → AssignedJob
job_of a = record { handle = a.handle; function = a.function.items; unique = a.unique.items; payload = a.payload.items }

-- a response without where it lies in memory
abbrev pub message_of : Response → Message
message_of response.Noop = noop
message_of response.NoJob = no_job
message_of (response.Assign handle function unique payload) =
    assign (job_of (record { handle = handle; function = function; unique = unique; payload = payload }))
message_of (response.Fault code text) = server_error code.items text.items
message_of (response.Other kind) = other kind

abbrev pub ending_of : List ℕ → Option StreamFault → Ending
ending_of rest None = unread rest
ending_of rest (Some f) = broken f

abbrev pub fault_of : Ending → Option StreamFault
fault_of (unread rest) = None
fault_of (broken f) = Some f

abbrev pub nothing_read : Reading
nothing_read = record { messages = []; ending = unread [] }

-- What `feed` does. Without memory nothing changes, and no fault was found before. Else the reading goes on by the
-- piece, and a fault is answered exactly if it ends at one.
abbrev pub Fed : Reading → List ℕ → Result (Unit {0}) FeedError → Reading → Type 0
Fed old piece (Ok done) new = (new ≡ further old piece) × (fault_of new.ending ≡ None)
Fed old piece (Err (Fault f)) new = (new ≡ further old piece) × (fault_of new.ending ≡ Some f)
Fed old piece (Err Memory) new = (new ≡ old) × (fault_of old.ending ≡ None)
