-- What is done to a reader, call by call, and how it goes on by that.
use Rattle.std.specs.Prelude.{◌≡◌, ℕ, List, [], ◌∷◌, Option, Some, None}
use Rattle.std.specs.List.{filter_map, flat_map}
use Rattle.gear_packets.specs.Response.{Message, waits, first_response}
use Rattle.gear_packets.specs.Text.{Reading, unread, reading, read_after, after_message, further}
use Rattle.gear_packets.specs.Reading.{nothing_read}

-- A piece that was fed, or a response that was given. A piece that was refused since memory ran out changed
-- nothing, and is no call.
pub data Call : Type 0 where
  fed : List ℕ → Call
  gave : Message → Call

abbrev pub piece_of : Call → List ℕ
piece_of (fed piece) = piece
piece_of (gave m) = []

abbrev pub response_of : Call → Option Message
response_of (fed piece) = None
response_of (gave m) = Some m

-- the stream so far
abbrev pub stream : List Call → List ℕ
stream calls = flat_map piece_of calls

-- the responses that were given so far
abbrev pub responses : List Call → List Message
responses calls = filter_map response_of calls

-- the calls lead a reader from one value to another
abbrev pub Leads : Reading → List Call → Reading → Type 0
Leads from [] to = from ≡ to
Leads from (fed piece ∷ calls) to = Leads (further from piece) calls to
Leads from (gave m ∷ calls) to = (next : Reading) × (from ≡ after_message m next) × Leads next calls to

-- ---- laws

-- However the stream was cut, and whenever the responses were taken: those that were given, those that are still to
-- be given, and the rest or the fault after them are what the stream so far says.
abbrev pub GivesItsStream : Type 0
GivesItsStream = (calls : List Call) (reader : Reading)
    → Leads nothing_read calls reader → reading (stream calls) ≡ read_after (responses calls) reader

-- what a stream leaves unread is no whole packet
abbrev pub LeavesNoPacket : Type 0
LeavesNoPacket = (bytes rest : List ℕ) → (reading bytes).ending ≡ unread rest → first_response rest ≡ waits
