-- Whole texts of packets: what a stream from the server says, and what a worker has sent.
use Rattle.std.specs.Prelude.{◌≡◌, ℕ, zero, suc, Bool, true, false, not, nat_eq, if◌then◌else◌, List, [], ◌∷◌, ◌++◌, length, Option, Some}
use Rattle.std.specs.Prelude.{None}
use Rattle.std.specs.List.{filter, flat_map, filter_map, list_any, AllByRecursion}
use Rattle.std.specs.Cmp.Lexicographic.{pointwise}
use Rattle.gear_packets.specs.declared.fault.StreamFault.{StreamFault}
use Rattle.gear_packets.specs.Request.{Packet, can_do, cant_do, pre_sleep, grab_job, set_client_id, work_status, work_complete, work_fail}
use Rattle.gear_packets.specs.Request.{work_data, work_warning, encoding, IsSent, first_request}
use Rattle.gear_packets.specs.Response.{AssignedJob, Message, noop, no_job, assign, server_error, other, gives, faulty, waits}
use Rattle.gear_packets.specs.Response.{first_response}

-- how a stream ends: with bytes that are no whole packet yet, or at a fault
pub data Ending : Type 0 where
  unread : List ℕ → Ending
  broken : StreamFault → Ending

-- what a stream says before its first fault or unfinished packet, and how it ends
pub record Reading : Type 0 where
  pub messages : List Message
  pub ending : Ending

abbrev pub after_message : Message → Reading → Reading
after_message m r = record { messages = m ∷ r.messages; ending = r.ending }

-- A packet has 12 bytes at least, so the length of a text bounds the number of its packets.
unfoldable pub reading_within : ℕ → List ℕ → Reading
reading_within zero bytes = record { messages = []; ending = unread bytes }
reading_within (suc most) bytes = elim (first_response bytes) [
  | gives m rest ↦ after_message m (reading_within most rest)
  | faulty f ↦ record { messages = []; ending = broken f }
  | waits ↦ record { messages = []; ending = unread bytes }
]

unfoldable pub reading : List ℕ → Reading
reading bytes = reading_within (length bytes) bytes

-- a reading that goes on with more bytes
abbrev pub read_after : List Message → Reading → Reading
read_after ms r = record { messages = ms ++ r.messages; ending = r.ending }

unfoldable pub further : Reading → List ℕ → Reading
further r piece = elim r.ending [
  | unread rest ↦ read_after r.messages (reading (rest ++ piece))
  | broken f ↦ r
]

abbrev pub assignment_of : Message → Option AssignedJob
assignment_of noop = None
assignment_of no_job = None
assignment_of (assign a) = Some a
assignment_of (server_error code text) = None
assignment_of (other kind) = None

abbrev pub assignments_in : List Message → List AssignedJob
assignments_in ms = filter_map assignment_of ms

-- the jobs that a stream hands out, in order
abbrev pub assignments : List ℕ → List AssignedJob
assignments bytes = assignments_in (reading bytes).messages

-- ---- what a worker has sent

-- the packets at the start of a text, and what comes after them
pub record Sent : Type 0 where
  pub packets : List Packet
  pub rest : List ℕ

unfoldable pub sent_within : ℕ → List ℕ → Sent
sent_within zero bytes = record { packets = []; rest = bytes }
sent_within (suc most) bytes = elim (first_request bytes) [
  | None ↦ record { packets = []; rest = bytes }
  | Some p ↦ record { packets = p.0 ∷ (sent_within most p.1).packets; rest = (sent_within most p.1).rest }
]

unfoldable pub sent : List ℕ → Sent
sent bytes = sent_within (length bytes) bytes

abbrev pub text_of : List Packet → List ℕ
text_of ps = flat_map encoding ps

abbrev pub is_work : Packet → Bool
is_work (can_do name) = false
is_work (cant_do name) = false
is_work pre_sleep = false
is_work grab_job = false
is_work (set_client_id text) = false
is_work (work_status handle part whole) = true
is_work (work_complete handle bytes) = true
is_work (work_fail handle) = true
is_work (work_data handle bytes) = true
is_work (work_warning handle bytes) = true

-- the packets of a request text that answer jobs, in order
abbrev pub work_requests : List ℕ → List Packet
work_requests bytes = filter is_work (sent bytes).packets

abbrev pub is_same_name : List ℕ → List ℕ → Bool
is_same_name a b = pointwise nat_eq a b

-- the functions that are registered, each once, after one more packet
abbrev pub register : List (List ℕ) → Packet → List (List ℕ)
register names (can_do name) = if list_any (is_same_name name) names then names else names ++ name ∷ []
register names (cant_do name) = filter (λ n. not (is_same_name name n)) names
register names pre_sleep = names
register names grab_job = names
register names (set_client_id text) = names
register names (work_status handle part whole) = names
register names (work_complete handle bytes) = names
register names (work_fail handle) = names
register names (work_data handle bytes) = names
register names (work_warning handle bytes) = names

abbrev pub registered_by : List (List ℕ) → List Packet → List (List ℕ)
registered_by names [] = names
registered_by names (p ∷ ps) = registered_by (register names p) ps

-- the functions that a request text leaves registered
abbrev pub registered : List ℕ → List (List ℕ)
registered bytes = registered_by [] (sent bytes).packets

-- ---- laws

-- however a stream is cut, it says the same
abbrev pub CutAnywhere : Type 0
CutAnywhere = (bytes more : List ℕ) → reading (bytes ++ more) ≡ further (reading bytes) more

-- a text of packets says those packets, and no others
abbrev pub SaysItsPackets : Type 0
SaysItsPackets = (ps : List Packet) → AllByRecursion IsSent ps → (sent (text_of ps)).packets ≡ ps

-- A request text of whole packets that grows by a packet: its work and the functions that it registers change by
-- that packet alone.
abbrev pub GrowsByARequest : Type 0
GrowsByARequest = (text : List ℕ) (p : Packet) → (sent text).rest ≡ [] → IsSent p
    → (work_requests (text ++ encoding p) ≡ work_requests text ++ filter is_work (p ∷ []))
    × (registered (text ++ encoding p) ≡ register (registered text) p)

-- the same of a stream of whole responses
abbrev pub GrowsByAResponse : Type 0
GrowsByAResponse = (text piece : List ℕ) (m : Message) → (reading text).ending ≡ unread [] → first_response piece ≡ gives m []
    → assignments (text ++ piece) ≡ assignments text ++ assignments_in (m ∷ [])
