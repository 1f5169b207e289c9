-- Why bytes are no handle, and why a request is not sent: the first rule that is broken. The labels of all refusals.
use Rattle.std.specs.Prelude.{ℕ, ◌==◌, nat_lt, if◌then◌else◌, List, length, Option, Some, None, Result, Ok, Err, codes}
use Rattle.refusal.specs.Label.{Label, label}
use Rattle.gear_packets.specs.declared.fault.StreamFault.{StreamFault}
use Rattle.gear_packets.specs.declared.fault.StreamFault.TheVariants as fault
use Rattle.gear_packets.specs.declared.fault.FeedError.{FeedError}
use Rattle.gear_packets.specs.declared.fault.FeedError.TheVariants as feed
use Rattle.gear_packets.specs.declared.handle.HandleError.{HandleError}
use Rattle.gear_packets.specs.declared.handle.HandleError.TheVariants.{Empty, TooLong, HasNul}
use Rattle.gear_packets.specs.declared.encoding.EncodeError.{EncodeError}
use Rattle.gear_packets.specs.declared.encoding.EncodeError.TheVariants.{TooLarge, NulInArgument, Memory}
use Rattle.gear_packets.specs.Frame.{body_limit}
use Rattle.gear_packets.specs.Request.{Packet, body_of, has_nul, names_nul}

-- the first rule of a handle that the bytes break
abbrev pub handle_refusal : List ℕ → Option HandleError
handle_refusal bytes =
    if length bytes == 0 then Some Empty else (
    if nat_lt 63 (length bytes) then Some TooLong else (
    if has_nul bytes then Some HasNul else
    None))

-- the first rule of a request that it breaks
abbrev pub request_refusal : Packet → Option EncodeError
request_refusal p =
    if nat_lt body_limit (length (body_of p)) then Some TooLarge else (
    if names_nul p then Some NulInArgument else
    None)

-- The broken rule that an answer gives. Out of memory gives none.
abbrev pub refusal_told : {A : Type 0} → Result A EncodeError → Option EncodeError
refusal_told (Ok x) = None
refusal_told (Err TooLarge) = Some TooLarge
refusal_told (Err NulInArgument) = Some NulInArgument
refusal_told (Err Memory) = None

-- ---- labels

abbrev pub handle_label : HandleError → Label
handle_label Empty = label 1 (codes "Empty")
handle_label TooLong = label 2 (codes "TooLong")
handle_label HasNul = label 3 (codes "HasNul")

abbrev pub encode_label : EncodeError → Label
encode_label TooLarge = label 1 (codes "TooLarge")
encode_label NulInArgument = label 2 (codes "NulInArgument")
encode_label Memory = label 3 (codes "Memory")

abbrev pub fault_label : StreamFault → Label
fault_label fault.BadMagic = label 1 (codes "BadMagic")
fault_label fault.TooLarge = label 2 (codes "TooLarge")
fault_label fault.BadBody = label 3 (codes "BadBody")
fault_label fault.HandleTooLong = label 4 (codes "HandleTooLong")

-- A fault of the stream has its own label.
abbrev pub feed_label : FeedError → Label
feed_label (feed.Fault f) = fault_label f
feed_label feed.Memory = label 5 (codes "Memory")
