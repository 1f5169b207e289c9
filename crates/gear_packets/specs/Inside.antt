-- What the fields of a reader mean.
use Rattle.std.specs.Prelude.{◌≡◌, map, Option, None}
use Rattle.gear_packets.specs.declared.fault.StreamFault.{StreamFault}
use Rattle.gear_packets.specs.declared.reader.Held.{Held}
use Rattle.gear_packets.specs.declared.reader.Reader.TheInside.{Inside}
use Rattle.gear_packets.specs.Text.{Reading}
use Rattle.gear_packets.specs.Unread.{Unread}
use Rattle.gear_packets.specs.Reading.{message_of, ending_of}

-- what is held, and the fault after it, if there is one
abbrev pub reading_with : Option StreamFault → Held → Reading
reading_with fault h = record { messages = map message_of h.pending.items; ending = ending_of h.rest.items fault }

abbrev pub reading_of : Inside → Reading
reading_of r = reading_with r.fault r.held

abbrev pub IsUnread : Inside → Type 0
IsUnread r = r.fault ≡ None → Unread r.held.rest.items
