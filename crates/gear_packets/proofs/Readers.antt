-- What a reader holds.
use Rattle.std.proofs.Common.{◌≡◌, ℕ, List, [], Option, Some, None, refl}
use Rattle.gear_packets.specs.declared.fault.StreamFault.{StreamFault}
use Rattle.gear_packets.specs.Response.{Message}
use Rattle.gear_packets.specs.Text.{Ending, unread, broken, Reading, further}
use Rattle.gear_packets.specs.Reading.{ending_of, fault_of}
use Rattle.gear_packets.specs.Unread.{Unread}
use Rattle.gear_packets.proofs.Responses.{response_of_nothing}
use Rattle.gear_packets.proofs.Texts.{reading_waits}

pub unread_nothing : (rest : List ℕ) → rest ≡ [] → Unread rest
unread_nothing rest h = rw h (record { nothing = reading_waits [] response_of_nothing })

pub fault_of_ending : (rest : List ℕ) (o : Option StreamFault) → fault_of (ending_of rest o) ≡ o
fault_of_ending rest None = refl
fault_of_ending rest (Some f) = refl

broken_stays : (ms : List Message) (e : Ending) (f : StreamFault) (piece : List ℕ) → fault_of e ≡ Some f → record { messages = ms; ending = e } ≡ further (record { messages = ms; ending = e }) piece
unfolding further
broken_stays ms (unread rest) f piece h = absurd cc
broken_stays ms (broken g) f piece h = refl

pub failed_stays : (r : Reading) (f : StreamFault) (piece : List ℕ) → fault_of r.ending ≡ Some f → (r ≡ further r piece) × (fault_of r.ending ≡ Some f)
failed_stays r f piece h = (broken_stays r.messages r.ending f piece h, h)
