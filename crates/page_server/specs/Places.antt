-- Places for peers.
use Rattle.std.specs.Prelude.{ℕ, Bool, List, true, false, ◌&&◌, nat_lt}
use Rattle.std.specs.List.{prefix_len}
use Rattle.page_server.specs.declared.guests.Guest.{Guest}
use Rattle.page_server.specs.declared.guests.Stay.{Stay}
use Rattle.page_server.specs.declared.guests.Stay.TheVariants.{Asks, Waits}
use Rattle.page_server.specs.declared.places.Distance.{Distance}
use Rattle.page_server.specs.declared.places.Distance.TheVariants.{Far, Near}

-- whether one more peer is let in, if so many places are taken in all, and so many by peers from elsewhere
abbrev pub has_room : ℕ → ℕ → Distance → Bool
has_room all far Near = nat_lt all 64
has_room all far Far = nat_lt all 64 && nat_lt far 63

abbrev pub is_near : Distance → Bool
is_near Near = true
is_near Far = false

abbrev pub is_wait : Stay → Bool
is_wait Asks = false
is_wait Waits = true

-- whether a peer waits for the end of its farm
abbrev pub waits : Guest → Bool
waits guest = is_wait guest.stay

-- the place of the first of these peers that does not wait for the end of its farm: it gives up its place first. None does if all wait
abbrev pub first_to_go : List Guest → ℕ
first_to_go guests = prefix_len waits guests
