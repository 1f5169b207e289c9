-- Bytes that are no whole packet and no fault yet.
use Rattle.std.specs.Prelude.{◌≡◌, ℕ, List, []}
use Rattle.gear_packets.specs.Text.{unread, reading}

-- what is kept holds no whole packet and no fault
pub record Unread (rest : List ℕ) : Type 0 where
  pub nothing : reading rest ≡ record { messages = []; ending = unread rest }
