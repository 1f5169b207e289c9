-- What may be sent in a request.
use Rattle.std.specs.Prelude.{ℕ, Bool, ◌&&◌, nat_lt, List, length}
use Rattle.std.specs.List.{list_all}
use Rattle.std.specs.Char.{is_ascii_graphic}
use Rattle.http1.specs.Head.{is_trimmed_value}

-- a header's value, and not empty (RFC 9110, section 5.5)
abbrev pub is_sent : List ℕ → Bool
is_sent value = nat_lt 0 (length value) && is_trimmed_value value

-- no other characters than visible ones of ASCII
abbrev pub is_visible : List ℕ → Bool
is_visible text = list_all is_ascii_graphic text
