-- Hosts, and the addresses of sockets.
use Rattle.std.specs.Prelude.{ℕ, List, ◌-◌, ◌^◌, Bool, false, ◌&&◌, ◌||◌, ◌==◌, nat_le, is_some, length, take, drop}
use Rattle.std.specs.Prelude.{Option, Some, None, option_and_then, if◌then◌else◌, codes}
use Rattle.std.specs.Char.{is_ascii_alphanumeric}
use Rattle.std.specs.List.{list_all}
use Rattle.std.specs.Net.Reader.{read_ipv6, read_socket_v4, read_socket_v6, whole_value}
use Rattle.std.specs.Option.{option_map_or}
use Rattle.std.specs.Str.{bytes_eq}
use Rattle.text_pieces.specs.Cuts.{cut_last}
use Rattle.text_pieces.specs.Numbers.{plain_number_below}

-- what comes after these bytes at the start of a text
abbrev pub after : List ℕ → List ℕ → Option (List ℕ)
after prefix text = if bytes_eq (take (length prefix) text) prefix then Some (drop (length prefix) text) else None

-- what comes before these bytes at the end of a text
abbrev pub before : List ℕ → List ℕ → Option (List ℕ)
before end text =
    if bytes_eq (drop (length text - length end) text) end then Some (take (length text - length end) text) else None

-- a letter, a digit, `-`, `.` or `_`
abbrev pub is_name_byte : ℕ → Bool
is_name_byte b = is_ascii_alphanumeric b || ((b == 45) || ((b == 46) || (b == 95)))

abbrev pub is_name : List ℕ → Bool
is_name host = nat_le 1 (length host) && list_all is_name_byte host

-- an IPv6 address (RFC 4291, section 2.2)
abbrev pub is_ipv6 : List ℕ → Bool
is_ipv6 text = is_some (whole_value (read_ipv6 text))

-- an IPv4 address or an IPv6 address in brackets, and a port
abbrev pub is_socket : List ℕ → Bool
is_socket text = is_some (whole_value (read_socket_v4 text)) || is_some (whole_value (read_socket_v6 text))

-- an IPv6 address in brackets
abbrev pub is_bracketed : List ℕ → Bool
is_bracketed host = option_map_or is_ipv6 (option_and_then (before (codes "]")) (after (codes "[") host)) false

-- a name, an IPv4 address or an IPv6 address in brackets
abbrev pub is_host : List ℕ → Bool
is_host host = is_name host || is_bracketed host

-- a number from 1 to 65,535, without zeros before it
abbrev pub is_port : List ℕ → Bool
is_port digits = option_map_or (λ port. nat_le 1 port && nat_le port 65535) (plain_number_below (2 ^ 32) digits) false

-- a port after the last colon
abbrev pub has_port : List ℕ → Bool
has_port text = option_map_or (λ cut. is_port cut.1) (cut_last 58 text) false
