-- What a gift that does not wait says of a sink.
use Rattle.std.specs.Prelude.{ℕ, List, [], take, Option, Some, None, Result, Ok, Err}
use Rattle.byte_io.specs.declared.device.DeviceFault.{DeviceFault}

-- its bytes: none if there was no room
abbrev pub gone_at_once : List ℕ → Result (Option ℕ) DeviceFault → List ℕ
gone_at_once bytes (Ok (Some n)) = take n bytes
gone_at_once bytes (Ok None) = []
gone_at_once bytes (Err f) = []
