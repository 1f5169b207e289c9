-- Devices over memory, as values.
use Rattle.std.specs.Prelude.{◌≡◌, ℕ, ◌+◌, ◌-◌, ◌<◌, ◌≤◌, List, Bool, true, false, Result, Ok, Err, drop, length, min, take}
use Rattle.byte_io.specs.declared.device.DeviceFault.{DeviceFault}
use Rattle.byte_io.specs.declared.device.Took.{Took}
use Rattle.byte_io.specs.declared.device.Took.TheVariants as took

-- a text, how many of its bytes were read, and whether its end was reported
pub record Read : Type 0 where
  pub text : List ℕ
  pub at : ℕ
  pub has_ended : Bool

-- the end is reported after the last byte alone
pub record IsRead (r : Read) : Type 0 where
  pub within : r.at ≤ length r.text
  pub whole : r.has_ended ≡ true → r.at ≡ length r.text

-- The text before a read, the buffer and the answer of the read, and the text after it. As many bytes are given as are left and have room,
-- and after the last there is the end.
abbrev pub ReadsText : Read → List ℕ → Result Took DeviceFault → Read → Type 0
ReadsText old buffer (Ok (took.Bytes n)) new =
    (n ≡ min (length old.text - old.at) (length buffer)) × (0 < n) × (take n buffer ≡ take n (drop old.at old.text))
    × (new ≡ record old { at = old.at + n; has_ended = false })
ReadsText old buffer (Ok took.Ended) new = (old.at ≡ length old.text) × (new ≡ record old { has_ended = true })
ReadsText old buffer (Ok took.Lull) new = ⊥
ReadsText old buffer (Err f) new = ⊥

-- the bytes that were written, and how many writes failed
pub record Written : Type 0 where
  pub bytes : List ℕ
  pub failures : ℕ
