-- How long texts to the job server may take.
use Rattle.std.specs.Prelude.{ℕ, List, ◌*◌, ◌-◌, ◌^◌, ◌==◌, max, min, if◌then◌else◌, Option, None, Result, Ok, Err}
use Rattle.byte_io.specs.declared.device.DeviceFault.{DeviceFault}
use Rattle.pool_settings.specs.Settings.{Settings}

-- How many milliseconds one write may take at most: 65 timeouts of a read.
abbrev pub write_ms : Settings → ℕ
write_ms settings = min (settings.lull_ms * 65) (2 ^ 32 - 1)

-- How many milliseconds a text may take after its first write: as many as a job may, or as one write, if that is more.
abbrev pub text_ms : Settings → ℕ
text_ms settings = max settings.job_timeout_ms (write_ms settings)

-- How many milliseconds a status may take: ten seconds, or as many as one write may take, if that is more.
abbrev pub status_ms : Settings → ℕ
status_ms settings = max (write_ms settings) 10000

-- the way to a job server: its name, and the times of its links
pub record Route : Type 0 where
  pub server : List ℕ
  pub lull_ms : ℕ
  pub text_ms : ℕ
  pub status_ms : ℕ

-- the way to the server of these settings, by their times
abbrev pub route_by : Settings → Route
route_by settings =
    record { server = settings.server; lull_ms = settings.lull_ms; text_ms = text_ms settings; status_ms = status_ms settings }

-- The deadline after a write of so many bytes, of a text with this deadline. A text that was taken whole leaves none.
abbrev pub deadline_after : Result ℕ DeviceFault → ℕ → Option ℕ → Option ℕ
deadline_after (Ok taken) count deadline = if taken == count then None else deadline
deadline_after (Err fault) count deadline = deadline
