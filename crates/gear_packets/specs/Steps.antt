-- What the functions that read the start of a text answer, as the words of the format.
use Rattle.std.specs.Prelude.{◌≡◌, ℕ, ◌+◌, ◌-◌, ◌<◌, ◌≤◌, min, nat_lt, if◌then◌else◌, List, length, drop, Result, Ok, Err, Vec}
use Rattle.std.specs.Prelude.{vec_capacity, vec_len}
use Rattle.std.specs.declared.alloc.Global.{Global}
use Rattle.gear_packets.specs.declared.fault.StreamFault.{StreamFault}
use Rattle.gear_packets.specs.declared.fault.FeedError.{FeedError}
use Rattle.gear_packets.specs.declared.fault.FeedError.TheVariants.{Fault, Memory}
use Rattle.gear_packets.specs.declared.frame.Frame.{Frame}
use Rattle.gear_packets.specs.declared.frame.Frame.TheVariants as frame
use Rattle.gear_packets.specs.declared.meaning.Step.{Step}
use Rattle.gear_packets.specs.declared.meaning.Step.TheVariants as step
use Rattle.gear_packets.specs.declared.response.Response.{Response}
use Rattle.gear_packets.specs.Frame.{Prefix, wrong_magic, too_large, unfinished, framed, size_at}
use Rattle.gear_packets.specs.Response.{Message, Next, gives, faulty, waits}
use Rattle.gear_packets.specs.Reading.{message_of}

-- what is at the start of the bytes
abbrev pub prefix_of : Frame → List ℕ → Prefix
prefix_of frame.WrongMagic bytes = wrong_magic
prefix_of frame.TooLarge bytes = too_large
prefix_of frame.Unfinished bytes = unfinished
prefix_of (frame.Framed kind body) bytes = framed kind body.now (drop (12 + length body.now) bytes)

-- a packet lies within so many bytes
abbrev pub IsWithin : Frame → ℕ → Type 0
IsWithin frame.WrongMagic most = Unit {0}
IsWithin frame.TooLarge most = Unit {0}
IsWithin frame.Unfinished most = Unit {0}
IsWithin (frame.Framed kind body) most = 12 + length body.now ≤ most

-- a body was read as its meaning, or memory was refused
abbrev pub Says : Result Response FeedError → Result Message StreamFault → Type 0
Says (Ok r) meant = meant ≡ Ok (message_of r)
Says (Err (Fault f)) meant = meant ≡ Err f
Says (Err Memory) meant = Unit {0}

abbrev pub next_of : Step → List ℕ → Next
next_of (step.Gives r size) bytes = gives (message_of r) (drop size bytes)
next_of (step.Faulty f) bytes = faulty f
next_of step.Waits bytes = waits

abbrev pub IsStepWithin : Step → ℕ → Type 0
IsStepWithin (step.Gives r size) most = (0 < size) × (size ≤ most)
IsStepWithin (step.Faulty f) most = Unit {0}
IsStepWithin step.Waits most = Unit {0}

-- how many bytes the packet at the start still lacks, as far as its header says
abbrev pub lacks : List ℕ → ℕ
lacks bytes = if nat_lt (length bytes) 12 then 0 else 12 + size_at bytes - length bytes

-- A buffer that had to grow for so many more bytes has room for as many as it had room for before, or for all that its packet lacks. So
-- a packet is moved as often as its size doubles, however small the pieces are in which it comes.
abbrev pub IsAmple : Vec ℕ Global → Vec ℕ Global → ℕ → Type 0
IsAmple old new more =
    vec_capacity old < vec_len old + more → vec_len old + min (vec_capacity old) (lacks old.items) ≤ vec_capacity new
