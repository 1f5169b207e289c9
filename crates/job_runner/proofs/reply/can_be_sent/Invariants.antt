use Rattle.std.proofs.Common.{◌≡◌, true, map, take}
use Rattle.std.specs.List.{list_all}
use Rattle.job_runner.specs.Told.{remark_packet, remark_of, can_send}
use Rattle.job_runner.proofs.reply.can_be_sent.Given as goal

-- the notes so far can be sent
abbrev pub invariant-loop-note : goal.invariant-loop-note
invariant-loop-note l = list_all can_send (map (remark_packet l.handle) (map remark_of (take l.note-index l.note-items))) ≡ true
