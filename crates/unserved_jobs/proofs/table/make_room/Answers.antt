use Rattle.std.proofs.Common.{ap, length, arith}
use Rattle.unserved_jobs.proofs.Tables.{full_has_free}
use Rattle.unserved_jobs.proofs.table.make_room.Goals as goal

pub returns-in_default-clause-room : goal.returns-in_default-clause-room
returns-in_default-clause-room c =
    absurd (full_has_free _ _ _ c.requires (omega (arith, c.deref.ensures.len, ap length c.deref.ensures.value)) c.deref.ensures.value c.place_of_oldest.ensures c.in_default.is)
