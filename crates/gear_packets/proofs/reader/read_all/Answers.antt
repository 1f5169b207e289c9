use Rattle.std.proofs.Common.{subst, sym}
use Rattle.gear_packets.proofs.Feeding.{Goes, gives_here, fault_here, end_here, unread_here}
use Rattle.gear_packets.proofs.reader.read_all.Goals as goal

pub loop-responses-preserved : goal.loop-responses-preserved
loop-responses-preserved c =
    let so_far = c.loop-responses.invariant in
    let goes = gives_here c.args.bytes.now c.loop-responses.consumed c.in-Gives.size c.loop-responses.responses.items c.in-Gives.response c.in_ok-response.field-0 c.in-Gives.is so_far.within c.in_ok-response.ensures.next c.in_ok-response.ensures.step so_far.says in
    let all = subst (Goes c.args.bytes.now c.loop-responses.consumed c.in-Gives.size) (sym c.in-Ok.ensures.items) goes in
    record { within = all.within; says = all.says; nothing = all.nothing }

pub returns-in-Faulty-clause-says : goal.returns-in-Faulty-clause-says
returns-in-Faulty-clause-says c = fault_here c.args.bytes.now c.loop-responses.consumed c.loop-responses.responses.items c.in-Faulty.fault c.in_ok-response.field-0 c.in-Faulty.is c.in_ok-response.ensures.next c.loop-responses.invariant.says

pub returns-in-Waits-clause-says : goal.returns-in-Waits-clause-says
returns-in-Waits-clause-says c = end_here c.args.bytes.now c.loop-responses.consumed c.loop-responses.responses.items c.in_ok-response.field-0 c.in-Waits.is c.in_ok-response.ensures.next c.loop-responses.invariant.says

pub returns-in-Waits-clause-unread : goal.returns-in-Waits-clause-unread
returns-in-Waits-clause-unread c = λ _. unread_here c.args.bytes.now c.loop-responses.consumed c.in_ok-response.field-0 c.in-Waits.is c.in_ok-response.ensures.next
