use Rattle.std.proofs.Common.{List, [], ℕ, ◌++◌}
use Rattle.std.specs.Prelude.{codes}
use Rattle.farm_page.specs.Evidence.{attempt_text, part, relaxed_text, size_part}
use Rattle.farm_page.proofs.Walks.{after_known}
use Rattle.farm_page.proofs.evidence.evidence_text.Goals as goal

pub returns : goal.returns
returns c =
    let evidence = c.args.evidence.now in
    let attempt : List ℕ = attempt_text evidence in
    let status : List ℕ = part (codes "status") evidence.status.items in
    let one = after_known c.new-out.result.items c.put_attempt.new.out.items [] attempt c.new-out.ensures.items c.in_ok-put_attempt.ensures in
    let two = after_known c.put_attempt.new.out.items c.put_part.new.out.items attempt status one (rw c.deref.ensures.value at c.in_ok-put_part.ensures) in
    let report : List ℕ = part (codes "report") evidence.report.items in
    let three = after_known c.put_part.new.out.items c.put_part-2.new.out.items (attempt ++ status) report two (rw c.deref-2.ensures.value at c.in_ok-put_part-2.ensures) in
    let relaxed : List ℕ = relaxed_text c.args.relaxed.now in
    let four = after_known c.put_part-2.new.out.items c.put_relaxed.new.out.items (attempt ++ status ++ report) relaxed three c.in_ok-put_relaxed.ensures in
    after_known c.put_relaxed.new.out.items c.put_size.new.out.items (attempt ++ status ++ report ++ relaxed) (size_part c.args.size.now) four
    c.in_ok-put_size.ensures
