use Rattle.std.proofs.Common.{◌<◌, None, Some, length, arith}
use Rattle.std.proofs.lemmas.Bool.Decides.{nat_tests}
use Rattle.text_pieces.proofs.Lines.{line_cut}
use Rattle.pool_replay.proofs.Cuts.{last_one, line_before}
use Rattle.pool_replay.proofs.running.cut_line.Goals as goal

pub returns-in-Some : goal.returns-in-Some
returns-in-Some c =
    let text = c.args.text.now in
    let cut = c.in-Some.cut in
    let parts = line_cut text (Some cut) c.in-Some.ensures.parts c.in-Some.ensures.shorter in
    (line_before text cut.0.now cut.1.now parts.0, parts.1)

pub returns-in-None : goal.returns-in-None
returns-in-None c =
    let text = c.args.text.now in
    let some : 0 < length text = grind (arith, nat_tests, c.is_empty.ensures, c.if-is_empty.false) in
    (last_one text some (line_cut text None c.in-None.ensures.parts c.in-None.ensures.shorter), some)
