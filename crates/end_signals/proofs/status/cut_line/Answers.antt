use Rattle.text_pieces.proofs.Lines.{line_cut}
use Rattle.end_signals.proofs.status.cut_line.Goals as goal

pub returns : goal.returns
returns c = line_cut c.args.text.now c.cut_first.result c.cut_first.ensures.parts c.cut_first.ensures.shorter
