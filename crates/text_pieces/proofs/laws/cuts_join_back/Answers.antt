use Rattle.text_pieces.proofs.Cutting.{cuts_joined}
use Rattle.text_pieces.proofs.laws.cuts_join_back.Goals as goal

pub returns : goal.returns
returns c = cuts_joined
