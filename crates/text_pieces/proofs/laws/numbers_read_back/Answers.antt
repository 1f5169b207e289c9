use Rattle.text_pieces.proofs.Digits.{read_back}
use Rattle.text_pieces.proofs.laws.numbers_read_back.Goals as goal

pub returns : goal.returns
returns c = read_back
