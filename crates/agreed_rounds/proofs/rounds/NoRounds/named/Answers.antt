use Rattle.std.proofs.Common.{[], rules}
use Rattle.agreed_rounds.proofs.Moves.{parts_as}
use Rattle.agreed_rounds.proofs.rounds.NoRounds.named.Goals as goal

pub split_pass-told-requires : goal.split_pass-told-requires
split_pass-told-requires g c = (search rules, (search rules, (c.self.invariant.0, parts_as _ _ [] c.self.invariant.1)))
