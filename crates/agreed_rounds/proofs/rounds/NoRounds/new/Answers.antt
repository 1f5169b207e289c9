use Rattle.std.proofs.Common.{[], ◌∷◌, rules}
use Rattle.agreed_rounds.proofs.Moves.{begins}
use Rattle.agreed_rounds.proofs.rounds.NoRounds.new.Goals as goal

pub ruled-requires : goal.ruled-requires
ruled-requires c = (search rules, (search rules, begins (0 ∷ [])))
