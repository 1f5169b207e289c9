use Rattle.pool_replay.proofs.Histories.{transcripts_are_histories_lem}
use Rattle.pool_replay.proofs.law.transcripts_are_histories.Goals as goal

pub returns : goal.returns
returns c = transcripts_are_histories_lem
