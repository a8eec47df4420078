use Rattle.job_rounds.proofs.OfOneRound.Later.{walked_seen}
use Rattle.job_rounds.proofs.one_round.laws.walks_are_seen.Goals as goal

pub returns : goal.returns
returns c = walked_seen
