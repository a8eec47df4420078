use Rattle.job_rounds.proofs.OfOneRound.Later.{walked_few}
use Rattle.job_rounds.proofs.one_round.laws.walks_are_few.Goals as goal

pub returns : goal.returns
returns c = walked_few
