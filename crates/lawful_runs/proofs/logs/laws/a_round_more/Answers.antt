use Rattle.std.proofs.Common.{[]}
use Rattle.lawful_runs.proofs.OfLogs.RoundMore.{rounds_further}
use Rattle.lawful_runs.proofs.logs.laws.a_round_more.Goals as goal

pub returns : goal.returns
returns c = λ workers rounds round its it journal edits are one.
    rounds_further workers rounds round [] [] its it journal edits are one
