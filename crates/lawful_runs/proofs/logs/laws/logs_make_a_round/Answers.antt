use Rattle.lawful_runs.proofs.OfLogs.Logged.{round_walked}
use Rattle.lawful_runs.proofs.logs.laws.logs_make_a_round.Goals as goal

pub returns : goal.returns
returns c = λ journal before earlier arrivals logs outcomes are placed long.
    round_walked journal before earlier arrivals logs outcomes are placed long
