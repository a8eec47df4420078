use Rattle.std.proofs.Common.{[]}
use Rattle.lawful_runs.specs.Given.{given_rounds}
use Rattle.lawful_runs.specs.Lawful.{outcomes_in}
use Rattle.filter_state.proofs.Places.{pair_at}
use Rattle.lawful_runs.proofs.Behind.{NoneBefore, rounds_behind}
use Rattle.lawful_runs.proofs.laws.workers_go_forward.Goals as goal

pub returns : goal.returns
returns c = λ loaded run journal early late visit again point later one other are order is at same.
    pair_at NoneBefore (outcomes_in run.rounds) (rounds_behind loaded.job.workers (given_rounds loaded) [] [] run.rounds journal are.rounds tt) early late one other order is at same visit again point later
