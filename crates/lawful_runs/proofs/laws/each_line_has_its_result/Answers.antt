use Rattle.lawful_runs.specs.Given.{given_rounds}
use Rattle.lawful_runs.proofs.Events.{event_met}
use Rattle.lawful_runs.proofs.laws.each_line_has_its_result.Goals as goal

pub returns : goal.returns
returns c = λ loaded run journal round place given it event are. event_met loaded.job.workers (given_rounds loaded) run.rounds journal round place given it event are.rounds
