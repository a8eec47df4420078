use Rattle.std.proofs.Common.{[]}
use Rattle.lawful_runs.specs.Given.{given_rounds}
use Rattle.lawful_runs.proofs.Rounds.{rounds_lawful}
use Rattle.lawful_runs.proofs.Packets.{packet_walked, quiet_walk}
use Rattle.lawful_runs.proofs.laws.each_packet_is_walked.Goals as goal

pub returns-clause-walked : goal.returns-clause-walked
returns-clause-walked c = λ loaded run journal round place given it arrival outcome are here is came ended.
    packet_walked loaded.job.workers (given_rounds loaded) run.rounds journal are.rounds round place given it arrival outcome here is came ended

pub returns-clause-quiet : goal.returns-clause-quiet
returns-clause-quiet c = λ loaded run journal round place given it arrival outcome are here is came ended.
    quiet_walk loaded.job.workers (given_rounds loaded) run.rounds journal are.rounds round place given it arrival outcome here is came ended
    (rounds_lawful loaded.job.workers (given_rounds loaded) [] [] run.rounds journal are.rounds tt)
