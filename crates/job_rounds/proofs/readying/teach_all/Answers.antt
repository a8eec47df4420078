use Rattle.std.proofs.Common.{length, arith}
use Rattle.job_rounds.specs.OfRoundState.Views.{journal}
use Rattle.job_rounds.specs.OfRoundState.Rounds.{store_name}
use Rattle.job_rounds.specs.Taught.{IsTaught}
use Rattle.job_rounds.proofs.Zipping.{zipped}
use Rattle.job_rounds.proofs.readying.teach_all.Goals as goal

pub returns-clause-taught : goal.returns-clause-taught
returns-clause-taught c = zipped (IsTaught (store_name c.args.store.now) (length (journal c.args.desk.now))) c.args.workers.now c.loop-worker.workers c.loop-worker.invariant.many
    (λ at d less. c.loop-worker.invariant.taught at d (omega (arith, less)))
