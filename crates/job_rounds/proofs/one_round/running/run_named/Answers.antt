use Rattle.std.proofs.Common.{length}
use Rattle.job_rounds.specs.OfRoundState.Rounds.{store_name}
use Rattle.job_rounds.proofs.OfOneRound.Claimed.{claimed}
use Rattle.job_rounds.proofs.one_round.running.run_named.Goals as goal

pub run_hands-requires-clause-hands : goal.run_hands-requires-clause-hands
run_hands-requires-clause-hands g c κs within =
    let job = c.requires.named.round.loaded.job in
    claimed (store_name c.args.store.now) c.in-Ok.it.0 (length c.args.packets.now) c.args.job.now.job.workers c.args.workers.items c.in-Ok.it.1.items c.requires.workers job.0 job.1
    c.in-Ok.ensures.workers c.in-Ok.ensures.seats
