use Rattle.std.proofs.Common.{arith}
use Rattle.job_rounds.proofs.OfOneRound.OfOutcomes.Rising.{deeds_short}
use Rattle.job_rounds.proofs.OfOneRound.OfOutcomes.Back.{settled}
use Rattle.job_rounds.proofs.one_round.outcomes.settling.settle.Goals as goal

pub draw_past-requires-clause-few : goal.draw_past-requires-clause-few
draw_past-requires-clause-few c =
    let short = deeds_short c.args.count c.args.seats.items c.args.logs.items c.requires.drawn c.requires.rising in
    let few = c.requires.few in
    omega (arith, short, few)

pub returns-clause-walked : goal.returns-clause-walked
returns-clause-walked c = settled c.args.logs.items c.args.count c.put_together.result c.put_together.ensures.placed c.put_together.ensures.many
