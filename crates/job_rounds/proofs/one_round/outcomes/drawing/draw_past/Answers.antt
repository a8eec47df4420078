use Rattle.std.proofs.Common.{length, ap, arith}
use Rattle.job_rounds.proofs.OfOneRound.OfOutcomes.Giving.{apart}
use Rattle.job_rounds.proofs.OfOneRound.OfOutcomes.Drew.{all_making, all_deeds, drawn_past}
use Rattle.job_rounds.proofs.one_round.outcomes.drawing.draw_past.Goals as goal

pub draw-requires-clause-making : goal.draw-requires-clause-making
draw-requires-clause-making c =
    let seats = c.args.seats.items in
    let first = c.remove-all.result in
    let others = c.remove-all.new.self.items in
    let it = apart c.args.claims.now seats others first c.requires.some c.requires.seats c.remove-all.ensures.value c.remove-all.ensures.items in
    all_making c.args.claims.now seats others first c.give_all.new.into c.give_all.new.into it c.give_all.ensures.given

pub draw-requires-clause-few : goal.draw-requires-clause-few
draw-requires-clause-few c =
    let seats = c.args.seats.items in
    let first = c.remove-all.result in
    let others = c.remove-all.new.self.items in
    let it = apart c.args.claims.now seats others first c.requires.some c.requires.seats c.remove-all.ensures.value c.remove-all.ensures.items in
    let same = ap length (all_deeds c.args.claims.now seats others first c.give_all.new.into c.give_all.new.into it c.give_all.ensures.given) in
    let few = c.requires.few in
    omega (arith, same, few)

pub returns : goal.returns
returns c =
    let seats = c.args.seats.items in
    let first = c.remove-all.result in
    let others = c.remove-all.new.self.items in
    let it = apart c.args.claims.now seats others first c.requires.some c.requires.seats c.remove-all.ensures.value c.remove-all.ensures.items in
    record {
      each_once = drawn_past c.args.claims.now seats others first c.give_all.new.into c.draw.new.seat it c.give_all.ensures.given c.draw.result c.draw.ensures.drawn c.draw.ensures.all c.requires.some;
    }
