use Rattle.std.proofs.Common.{rules, ◌∙◌, ap}
use Rattle.worker_rounds.proofs.Further.{one_drawn, all_drawn, below_next, seat_kept}
use Rattle.worker_rounds.proofs.working.work.Goals as goal

pub returns-then-number-count-clause-drawn : goal.returns-then-number-count-clause-drawn
returns-then-number-count-clause-drawn g c =
    let l = c.loop-least in
    all_drawn c.len-count.result _ l.least c.draw-number.result l.log l.seat.deeds c.draw-number.new.seat.deeds l.invariant.drawn c.len-count.ensures (ap (λ s. s.deeds) c.draw-number.ensures.drawn) (search rules)

pub work_one-requires-clause-below : goal.work_one-requires-clause-below
work_one-requires-clause-below g c κs within =
    let l = c.loop-least in
    below_next c.len-count.result l.least c.draw-number.result l.log l.seat.deeds l.invariant.drawn c.draw-number.ensures.rising

pub loop-least-preserved : goal.loop-least-preserved
loop-least-preserved g c =
    let l = c.loop-least in
    let drawn = c.draw-number.ensures.drawn in
    record {
      number = search rules;
      store = c.work_one.ensures.store;
      outside = c.work_one.ensures.outside;
      worked = search rules;
      drawn = one_drawn c.len-count.result l.least c.draw-number.result l.log c.work_one.new.log l.seat.deeds c.draw-number.new.seat.deeds l.invariant.drawn c.draw-number.ensures.rising
          (ap (λ s. s.deeds) drawn) c.in_ok-work_one.ensures.row (search rules);
      making = ap (λ s. s.making) drawn ∙ l.invariant.making;
      seat = seat_kept c.args.seat.now l.seat c.draw-number.new.seat c.draw-number.result l.invariant.seat drawn;
      low = search rules;
    }

pub returns-clause-drawn : goal.returns-clause-drawn
returns-clause-drawn g c =
    let l = c.loop-least in
    all_drawn c.len-count.result _ l.least c.draw.result l.log l.seat.deeds c.draw.new.seat.deeds l.invariant.drawn c.len-count.ensures (ap (λ s. s.deeds) c.draw.ensures.drawn)
    (let above = l.invariant.drawn.above c.draw.result c.draw.ensures.rising in search rules)
