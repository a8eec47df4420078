use Rattle.std.proofs.Common.{◌≡◌, ◌-◌, arith, ap}
use Rattle.step_counts.proofs.Drawing.{deals}
use Rattle.step_counts.proofs.claims.cut_seats.Goals as goal

pub split_seat-requires : goal.split_seat-requires
split_seat-requires c = let v = c.loop-made.invariant.view in let low = c.loop-made-test.true in let wide = c.requires.making.1 in
    let shares : c.loop-made.origin.me.0.shares ≡ c.args.seats - c.loop-made._made = ap (λ me. me.0.shares) v in
    (c.loop-made.invariant.table, omega arith, deals _ _ _ (omega arith) (ap (λ me. me.0.drawn) v))
