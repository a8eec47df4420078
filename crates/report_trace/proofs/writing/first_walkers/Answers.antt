use Rattle.std.proofs.Common.{rules, ◌≡◌, ◌++◌, ◌∷◌, [], length, ap, arith}
use Rattle.std.proofs.lemmas.List.{length-append}
use Rattle.report_trace.proofs.Walkers.{one_more}
use Rattle.report_trace.proofs.writing.first_walkers.Goals as goal

pub loop-number-preserved : goal.loop-number-preserved
loop-number-preserved c =
    let items : c.push.new.self.items ≡ c.loop-number.walkers.items ++ c.new.result ∷ [] = search rules in
    let count = ap length items in
    let sum = length-append c.loop-number.walkers.items (c.new.result ∷ []) in
    let many = c.loop-number.invariant.many in
    record {
      many = omega (arith, count, sum, many);
      stand = λ journal. one_more journal c.loop-number.walkers.items c.push.new.self.items c.new.result items (c.loop-number.invariant.stand journal) c.new.ensures.lists c.new.ensures.points.0;
    }
