use Rattle.std.proofs.Common.{rules, ◌≡◌, ◌∙◌, ◌++◌, ◌∷◌, [], List, length, refl, ap, sym, arith}
use Rattle.std.specs.Prelude.{slice_get}
use Rattle.std.proofs.lemmas.List.{length-append}
use Rattle.report_check.specs.declared.walker.Walker.{Walker}
use Rattle.report_check.proofs.Begun.{IsFresh, one_more, all_fresh}
use Rattle.report_check.proofs.walkers.Walkers.new.Goals as goal

pub loop-number-preserved : goal.loop-number-preserved
loop-number-preserved c =
    let items : c.push.new.self.items ≡ c.loop-number.each.items ++ c.new.result ∷ [] = search rules in
    let fresh : IsFresh c.new.result = record { spells = c.new.ensures.lists; at_start = c.new.ensures.points.0; unseen = c.new.ensures.points.1 } in
    let count = ap length items in
    let sum = length-append c.loop-number.each.items (c.new.result ∷ []) in
    let many = c.loop-number.invariant.many in
    record {
      many = omega (arith, count, sum, many);
      fresh = λ index walker is. one_more c.loop-number.each.items c.new.result fresh c.loop-number.invariant.fresh index walker (ap (λ (ws : List Walker). slice_get ws index) (sym items) ∙ is);
    }

pub returns : goal.returns
returns c =
    let l = c.loop-number in
    let many = l.invariant.many in
    let end = c.loop-number-test.false in
    all_fresh c.args.workers (record { each = l.each; counts = c.new-2.result; passed = 0; dropped = 0; room = c.in_ok-new.field-0 }) (omega (arith, many, end)) l.invariant.fresh c.new-2.ensures refl refl
