use Rattle.std.proofs.Common.{leb, sym, arith, rules, ◌-◌}
use Rattle.std.proofs.lemmas.Grind.{common_steps}
use Rattle.std.proofs.lemmas.List.Sorted.{IsPartitionPoint-from_clause, IsPartitionedBy-leb}
use Rattle.slot_pasts.proofs.Found.{all_late, last_early}
use Rattle.slot_pasts.proofs.past.last_until.Goals as goal

pub returns-then-after-eq0 : goal.returns-then-after-eq0
returns-then-after-eq0 g c =
    let parted = IsPartitionedBy-leb (λ e. e.from) c.args.changes.now c.args.point c.requires in
    let point = IsPartitionPoint-from_clause (λ e. leb e.from c.args.point) _ _ c.partition_point-after.ensures.partitioned parted (λ a r q k. search rules) in
    sym (all_late c.args.point c.args.changes.now (λ i d less. point.1 i d (grind (arith, common_steps)) less))

pub returns : goal.returns
returns g c =
    let parted = IsPartitionedBy-leb (λ e. e.from) c.args.changes.now c.args.point c.requires in
    let point = IsPartitionPoint-from_clause (λ e. leb e.from c.args.point) _ _ c.partition_point-after.ensures.partitioned parted (λ a r q k. search rules) in
    let some = last_early c.args.point (c.partition_point-after.result - 1) c.args.changes.now c.index-changes-after.result (grind (arith, common_steps))
    (λ i d less. point.0 i d (grind (arith, common_steps)) (grind (arith, common_steps))) (λ i d more less. point.1 i d (grind (arith, common_steps)) less) in
    sym some
