use Rattle.std.proofs.Common.{ltb, arith, rules}
use Rattle.std.proofs.lemmas.Grind.{common_steps}
use Rattle.std.proofs.lemmas.List.Sorted.{IsPartitionPoint-from_clause, IsPartitionedBy-ltb}
use Rattle.act_registry.proofs.Serials.{rising-order, serial-only, serial-none}
use Rattle.act_registry.proofs.places.place_by_halving.Goals as goal

pub returns-in-Some-clause-here : goal.returns-in-Some-clause-here
returns-in-Some-clause-here g c =
    serial-only c.args.serial c.args.entries.now c.partition_point-at.result c.requires (grind (arith, common_steps)) (λ d. grind (arith, common_steps))

pub returns-in_default-clause-none : goal.returns-in_default-clause-none
returns-in_default-clause-none g c =
    let parted = IsPartitionedBy-ltb (λ e. e.serial) c.args.entries.now c.args.serial (rising-order c.args.entries.now c.requires) in
    let point = IsPartitionPoint-from_clause (λ e. ltb e.serial c.args.serial) _ _ c.partition_point-at.ensures.partitioned parted (λ a r q k. search rules) in
    serial-none c.args.serial c.args.entries.now c.partition_point-at.result c.requires point (λ within d same. grind (arith, common_steps))

pub returns-in_default-2-clause-none : goal.returns-in_default-2-clause-none
returns-in_default-2-clause-none g c =
    let parted = IsPartitionedBy-ltb (λ e. e.serial) c.args.entries.now c.args.serial (rising-order c.args.entries.now c.requires) in
    let point = IsPartitionPoint-from_clause (λ e. ltb e.serial c.args.serial) _ _ c.partition_point-at.ensures.partitioned parted (λ a r q k. search rules) in
    serial-none c.args.serial c.args.entries.now c.partition_point-at.result c.requires point (λ within d same. grind (arith, common_steps))
