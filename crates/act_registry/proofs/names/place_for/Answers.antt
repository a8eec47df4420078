use Rattle.std.proofs.Common.{rules}
use Rattle.std.proofs.lemmas.List.Sorted.{IsPartitionPoint-from_clause}
use Rattle.act_registry.specs.Names.{is_before}
use Rattle.act_registry.proofs.Order.{sorted-parts}
use Rattle.act_registry.proofs.names.place_for.Goals as goal

pub returns : goal.returns
returns c =
    let parts = sorted-parts c.args.kind c.args.index _ c.requires in (
      c.partition_point.ensures.bound,
      IsPartitionPoint-from_clause (λ n. is_before c.args.kind c.args.index n) _ _ c.partition_point.ensures.partitioned parts (λ a r q k. search rules),
    )
