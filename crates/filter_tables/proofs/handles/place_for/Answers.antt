use Rattle.std.proofs.Common.{ltb, rules}
use Rattle.std.proofs.lemmas.List.Sorted.{IsPartitionPoint-from_clause}
use Rattle.filter_tables.proofs.Rising.{rising_parts}
use Rattle.filter_tables.proofs.handles.place_for.Goals as goal

pub returns : goal.returns
returns c = (
  c.partition_point.ensures.bound,
  IsPartitionPoint-from_clause (λ n. ltb n c.args.handle) _ _ c.partition_point.ensures.partitioned (rising_parts c.args.handle _ c.requires) (λ a r q k. search rules),
)
