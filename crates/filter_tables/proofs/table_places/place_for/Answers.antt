use Rattle.std.proofs.Common.{rules}
use Rattle.std.proofs.lemmas.List.Sorted.{IsPartitionPoint-from_clause}
use Rattle.filter_tables.specs.Seen.{plain_table}
use Rattle.filter_tables.specs.TablePlaces.{is_ahead}
use Rattle.filter_tables.proofs.TableOrder.{table_parts}
use Rattle.filter_tables.proofs.table_places.place_for.Goals as goal

pub returns : goal.returns
returns c = (
  c.partition_point.ensures.bound,
  IsPartitionPoint-from_clause (λ t. is_ahead c.args.chain c.args.pref (plain_table t)) _ _ c.partition_point.ensures.partitioned
      (table_parts plain_table c.args.chain c.args.pref _ c.requires) (λ a r q k. search rules),
)
