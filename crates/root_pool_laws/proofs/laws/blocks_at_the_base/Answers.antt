use Rattle.root_pool_laws.proofs.Blocks.{none_unnamed}
use Rattle.root_pool_laws.proofs.laws.blocks_at_the_base.Goals as goal

pub returns : goal.returns
returns g c = record { free = none_unnamed }
