use Rattle.std.proofs.Common.{sym, subst}
use Rattle.store_history.specs.declared.places.TheConstants.{POOL_BLOCKS}
use Rattle.pin_store.specs.Calls.{IsUnnamed}
use Rattle.desk_pools.specs.Steps.{AreTaken}
use Rattle.shared_hook.proofs.desk_edits.room.taken_blocks.Goals as goal

-- src/room.rt:24:1
pub returns-clause-taken : goal.returns-clause-taken
returns-clause-taken c = λ h b p. subst (AreTaken POOL_BLOCKS (IsUnnamed b h) c.take_blocks.new.self.blocks) (sym c.from_vec.ensures) (c.take_blocks.ensures.taken h b p)
