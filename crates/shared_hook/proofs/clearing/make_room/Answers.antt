use Rattle.std.proofs.Common.{subst}
use Rattle.shared_hook.specs.Short.{IsShort}
use Rattle.shared_hook.specs.declared.counts.PoolCounts.{PoolCounts}
use Rattle.shared_hook.proofs.Shorts.{short_lacks}
use Rattle.shared_hook.proofs.clearing.make_room.Goals as goal

pub tidy_for-requires-clause-lacks : goal.tidy_for-requires-clause-lacks
tidy_for-requires-clause-lacks c = λ has. short_lacks c.args.parts.now.pools c.args.needs.now c.in_ok-short_pool.field-0
    (subst (λ (f : PoolCounts). IsShort f c.args.needs.now c.in_ok-short_pool.field-0) c.free_in.ensures c.in_ok-short_pool.ensures.short) has
