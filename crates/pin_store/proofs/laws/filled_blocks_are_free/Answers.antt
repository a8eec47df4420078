use Rattle.pin_store.proofs.Keeping.{held_named}
use Rattle.pin_store.proofs.laws.filled_blocks_are_free.Goals as goal

pub returns : goal.returns
returns g c = λ shape s kept block free seat i v f at number floor l named. free l (held_named g.L.Law.keeps shape s kept seat i v f l at number floor named)
