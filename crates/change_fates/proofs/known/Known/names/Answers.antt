use Rattle.change_fates.proofs.Knowing.{naming}
use Rattle.change_fates.proofs.known.Known.names.Goals as goal

pub new-requires : goal.new-requires
new-requires c =
    naming c.self.inside.applied.now c.self.inside.origins.now c.self.invariant c.deref.result.now c.deref-2.result.now c.deref-3.result.now c.deref.ensures.value c.deref-2.ensures.value c.deref-3.ensures.value
