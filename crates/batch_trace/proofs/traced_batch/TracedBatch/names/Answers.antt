use Rattle.batch_trace.proofs.Answering.{known}
use Rattle.batch_trace.proofs.traced_batch.TracedBatch.names.Goals as goal

pub new-requires : goal.new-requires
new-requires c =
    known c.self.inside.accepted c.self.inside.origins c.deref.result.now c.deref-2.result.now c.deref-3.result.now c.self.invariant c.deref.ensures.value c.deref-2.ensures.value c.deref-3.ensures.value
