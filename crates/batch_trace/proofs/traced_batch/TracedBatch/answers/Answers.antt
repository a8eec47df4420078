use Rattle.batch_trace.proofs.Answering.{answered}
use Rattle.batch_trace.proofs.traced_batch.TracedBatch.answers.Goals as goal

pub returns : goal.returns
returns c = answered c.self.inside.accepted c.args.self.now c.new.result c.deref.result.now c.self.invariant.kept c.actions-actions.ensures.kept c.self.view_is c.new.ensures c.deref.ensures.value
