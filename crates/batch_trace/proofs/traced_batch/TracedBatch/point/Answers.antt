use Rattle.std.proofs.Common.{◌∙◌}
use Rattle.batch_trace.proofs.Answering.{long}
use Rattle.batch_trace.proofs.traced_batch.TracedBatch.point.Goals as goal

pub returns-clause-point : goal.returns-clause-point
returns-clause-point c = c.point.ensures ∙ c.self.invariant.kept.remembers.point ∙ long c.self.inside.accepted c.args.self.now c.self.invariant.kept c.self.view_is
