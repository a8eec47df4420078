use Rattle.report_trace.proofs.Knowing.{known}
use Rattle.report_trace.proofs.known.Known.names.Goals as goal

pub new-requires : goal.new-requires
new-requires c =
    known c.self.inside.replay.now c.self.inside.origins.now c.deref.result.now c.deref-2.result.now c.deref-3.result.now c.self.invariant c.deref.ensures.value c.deref-2.ensures.value c.deref-3.ensures.value
