use Rattle.report_trace.proofs.Knowing.{answers_by, remembered}
use Rattle.report_trace.proofs.known.Known.answers.Goals as goal

pub new-requires : goal.new-requires
new-requires c = remembered c.self.inside.replay.now c.self.inside.origins.now _ c.self.invariant c.deref.ensures.value

pub returns : goal.returns
returns c = answers_by c.self.inside.replay.now c.self.inside.origins.now c.args.self.now c.args.lists.now _ c.deref.result.now c.self.invariant c.self.view_is c.new.ensures c.deref.ensures.value
