use Rattle.std.proofs.Common.{◌∙◌, sym, ap}
use Rattle.worker_rounds.specs.OfLogs.Rows.{outcomes_of}
use Rattle.worker_rounds.proofs.OfLogs.Logged.{outcomes_are}
use Rattle.worker_rounds.proofs.logs.walk_log.WalkLog.into_outcomes.Goals as goal

pub returns : goal.returns
returns c = sym (outcomes_are c.self.inside.numbers.items c.self.inside.outcomes c.self.invariant) ∙ ap outcomes_of c.self.view_is
