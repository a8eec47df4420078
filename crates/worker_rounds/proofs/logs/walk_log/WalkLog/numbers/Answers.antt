use Rattle.std.proofs.Common.{◌∙◌, sym, ap}
use Rattle.worker_rounds.specs.OfLogs.Rows.{numbers_of}
use Rattle.worker_rounds.proofs.OfLogs.Logged.{numbers_are}
use Rattle.worker_rounds.proofs.logs.walk_log.WalkLog.numbers.Goals as goal

pub returns : goal.returns
returns c =
    c.deref.ensures.value ∙ sym (numbers_are c.self.inside.numbers.items c.self.inside.outcomes c.self.invariant) ∙ ap numbers_of c.self.view_is
