use Rattle.report_laws.specs.Stands.{closing}
use Rattle.std.proofs.Common.{◌∷◌}
use Rattle.report_check.proofs.LastLines.{left_open, left_must_be, left_takes}
use Rattle.report_check.proofs.closing.take_left.Goals as goal

pub returns-clause-taken : goal.returns-clause-taken
returns-clause-taken c = λ yes loaded run journal left at.
    c.demand.ensures.taken yes loaded (closing run journal (c.args.text.now ∷ left)) (closing run journal left) at (left_takes loaded run journal c.args.text.now left)

pub returns-clause-stuck : goal.returns-clause-stuck
returns-clause-stuck c = λ no loaded run journal left why at.
    c.demand.ensures.stuck no loaded (closing run journal (c.args.text.now ∷ left)) at (left_open run journal c.args.text.now left) (left_must_be loaded c.args.report.now c.args.cursor.now run journal c.args.text.now left) (λ line next other. why)
