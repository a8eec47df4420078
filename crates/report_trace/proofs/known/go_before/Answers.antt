use Rattle.report_trace.proofs.Walkers.{fresh_stands}
use Rattle.report_trace.proofs.known.go_before.Goals as goal

pub returns-then-point-walker-clause-stands : goal.returns-then-point-walker-clause-stands
returns-then-point-walker-clause-stands c = λ journal stands. fresh_stands journal c.new.result c.new.ensures.lists c.new.ensures.points.0
